use Rattle.std.proofs.Common.{◌∙◌, Some, ap}
use Rattle.dethrugn.specs.Column.{slots_of}
use Rattle.example_record_batch.specs.AnyArrays.{number, slot_count}
use Rattle.example_csv.specs.Summary.{count_number}
use Rattle.example_csv.proofs.SummaryLemmas.{cells-made}
use Rattle.example_csv.proofs.summary.row_counts.Goals as goal

pub returns-clause-ok : goal.returns-clause-ok
returns-clause-ok c =
    let frozen = ap slots_of c.in_ok-freeze.ensures.ok ∙ c.appended_slots.ensures.frozen c.loop-field.counts in
    cells-made number (λ column. Some (count_number (slot_count column.array))) _ c.args.table.now _ _
    c.fields-field-items.ensures.columns c.loop-field-test.false (frozen ∙ c.loop-field.invariant)
