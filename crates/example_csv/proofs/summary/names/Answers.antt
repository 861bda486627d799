use Rattle.std.proofs.Common.{◌∙◌, Some, ap}
use Rattle.dethrugn.specs.Column.{slots_of}
use Rattle.example_record_batch.specs.AnyArrays.{text}
use Rattle.example_csv.proofs.SummaryLemmas.{cells-made}
use Rattle.example_csv.proofs.summary.names.Goals as goal

pub returns-clause-ok : goal.returns-clause-ok
returns-clause-ok c =
    let frozen = ap slots_of c.in_ok-freeze.ensures.ok ∙ c.appended_slots.ensures.frozen c.loop-field.names in
    cells-made text (λ column. Some (column.name)) _ c.args.table.now _ _ c.fields-field-items.ensures.columns
    c.loop-field-test.false (frozen ∙ c.loop-field.invariant)
