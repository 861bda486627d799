use Rattle.std.proofs.Common.{◌∙◌, [], ap, map}
use Rattle.dethrugn.specs.Column.{slots_of}
use Rattle.example_record_batch.specs.AnyArrays.{text}
use Rattle.example_csv.specs.Summary.{IsGreatestOf}
use Rattle.example_csv.proofs.SummaryLemmas.{all_columns, texts-more}
use Rattle.example_csv.proofs.summary.greatest_texts.Goals as goal

pub loop-field-preserved : goal.loop-field-preserved
loop-field-preserved c =
    let slots = ap slots_of c.in_ok-push.ensures.ok.1 ∙ c.appended_slots.ensures.one [] c.loop-field.texts _ in
    rw slots
    (texts-more (λ column shown. IsGreatestOf column.array shown) _ _ _ _ _ c.loop-field-test.true c.field-item.is c.loop-field.invariant c.in_ok-greatest_text.ensures)

pub returns-clause-ok : goal.returns-clause-ok
returns-clause-ok c =
    let columns = all_columns _ c.args.table.now _ c.fields-field-items.ensures.columns c.loop-field-test.false in
    let frozen = ap slots_of c.in_ok-freeze.ensures.ok ∙ c.appended_slots.ensures.frozen c.loop-field.texts in
    (slots_of c.loop-field.texts, rw columns at c.loop-field.invariant, ap (map text) frozen)
