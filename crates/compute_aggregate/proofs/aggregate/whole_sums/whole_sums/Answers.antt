use Rattle.std.proofs.Common.{◌≡◌, ◌∙◌, None, Some, ap, length, subst, sym}
use Rattle.std.specs.Prelude.{count_by, not}
use Rattle.arrow_column.specs.Column.{marks_of}
use Rattle.arrow_memory.specs.Rows.{rows_of}
use Rattle.compute_aggregate.specs.GroupSums.{SumsTo, slots_by_group}
use Rattle.compute_aggregate.proofs.GroupSumLemmas.{rows_masked, rows_no_null, rows_unmasked}
use Rattle.compute_aggregate.proofs.aggregate.whole_sums.whole_sums.Goals as goal

pub returns-then-null_count-eq0 : goal.returns-then-null_count-eq0
returns-then-null_count-eq0 g c = λ e.
    let none : 0 ≡ count_by not (marks_of c.args.array.now) = sym c.if-null_count-eq0.true ∙ c.null_count.ensures in
    subst (λ rows. SumsTo g.T.NativeArithmetics.number (slots_by_group c.args.indices.now rows) (length c.args.indices.now)
    c.add_values.new.sums)
    (ap (λ values. rows_of values None) (c.as_slice-values.ensures ∙ c.values.ensures) ∙ rows_no_null c.args.array.now none)
    (c.add_values.ensures e)

pub returns-in-None : goal.returns-in-None
returns-in-None g c = λ e.
    subst (λ rows. SumsTo g.T.NativeArithmetics.number (slots_by_group c.args.indices.now rows) (length c.args.indices.now)
    c.add_values-in-None.new.sums)
    (ap (λ values. rows_of values None) (c.as_slice-values.ensures ∙ c.values.ensures)
    ∙ rows_unmasked c.args.array.now c.validity.ensures.is_column (sym c.in-None.ensures.mask))
    (c.add_values-in-None.ensures e)

pub returns-in-Some : goal.returns-in-Some
returns-in-Some g c = λ e.
    subst (λ rows. SumsTo g.T.NativeArithmetics.number (slots_by_group c.args.indices.now rows) (length c.args.indices.now)
    c.add_masked.new.sums)
    (ap (λ values. rows_of values (Some c.in-Some.mask.now)) (c.as_slice-values.ensures ∙ c.values.ensures)
    ∙ rows_masked c.args.array.now c.in-Some.mask.now (sym c.in-Some.ensures.mask))
    (c.add_masked.ensures e)
