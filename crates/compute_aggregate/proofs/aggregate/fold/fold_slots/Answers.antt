use Rattle.std.proofs.Common.{◌≡◌, ◌∙◌, ap, fold, sym}
use Rattle.std.specs.Prelude.{count_by, not}
use Rattle.arrow_column.specs.Column.{marks_of}
use Rattle.compute_aggregate.specs.Folds.{values_or}
use Rattle.compute_aggregate.proofs.FoldLemmas.{values-masked, values-no_null, values-unmasked}
use Rattle.compute_aggregate.proofs.aggregate.fold.fold_slots.Goals as goal

pub returns-then-null_count-eq0 : goal.returns-then-null_count-eq0
returns-then-null_count-eq0 g c =
    let none : 0 ≡ count_by not (marks_of c.args.array.now) = sym c.if-null_count-eq0.true ∙ c.null_count.ensures in
    c.fold_values.ensures ∙ ap (fold g.F.Folder.step c.args.start)
    (c.as_slice-values.ensures ∙ c.values.ensures ∙ values-no_null c.args.null c.args.array.now none)

pub returns-in-None : goal.returns-in-None
returns-in-None g c =
    c.fold_values-in-None.ensures ∙ ap (fold g.F.Folder.step c.args.start)
    (c.as_slice-values.ensures ∙ c.values.ensures
    ∙ values-unmasked c.args.null c.args.array.now c.validity.ensures.is_column (sym c.in-None.ensures.mask))

pub returns-in-Some : goal.returns-in-Some
returns-in-Some g c =
    c.fold_masked.ensures ∙ ap (fold g.F.Folder.step c.args.start)
    (ap (λ values. values_or c.args.null values c.in-Some.mask.now) (c.as_slice-values.ensures ∙ c.values.ensures)
    ∙ values-masked c.args.null c.args.array.now c.in-Some.mask.now (sym c.in-Some.ensures.mask))
