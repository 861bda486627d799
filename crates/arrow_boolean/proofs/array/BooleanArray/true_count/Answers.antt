use Rattle.std.proofs.Common.{ap, count_by, sym, ◌∙◌}
use Rattle.std.specs.Option.{option_copied}
use Rattle.arrow_column.specs.Combined.{set_in_both}
use Rattle.arrow_boolean.proofs.TruthLemmas.{bare-true, masked-true, valid-true}
use Rattle.arrow_boolean.proofs.array.BooleanArray.true_count.Goals as goal

pub returns-in_default : goal.returns-in_default
returns-in_default c =
    c.count_set.ensures
    ∙ ap (count_by (λ mark. mark)) c.values.ensures
    ∙ bare-true c.args.self.now c.validity.ensures.is_column (sym c.validity.ensures.mask
    ∙ ap (λ o. option_copied o) c.in_default.is)

pub returns-then-null_count-eq0 : goal.returns-then-null_count-eq0
returns-then-null_count-eq0 c =
    c.count_set-then-null_count-eq0.ensures
    ∙ ap (count_by (λ mark. mark)) c.values-then-null_count-eq0.ensures
    ∙ valid-true c.args.self.now (sym c.null_count.ensures ∙ c.if-null_count-eq0.true)

pub returns : goal.returns
returns c =
    c.count_both.ensures
    ∙ ap (λ values. count_by (λ mark. mark) (set_in_both values c.in-Some.validity.now)) c.values-2.ensures
    ∙ masked-true c.args.self.now c.in-Some.validity.now (sym c.in-Some.ensures.mask)
