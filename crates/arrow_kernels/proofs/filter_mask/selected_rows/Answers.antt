use Rattle.std.proofs.Common.{ap, length, sym, ◌∙◌}
use Rattle.std.specs.Option.{option_copied}
use Rattle.std.proofs.lemmas.Result.{MatchResult-weaker}
use Rattle.arrow_column.proofs.CallerLemmas.{length-mask}
use Rattle.compute_base.proofs.CallerLemmas.{in_both}
use Rattle.arrow_kernels.proofs.ChoiceLemmas.{bare-asked, masked-asked, valid-asked}
use Rattle.arrow_kernels.proofs.filter_mask.selected_rows.Goals as goal

pub returns-in_default-clause-ok : goal.returns-in_default-clause-ok
returns-in_default-clause-ok c =
    let bare = bare-asked c.args.filter.now c.validity.ensures.is_column (sym c.validity.ensures.mask
    ∙ ap (λ o. option_copied o) c.in_default.is) in
    MatchResult-weaker c.clone.result c.clone.ensures.ok (λ marks e. e ∙ c.values.ensures ∙ sym bare) (λ _ t. t)

pub returns-then-unset_bits-eq0-clause-ok : goal.returns-then-unset_bits-eq0-clause-ok
returns-then-unset_bits-eq0-clause-ok c =
    let all = valid-asked c.args.filter.now c.in-Some.validity.now (sym c.in-Some.ensures.mask)
    (sym c.unset_bits.ensures ∙ c.if-unset_bits-eq0.true) in
    MatchResult-weaker c.clone-then-unset_bits-eq0.result c.clone-then-unset_bits-eq0.ensures.ok (λ marks e. e
    ∙ c.values-then-unset_bits-eq0.ensures ∙ sym all) (λ _ t. t)

pub and-requires : goal.and-requires
and-requires c = length-mask c.args.filter.now c.in-Some.validity.now (sym c.in-Some.ensures.mask)
    ∙ ap length (sym c.values-2.ensures)

pub returns-clause-ok : goal.returns-clause-ok
returns-clause-ok c =
    let both = masked-asked c.args.filter.now c.in-Some.validity.now (sym c.in-Some.ensures.mask) in
    MatchResult-weaker c.and.result c.and.ensures.ok (λ marks e. e
    ∙ ap (in_both c.in-Some.validity.now) c.values-2.ensures ∙ sym both) (λ _ t. t)
