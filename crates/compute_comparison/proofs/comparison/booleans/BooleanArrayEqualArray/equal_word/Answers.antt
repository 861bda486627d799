use Rattle.std.proofs.Common.{◌+◌, ◌<◌, ◌==◌, ◌∙◌, ap, arith, slice_get, Some, sym}
use Rattle.std.specs.Int.{bit_at}
use Rattle.std.specs.Ordering.{bool_cmp, is_eq}
use Rattle.arrow_types.proofs.CallerLemmas.{get-combined}
use Rattle.arrow_column.specs.Column.{stored_values}
use Rattle.compute_comparison.proofs.comparison.booleans.BooleanArrayEqualArray.equal_word.Goals as goal

pub returns : goal.returns
returns c k low =
    let wide : k < 64 = omega (arith, low, c.requires.few) in
    get-combined (λ x y. is_eq (bool_cmp x y)) (stored_values c.args.lhs.now) (stored_values c.args.rhs.now)
    (c.args.place + k) (bit_at c.word_of.result k == 1) (bit_at c.word_of-2.result k == 1)
    (ap (λ values. slice_get values (c.args.place + k)) (sym c.values.ensures) ∙ c.word_of.ensures k low)
    (ap (λ values. slice_get values (c.args.place + k)) (sym c.values-2.ensures) ∙ c.word_of-2.ensures k low)
    ∙ ap Some (sym (c.test_words.ensures k wide))
