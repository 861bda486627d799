use Rattle.std.proofs.Common.{◌+◌, ◌<◌, ◌==◌, ◌∙◌, ap, arith, slice_get, Some, sym}
use Rattle.std.specs.Int.{bit_at}
use Rattle.std.specs.Ordering.{bool_cmp, is_eq}
use Rattle.arrow_types.proofs.CallerLemmas.{get-map}
use Rattle.arrow_column.specs.Column.{stored_values}
use Rattle.compute_comparison.proofs.comparison.booleans.BoolEqualScalarBooleanArray.equal_word.Goals as goal

pub returns : goal.returns
returns c k low =
    let wide : k < 64 = omega (arith, low, c.requires.few) in
    get-map (λ x. is_eq (bool_cmp x c.args.rhs)) (stored_values c.args.lhs.now) (c.args.place + k)
    (bit_at c.word_of.result k == 1)
    (ap (λ values. slice_get values (c.args.place + k)) (sym c.values.ensures) ∙ c.word_of.ensures k low)
    ∙ ap (λ bit. Some (is_eq (bool_cmp (bit_at c.word_of.result k == 1) bit))) (sym (c.repeat_bit.ensures k wide))
    ∙ ap Some (sym (c.test_words.ensures k wide))
