use Rattle.std.proofs.Common.{◌+◌, ◌<◌, ◌∙◌, ap, arith, is_some, None, Some, sym}
use Rattle.arrow_types.proofs.CallerLemmas.{get-map}
use Rattle.arrow_column.specs.Column.{slots_of}
use Rattle.compute_comparison.specs.Kleene.{slot_bit}
use Rattle.compute_comparison.proofs.KleeneLemmas.{null-bit}
use Rattle.compute_comparison.proofs.ScalarLemmas.{length-with_null}
use Rattle.compute_comparison.proofs.boolean_kleene.KnownWithNullMarkWords.word.Goals as goal

pub slot_words-slots-requires-clause-within : goal.slot_words-slots-requires-clause-within
slot_words-slots-requires-clause-within g c = omega (
  arith,
  c.requires.within,
  length-with_null g.K.KleeneOperation.table c.args.self.now.array.now,
)

pub returns : goal.returns
returns g c k low =
    let table = g.K.KleeneOperation.table in
    let bit = slot_bit c.slot_words-slots.result.values c.slot_words-slots.result.marks k in
    let wide : k < 64 = omega (arith, low, c.requires.few) in
    get-map (λ s. is_some (table s None)) (slots_of c.args.self.now.array.now) (c.args.place + k) bit
    (c.slot_words-slots.ensures k low)
    ∙ ap (λ s. Some (is_some (table bit s))) (sym (null-bit k)) ∙ ap Some (sym (c.known.ensures k wide))
