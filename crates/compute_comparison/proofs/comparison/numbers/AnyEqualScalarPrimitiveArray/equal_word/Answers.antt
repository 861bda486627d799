use Rattle.std.proofs.Common.{arith, ap, length, ◌∙◌}
use Rattle.std.proofs.lemmas.List.{length-map}
use Rattle.compute_comparison.proofs.PairLemmas.{length-scalar}
use Rattle.compute_comparison.proofs.comparison.numbers.AnyEqualScalarPrimitiveArray.equal_word.Goals as goal

pub word-requires-clause-within : goal.word-requires-clause-within
word-requires-clause-within g c = omega (
  arith,
  c.requires.within,
  length-scalar (λ truth. truth) g.T.PartialEq.eq c.as_slice.result.now c.args.rhs,
  ap length (c.as_slice.ensures ∙ c.values.ensures),
  length-map c.args.lhs.now.rows (λ row. row.0),
)
