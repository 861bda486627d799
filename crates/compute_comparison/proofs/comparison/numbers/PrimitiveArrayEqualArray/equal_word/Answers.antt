use Rattle.std.proofs.Common.{arith, ap, length, ◌∙◌}
use Rattle.std.proofs.lemmas.List.{length-map}
use Rattle.compute_comparison.proofs.PairLemmas.{length-pairs}
use Rattle.compute_comparison.proofs.comparison.numbers.PrimitiveArrayEqualArray.equal_word.Goals as goal

pub word-requires-clause-within : goal.word-requires-clause-within
word-requires-clause-within g c = omega (
  arith,
  c.requires.left,
  c.requires.right,
  length-pairs (λ truth. truth) g.T.PartialEq.eq c.as_slice.result.now c.as_slice-2.result.now,
  ap length (c.as_slice.ensures ∙ c.values.ensures),
  ap length (c.as_slice-2.ensures ∙ c.values-2.ensures),
  length-map c.args.lhs.now.rows (λ row. row.0),
  length-map c.args.rhs.now.rows (λ row. row.0),
)
