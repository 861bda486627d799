use Rattle.std.proofs.Common.{◌+◌, ◌==◌, ◌∙◌, ap, arith, Some, sym}
use Rattle.std.specs.Int.{bit_at}
use Rattle.std.proofs.lemmas.List.{length-map}
use Rattle.arrow_column.specs.Column.{stored_values}
use Rattle.compute_comparison.proofs.PairLemmas.{length-scalar, tested-scalar}
use Rattle.compute_comparison.proofs.comparison.words.ValuesByScalarMarkWords.word.Goals as goal

pub equal_word-requires-clause-within : goal.equal_word-requires-clause-within
equal_word-requires-clause-within g c = omega (
  arith,
  c.requires.within,
  length-map (g.A.Array.column c.args.self.now.lhs.now).rows (λ row. row.0),
  length-scalar g.C.Equality.holds g.A.EqualArray.equal (stored_values (g.A.Array.column c.args.self.now.lhs.now))
      (g.S.EqualScalar.value c.args.self.now.rhs),
)

pub returns : goal.returns
returns g c k low =
    tested-scalar g.C.Equality.holds g.A.EqualArray.equal (stored_values (g.A.Array.column c.args.self.now.lhs.now))
    (g.S.EqualScalar.value c.args.self.now.rhs) (c.args.place + k) (bit_at c.equal_word.result k == 1)
    (c.equal_word.ensures k low)
    ∙ ap Some (sym (c.test_equal_words.ensures k (omega (arith, low, c.requires.few))))
