use Rattle.std.proofs.Common.{◌+◌, ◌==◌, ◌∙◌, ap, arith, Some, sym}
use Rattle.std.specs.Int.{bit_at}
use Rattle.std.proofs.lemmas.List.{length-map}
use Rattle.arrow_column.specs.Column.{stored_values}
use Rattle.compute_comparison.proofs.PairLemmas.{length-pairs, tested-pair}
use Rattle.compute_comparison.proofs.comparison.words.ValuePairsMarkWords.word.Goals as goal

pub equal_word-requires-clause-left : goal.equal_word-requires-clause-left
equal_word-requires-clause-left g c = omega (
  arith,
  c.requires.within,
  length-map (g.A.Array.column c.args.self.now.lhs.now).rows (λ row. row.0),
  length-map (g.A.Array.column c.args.self.now.rhs.now).rows (λ row. row.0),
  length-pairs g.C.Equality.holds g.A.EqualArray.equal (stored_values (g.A.Array.column c.args.self.now.lhs.now))
      (stored_values (g.A.Array.column c.args.self.now.rhs.now)),
)

pub equal_word-requires-clause-right : goal.equal_word-requires-clause-right
equal_word-requires-clause-right g c = omega (
  arith,
  c.requires.within,
  length-map (g.A.Array.column c.args.self.now.lhs.now).rows (λ row. row.0),
  length-map (g.A.Array.column c.args.self.now.rhs.now).rows (λ row. row.0),
  length-pairs g.C.Equality.holds g.A.EqualArray.equal (stored_values (g.A.Array.column c.args.self.now.lhs.now))
      (stored_values (g.A.Array.column c.args.self.now.rhs.now)),
)

pub returns : goal.returns
returns g c k low =
    tested-pair g.C.Equality.holds g.A.EqualArray.equal (stored_values (g.A.Array.column c.args.self.now.lhs.now))
    (stored_values (g.A.Array.column c.args.self.now.rhs.now)) (c.args.place + k) (bit_at c.equal_word.result k == 1)
    (c.equal_word.ensures k low)
    ∙ ap Some (sym (c.test_equal_words.ensures k (omega (arith, low, c.requires.few))))
