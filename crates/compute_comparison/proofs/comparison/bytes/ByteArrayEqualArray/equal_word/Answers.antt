use Rattle.std.proofs.Common.{arith}
use Rattle.std.specs.Ordering.{is_eq, nat_cmp}
use Rattle.std.specs.Cmp.Lexicographic.{slice_cmp}
use Rattle.std.proofs.lemmas.List.{length-map}
use Rattle.arrow_column.specs.Column.{stored_values}
use Rattle.compute_comparison.proofs.PairLemmas.{length-pairs}
use Rattle.compute_comparison.proofs.comparison.bytes.ByteArrayEqualArray.equal_word.Goals as goal

pub word-requires-clause-within : goal.word-requires-clause-within
word-requires-clause-within g c = omega (
  arith,
  c.requires.left,
  c.requires.right,
  length-map c.args.lhs.now.rows (λ row. row.0),
  length-map c.args.rhs.now.rows (λ row. row.0),
  length-pairs is_eq (slice_cmp nat_cmp) (stored_values c.args.lhs.now) (stored_values c.args.rhs.now),
)

pub returns : goal.returns
returns g c = c.word.ensures
