use Rattle.std.proofs.Common.{arith}
use Rattle.std.specs.Ordering.{nat_cmp}
use Rattle.std.specs.Cmp.Lexicographic.{slice_cmp}
use Rattle.std.proofs.lemmas.List.{length-map}
use Rattle.arrow_column.specs.Column.{stored_values}
use Rattle.compute_comparison.proofs.PairLemmas.{length-pairs}
use Rattle.compute_comparison.proofs.comparison.bytes.ItemPairsMarkSource.len.Goals as goal

pub returns : goal.returns
returns g c = omega (
  arith,
  c.min.ensures,
  c.len.ensures,
  c.len-2.ensures,
  length-map c.args.self.now.lhs.now.rows (λ row. row.0),
  length-map c.args.self.now.rhs.now.rows (λ row. row.0),
  length-pairs g.C.Comparison.test (slice_cmp nat_cmp) (stored_values c.args.self.now.lhs.now)
      (stored_values c.args.self.now.rhs.now),
)
