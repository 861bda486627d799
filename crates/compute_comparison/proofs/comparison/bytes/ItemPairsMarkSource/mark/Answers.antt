use Rattle.std.proofs.Common.{arith, ◌∙◌, ap, sym, Some}
use Rattle.std.specs.Ordering.{nat_cmp}
use Rattle.std.specs.Cmp.Lexicographic.{slice_cmp}
use Rattle.std.proofs.lemmas.List.{length-map}
use Rattle.arrow_column.specs.Column.{stored_values}
use Rattle.compute_comparison.proofs.PairLemmas.{length-pairs, pair_at}
use Rattle.compute_comparison.proofs.comparison.bytes.ItemPairsMarkSource.mark.Goals as goal

pub item-requires : goal.item-requires
item-requires g c = omega (
  arith,
  c.requires,
  length-map c.args.self.now.lhs.now.rows (λ row. row.0),
  length-map c.args.self.now.rhs.now.rows (λ row. row.0),
  length-pairs g.C.Comparison.test (slice_cmp nat_cmp) (stored_values c.args.self.now.lhs.now)
      (stored_values c.args.self.now.rhs.now),
)

pub item-requires-2 : goal.item-requires-2
item-requires-2 g c = omega (
  arith,
  c.requires,
  length-map c.args.self.now.lhs.now.rows (λ row. row.0),
  length-map c.args.self.now.rhs.now.rows (λ row. row.0),
  length-pairs g.C.Comparison.test (slice_cmp nat_cmp) (stored_values c.args.self.now.lhs.now)
      (stored_values c.args.self.now.rhs.now),
)

pub returns : goal.returns
returns g c = pair_at g.C.Comparison.test (slice_cmp nat_cmp) (stored_values c.args.self.now.lhs.now)
    (stored_values c.args.self.now.rhs.now) c.args.i c.item.result.now c.item-2.result.now c.item.ensures.value
    c.item-2.ensures.value ∙ ap Some (sym c.test.ensures)
