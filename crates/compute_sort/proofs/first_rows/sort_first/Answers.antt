use Rattle.std.proofs.Common.{rules}
use Rattle.std.specs.Ordering.{is_lt}
use Rattle.std.proofs.lemmas.Fn.{always_returns_same}
use Rattle.compute_sort.specs.Columns.{then_index}
use Rattle.compute_sort.proofs.TotalLemmas.{indexes-strict}
use Rattle.compute_sort.proofs.first_rows.sort_first.Goals as goal

pub returns : goal.returns
returns g c = record {
  whole = c.sort_unstable_by.new.self.items;
  permutation = c.sort_unstable_by.ensures.permutation;
  sorted =
      c.sort_unstable_by.ensures.sorted (λ i j. is_lt (then_index (g.R.RowOrder.order c.args.rows.now) i j))
      (indexes-strict (g.R.RowOrder.order c.args.rows.now) c.requires)
      (always_returns_same _ _ _ (λ a r f' k. search rules));
  is = c.truncate.ensures.items;
}
