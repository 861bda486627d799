use Rattle.std.proofs.Common.{rules}
use Rattle.std.specs.Ordering.{is_lt, on}
use Rattle.std.proofs.lemmas.Fn.{always_returns_same}
use Rattle.compute_sort.specs.IndexedValues.{pair_order_by}
use Rattle.compute_sort.proofs.OrderLemmas.{seen-weak}
use Rattle.compute_sort.proofs.select.sort_first.Goals as goal

pub returns : goal.returns
returns g c =
    let order = pair_order_by c.args.descending (on g.A.BorrowSlots.seen g.A.OrderSlots.order) in
    record {
      whole = c.sort_by.new.self.items;
      permutation = c.sort_by.ensures.permutation;
      sorted =
          c.in_ok-sort_by.ensures.sorted (λ x y. is_lt (order x y))
          (seen-weak g.A.BorrowSlots.seen g.A.OrderSlots.order c.requires c.args.descending)
          (always_returns_same _ _ _ (λ a r f' k. search rules));
      is = c.truncate.ensures.items;
    }
