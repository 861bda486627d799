use Rattle.std.specs.Ordering.{on}
use Rattle.compute_sort.specs.IndexedValues.{pair_order_by}
use Rattle.compute_sort.proofs.OrderLemmas.{seen-weak}
use Rattle.compute_sort.proofs.SelectLemmas.{sorts-kept}
use Rattle.compute_sort.proofs.select.first_pairs.Goals as goal

pub returns : goal.returns
returns g c =
    let kept = c.in_ok-indexed.ensures in
    record {
      all = kept.all;
      split = kept.split;
      sorts =
          sorts-kept (pair_order_by c.args.descending (on g.A.BorrowSlots.seen g.A.OrderSlots.order))
          (seen-weak g.A.BorrowSlots.seen g.A.OrderSlots.order c.requires.total c.args.descending) c.args.limit kept.all
          c.in_ok-indexed.indexed.values.items c.sort_first.new.kept.items c.requires.some kept.keeps
          c.in_ok-sort_first.ensures;
    }
