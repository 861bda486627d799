use Rattle.std.proofs.Common.{◌∙◌, ap}
use Rattle.std.specs.Ordering.{is_ge, on}
use Rattle.compute_sort.specs.IndexedValues.{pair_order_by}
use Rattle.compute_sort.proofs.SelectLemmas.{ge-not-lt}
use Rattle.compute_sort.proofs.select.is_past_first.Goals as goal

pub returns-then-limit-kept : goal.returns-then-limit-kept
returns-then-limit-kept g c = λ past. record {
  enough = c.if-limit-kept.true;
  last = c.index-kept-limit.result;
  at = c.index-kept-limit.is;
  past =
      ge-not-lt (pair_order_by c.args.descending (on g.A.BorrowSlots.seen g.A.OrderSlots.order) c.args.pair.now c.index-kept-limit.result) c.is_ge.result
      (c.is_ge.ensures ∙ ap is_ge c.compare_pairs.ensures) past;
}
