use Rattle.std.proofs.Common.{◌≤◌, ◌++◌, ◌∷◌, [], ap, arith, length, subst, sym}
use Rattle.std.proofs.lemmas.Result.{on_ok_weaker}
use Rattle.std.specs.Ordering.{on}
use Rattle.compute_sort.specs.IndexedValues.{KeepsFirst, SortsFirst, pair_order_by}
use Rattle.compute_sort.proofs.OrderLemmas.{seen-weak}
use Rattle.compute_sort.proofs.SelectLemmas.{keeps-pushed, keeps-sorted}
use Rattle.compute_sort.proofs.select.append_pair.Goals.{then-len-limit-via-then-len-limit}
use Rattle.compute_sort.proofs.select.append_pair.Goals.{then-len-limit-via-else-len-limit+then-len-limit-2}
use Rattle.compute_sort.proofs.select.append_pair.Goals as goal

pub returns-then-len-limit : goal.returns-then-len-limit
returns-then-len-limit g c =
    let order = pair_order_by c.args.descending (on g.A.BorrowSlots.seen g.A.OrderSlots.order) in
    let first = c.sort_first.new.kept.items in
    let enough : c.args.limit ≤ length c.push.new.self.items =
    elim c.then-len-limit.branch [
      | then-len-limit-via-then-len-limit w ↦ omega arith
      | then-len-limit-via-else-len-limit+then-len-limit-2 w ↦ omega arith
    ] in
    on_ok_weaker c.sort_first.result (λ sorts all keeps.
    keeps-sorted order
    (seen-weak g.A.BorrowSlots.seen g.A.OrderSlots.order c.requires.total c.args.descending) c.args.limit all
    c.args.kept.now.items c.args.pair first c.requires.some
    (subst (λ l. c.args.limit ≤ length l) c.in_ok-push.ensures.items enough)
    (subst (λ l. SortsFirst order c.args.limit l first) c.in_ok-push.ensures.items sorts) keeps) c.sort_first.ensures

pub returns : goal.returns
returns g c = λ all keeps.
    let order = pair_order_by c.args.descending (on g.A.BorrowSlots.seen g.A.OrderSlots.order) in
    let kept = c.args.kept.now.items in
    let one = c.args.pair ∷ [] in
    subst (KeepsFirst order c.args.limit (all ++ one)) (sym c.in_ok-push.ensures.items)
    (keeps-pushed order
    (seen-weak g.A.BorrowSlots.seen g.A.OrderSlots.order c.requires.total c.args.descending) c.args.limit all kept
    c.args.pair (λ e. omega (arith, e, ap length c.in_ok-push.ensures.items)) keeps)
