use Rattle.std.proofs.Common.{rules}
use Rattle.std.specs.Cmp.{back_total, on_total}
use Rattle.std.specs.Ordering.{flip_args, is_lt, on}
use Rattle.std.proofs.lemmas.List.Sorted.{answers_always}
use Rattle.std.proofs.lemmas.Result.{on_ok_weaker}
use Rattle.compute_sort.proofs.OrderLemmas.{pairs-order, stable-pairs}
use Rattle.compute_sort.proofs.indexed_values.sort_descending.Goals as goal

pub returns-clause-sorted : goal.returns-clause-sorted
returns-clause-sorted g c =
    let cmp = flip_args (on g.A.BorrowSlots.seen g.A.OrderSlots.order) in
    let total = back_total (on_total g.A.BorrowSlots.seen c.requires) in
    let order = pairs-order cmp total in
    let old = c.args.values.now.items in
    let new = c.sort_by.new.self.items in
    on_ok_weaker c.sort_by.result (λ up. stable-pairs cmp total old new
    (up (λ x y. is_lt (cmp x.0 y.0)) order (answers_always _ _ _ (λ f a r f' k. search rules)))
    (c.sort_by.ensures.stable (λ x y. is_lt (cmp x.0 y.0)) order (answers_always _ _ _ (λ f a r f' k. search rules))))
    c.sort_by.ensures.sorted
