use Rattle.std.proofs.Common.{◌≡◌, ◌∙◌, ap, ap₂, length, map, refl, reverse, subst, sym}
use Rattle.std.specs.Cmp.{nat_cmp_total}
use Rattle.std.specs.List.{range_with_len}
use Rattle.std.specs.Ordering.{nat_cmp, on}
use Rattle.std.proofs.lemmas.List.{length-map}
use Rattle.std.proofs.lemmas.Result.{IfOk-weaker}
use Rattle.arrow_column.specs.Column.{slots_of}
use Rattle.arrow_memory.specs.Rows.{slot}
use Rattle.compute_sort.specs.Columns.{order_at}
use Rattle.compute_sort.specs.IndexedValues.{first_nulls}
use Rattle.compute_sort.specs.Sort.{SortsIndexes, index_order, slot_order}
use Rattle.compute_sort.proofs.OrderLemmas.{in-order, in-reverse, rising-pairs, rising-range, sorts-all}
use Rattle.compute_sort.proofs.TotalLemmas.{order-total}
use Rattle.compute_sort.proofs.indexed_values.sorted_indexes.Goals as goal

pub sort_values-requires : goal.sort_values-requires
sort_values-requires g c = λ κs. ((refl, tt), c.requires)

pub returns-then-are_in_order : goal.returns-then-are_in_order
returns-then-are_in_order g c =
    let column = g.A.Array.column c.args.array.now in
    let order = order_at g.A.OrderSlots.order column c.args.options in
    let Sorts = SortsIndexes (index_order (slot_order c.args.options g.A.OrderSlots.order) (slots_of column)) in
    IfOk-weaker c.all_indexes.result (λ it. it.items ≡ range_with_len 0 c.len.result)
    (λ it. Sorts (length (slots_of column)) it.items)
    (λ it is. subst (λ n. Sorts n it.items) (sym (length-map column.rows slot))
    (subst (Sorts (length column.rows)) (sym (is ∙ ap (range_with_len 0) c.len.ensures))
    (in-order order (length column.rows) (c.are_in_order.ensures c.if-are_in_order.true))))
    c.all_indexes.ensures

pub returns-then-are_in_reverse : goal.returns-then-are_in_reverse
returns-then-are_in_reverse g c =
    let column = g.A.Array.column c.args.array.now in
    let order = order_at g.A.OrderSlots.order column c.args.options in
    let Sorts = SortsIndexes (index_order (slot_order c.args.options g.A.OrderSlots.order) (slots_of column)) in
    IfOk-weaker c.reversed_indexes.result (λ it. it.items ≡ reverse (range_with_len 0 c.len-then-are_in_reverse.result))
    (λ it. Sorts (length (slots_of column)) it.items)
    (λ it is. subst (λ n. Sorts n it.items) (sym (length-map column.rows slot))
    (subst (Sorts (length column.rows))
    (sym (is ∙ ap (λ n. reverse (range_with_len 0 n)) c.len-then-are_in_reverse.ensures))
    (in-reverse order (length column.rows) (order-total g.A.OrderSlots.order c.requires column c.args.options)
    (c.are_in_reverse.ensures c.if-are_in_reverse.true))))
    c.reversed_indexes.ensures

pub returns : goal.returns
returns g c =
    let slots = slots_of (g.A.Array.column c.args.array.now) in
    let first = c.args.options.nulls_first in
    let values = c.sort_values.new.values.items in
    let nulls = c.in_ok-indexed.indexed.nulls.items in
    let Sorts = SortsIndexes (index_order (slot_order c.args.options g.A.OrderSlots.order) slots) (length slots) in
    let lent = c.as_slice-values.result.now in
    let same = c.as_slice-values.ensures.value in
    IfOk-weaker c.join_indexes.result
    (λ indexes. indexes.items ≡ first_nulls first c.as_slice-nulls.result.now (map (λ pair. pair.1) lent))
    (λ indexes. Sorts indexes.items)
    (λ indexes is. subst Sorts
    (sym (is ∙ ap₂ (λ ns vs. first_nulls first ns (map (λ pair. pair.1) vs)) c.as_slice-nulls.ensures.value same))
    (sorts-all g.A.BorrowSlots.seen slots c.args.options (on g.A.BorrowSlots.seen g.A.OrderSlots.order) g.A.OrderSlots.order (λ x y. refl)
    (length slots) c.in_ok-indexed.indexed.values.items values nulls c.in_ok-indexed.ensures
    c.sort_values.ensures.permutation (c.in_ok-sort_values.ensures.sorted nat_cmp nat_cmp_total
    (rising-pairs g.A.BorrowSlots.seen slots nat_cmp nat_cmp_total (range_with_len 0 (length slots))
    (rising-range (length slots)) c.in_ok-indexed.indexed.values.items nulls c.in_ok-indexed.ensures))))
    c.join_indexes.ensures
