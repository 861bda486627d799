use Rattle.std.proofs.Common.{◌≡◌, length, None}
use Rattle.std.proofs.lemmas.Result.{IfOk-weaker}
use Rattle.arrow_types.specs.Types.{plain, uint64}
use Rattle.arrow_column.specs.Column.{column_of_parts, slots_of}
use Rattle.compute_sort.specs.Sort.{HoldsSorted, index_order, slot_order}
use Rattle.compute_sort.proofs.OrderLemmas.{holds-sorted}
use Rattle.compute_sort.proofs.sort.sort_to_indices.Goals as goal

pub returns-clause-ok : goal.returns-clause-ok
returns-clause-ok g c =
    let slots = slots_of (g.A.Array.column c.args.array.now) in
    let order = index_order (slot_order c.args.options g.A.SortableArray.order) slots in
    let indexes = c.in_ok-sorted_indexes.field-0.items in
    IfOk-weaker c.from_vec.result (λ made. made ≡ column_of_parts (plain uint64) indexes None)
    (HoldsSorted order (length slots) c.args.limit)
    (λ made is. holds-sorted order (length slots) c.args.limit made indexes is c.in_ok-sorted_indexes.ensures)
    c.from_vec.ensures.ok
