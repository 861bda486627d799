use Rattle.std.proofs.Common.{◌∙◌, ap₂, arith, map, refl}
use Rattle.std.specs.Ordering.{on}
use Rattle.arrow_column.specs.Column.{slots_of}
use Rattle.compute_sort.specs.IndexedValues.{first_nulls}
use Rattle.compute_sort.proofs.SelectLemmas.{selected}
use Rattle.compute_sort.proofs.select.selected_indexes.Goals as goal

pub returns : goal.returns
returns g c =
    let first = c.in_ok-first.first in
    selected g.A.BorrowSlots.seen (slots_of (g.A.Array.column c.args.array.now)) c.args.options (on g.A.BorrowSlots.seen g.A.OrderSlots.order)
    g.A.OrderSlots.order (λ x y. refl) c.args.limit c.max.result (omega arith) first
    c.in_ok-indexes.indexes.items c.truncate_to.result.items c.in_ok-first.ensures
    (c.in_ok-indexes.ensures
    ∙ ap₂ (λ ns vs. first_nulls c.args.options.nulls_first ns (map (λ pair. pair.1) vs)) c.as_slice-nulls.ensures.value
    c.as_slice-values.ensures.value) c.truncate_to.ensures
