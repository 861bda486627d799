use Rattle.std.proofs.Common.{◌≡◌, ap₂, map, refl, rules, subst, sym, ◌∙◌}
use Rattle.std.specs.Cmp.{nat_cmp_total}
use Rattle.std.specs.Ordering.{nat_cmp, on}
use Rattle.std.proofs.lemmas.Result.{IfOk-weaker}
use Rattle.arrow_column.specs.Column.{slots_of}
use Rattle.compute_sort.specs.Columns.{order_at}
use Rattle.compute_sort.specs.IndexedValues.{SortsStably, first_nulls}
use Rattle.compute_sort.proofs.OrderLemmas.{permutes, rising-pairs, sorts}
use Rattle.compute_sort.proofs.indexed_values.sort_indexes.Goals as goal

pub sort_values-requires : goal.sort_values-requires
sort_values-requires g c = λ κs. ((refl, tt), (g.met.A.OrderSlots c.lifetimes (search rules)).total)

pub returns : goal.returns
returns g c =
    let column = g.A.Array.column c.args.array.now in
    let slots = slots_of column in
    let options = c.args.options in
    let order = g.A.OrderSlots.order in
    let seen = g.A.BorrowSlots.seen in
    let old = c.args.indexes.now in
    let values = c.in_ok-indexed.indexed.values.items in
    let sorted = c.sort_values.new.values.items in
    let nulls = c.in_ok-indexed.indexed.nulls.items in
    let Sorts = SortsStably (order_at order column options) old in
    let lent = c.as_slice-values.result.now in
    let split = c.in_ok-indexed.ensures in
    let moves = c.sort_values.ensures.permutation in
    IfOk-weaker c.join_indexes.result
    (λ indexes. indexes.items ≡ first_nulls options.nulls_first c.as_slice-nulls.result.now (map (λ pair. pair.1) lent))
    (λ indexes. Sorts indexes.items)
    (λ indexes is. subst Sorts
    (sym (is ∙ ap₂ (λ ns vs. first_nulls options.nulls_first ns (map (λ pair. pair.1) vs)) c.as_slice-nulls.ensures.value
    c.as_slice-values.ensures.value)) (record {
      permutation = permutes seen slots options (on seen order) order (λ x y. refl) nat_cmp nat_cmp_total
          old values sorted nulls split moves;
      sorted = λ rest total rising.
          sorts seen slots options (on seen order) order (λ x y. refl) rest total old values sorted nulls rising split
          moves (c.in_ok-sort_values.ensures.sorted rest total
          (rising-pairs seen slots rest total old rising values nulls split));
    }))
    c.join_indexes.ensures
