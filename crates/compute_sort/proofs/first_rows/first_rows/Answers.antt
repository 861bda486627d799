use Rattle.std.proofs.Common.{◌≡◌, [], arith, subst, sym}
use Rattle.std.specs.List.{range_with_len}
use Rattle.arrow_types.proofs.CallerLemmas.{range-more}
use Rattle.compute_sort.specs.Columns.{then_index}
use Rattle.compute_sort.specs.IndexedValues.{KeepsFirst}
use Rattle.compute_sort.proofs.SelectLemmas.{keeps-none, sorts-kept}
use Rattle.compute_sort.proofs.TotalLemmas.{indexes-strict}
use Rattle.compute_sort.proofs.first_rows.first_rows.Goals as goal

pub loop-i-init : goal.loop-i-init
loop-i-init g c =
    let order = then_index (g.R.RowOrder.order c.args.rows.now) in
    subst (KeepsFirst order c.args.limit []) (sym c.in_ok-kept.ensures.items)
    (keeps-none order (indexes-strict (g.R.RowOrder.order c.args.rows.now) c.requires.total) c.args.limit c.requires.some)

pub loop-i-preserved : goal.loop-i-preserved
loop-i-preserved g c =
    let order = then_index (g.R.RowOrder.order c.args.rows.now) in
    subst (λ all. KeepsFirst order c.args.limit all c.offer_row.new.kept.items) (sym (range-more c.loop-i.i))
    (c.in_ok-offer_row.ensures (range_with_len 0 c.loop-i.i) c.loop-i.invariant)

pub returns : goal.returns
returns g c =
    let order = then_index (g.R.RowOrder.order c.args.rows.now) in
    let all : c.loop-i.i ≡ c.args.count = omega arith in
    sorts-kept order (indexes-strict (g.R.RowOrder.order c.args.rows.now) c.requires.total) c.args.limit
    (range_with_len 0 c.args.count) c.loop-i.kept.items c.sort_first.new.kept.items c.requires.some
    (subst (λ n. KeepsFirst order c.args.limit (range_with_len 0 n) c.loop-i.kept.items) all c.loop-i.invariant)
    c.sort_first.ensures
