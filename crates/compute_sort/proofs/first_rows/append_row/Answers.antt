use Rattle.std.proofs.Common.{◌≤◌, ◌++◌, ◌∷◌, [], ap, arith, length, subst, sym}
use Rattle.compute_sort.specs.Columns.{then_index}
use Rattle.compute_sort.specs.IndexedValues.{KeepsFirst, SortsFirst}
use Rattle.compute_sort.proofs.SelectLemmas.{keeps-pushed, keeps-sorted}
use Rattle.compute_sort.proofs.TotalLemmas.{indexes-strict}
use Rattle.compute_sort.proofs.first_rows.append_row.Goals.{then-len-limit-via-then-len-limit}
use Rattle.compute_sort.proofs.first_rows.append_row.Goals.{then-len-limit-via-else-len-limit+then-len-limit-2}
use Rattle.compute_sort.proofs.first_rows.append_row.Goals as goal

pub returns-then-len-limit : goal.returns-then-len-limit
returns-then-len-limit g c = λ all keeps.
    let order = then_index (g.R.RowOrder.order c.args.rows.now) in
    let first = c.sort_first.new.kept.items in
    let enough : c.args.limit ≤ length c.push.new.self.items =
    elim c.then-len-limit.branch [
      | then-len-limit-via-then-len-limit w ↦ omega arith
      | then-len-limit-via-else-len-limit+then-len-limit-2 w ↦ omega arith
    ] in
    keeps-sorted order (indexes-strict (g.R.RowOrder.order c.args.rows.now) c.requires.total) c.args.limit all c.args.kept.now.items c.args.row first
    c.requires.some
    (subst (λ l. c.args.limit ≤ length l) c.in_ok-push.ensures.items enough)
    (subst (λ l. SortsFirst order c.args.limit l first) c.in_ok-push.ensures.items c.sort_first.ensures) keeps

pub returns-else-len-limit-2 : goal.returns-else-len-limit-2
returns-else-len-limit-2 g c = λ all keeps.
    let order = then_index (g.R.RowOrder.order c.args.rows.now) in
    let one = c.args.row ∷ [] in
    subst (KeepsFirst order c.args.limit (all ++ one)) (sym c.in_ok-push.ensures.items)
    (keeps-pushed order (indexes-strict (g.R.RowOrder.order c.args.rows.now) c.requires.total) c.args.limit all c.args.kept.now.items c.args.row
    (λ e. omega (arith, e, ap length c.in_ok-push.ensures.items)) keeps)
