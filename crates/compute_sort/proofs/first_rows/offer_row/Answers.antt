use Rattle.std.proofs.Common.{subst}
use Rattle.compute_sort.specs.Columns.{then_index}
use Rattle.compute_sort.specs.IndexedValues.{IsPastFirst}
use Rattle.compute_sort.proofs.SelectLemmas.{keeps-past}
use Rattle.compute_sort.proofs.TotalLemmas.{indexes-strict}
use Rattle.compute_sort.proofs.first_rows.offer_row.Goals as goal

pub returns-then-is_past_first : goal.returns-then-is_past_first
returns-then-is_past_first g c = λ all keeps.
    let order = then_index (g.R.RowOrder.order c.args.rows.now) in
    keeps-past order (indexes-strict (g.R.RowOrder.order c.args.rows.now) c.requires.total) c.args.limit all c.args.kept.now.items c.args.row
    (subst (λ kept. IsPastFirst order c.args.limit kept c.args.row) c.as_slice.ensures.value
    (c.is_past_first.ensures c.if-is_past_first.true)) keeps
