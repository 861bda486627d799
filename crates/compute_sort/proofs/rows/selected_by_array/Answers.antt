use Rattle.std.proofs.Common.{rules}
use Rattle.compute_sort.proofs.TotalLemmas.{rows-by_total}
use Rattle.compute_sort.proofs.rows.selected_by_array.Goals as goal

pub selected_rows-requires : goal.selected_rows-requires
selected_rows-requires g c = rows-by_total g.A.OrderSlots.order (g.met.A.OrderSlots c.lifetimes (search rules)).total
    (g.A.Array.column c.args.first.now) c.args.options c.args.rest.now
