use Rattle.std.proofs.Common.{sym}
use Rattle.arrow_column.proofs.CallerLemmas.{valid_by_held}
use Rattle.compute_select.proofs.ChoiceLemmas.{none-chosen}
use Rattle.compute_select.proofs.if_then_else.chosen_mask.Goals as goal

pub returns-in-None-None-None-clause-ok : goal.returns-in-None-None-None-clause-ok
returns-in-None-None-None-clause-ok g c =
    let predicate = c.args.predicate.now in
    let left = g.A.Array.column c.args.lhs.now in
    let right = g.A.Array.column c.args.rhs.now in
    none-chosen predicate.rows left.rows right.rows
    (valid_by_held predicate.held predicate.rows c.validity.ensures.is_column (sym c.in-None-None-None.ensures.mask))
    (valid_by_held left.held left.rows c.validity-2.ensures.is_column (sym c.in-None-None-None.ensures'.mask))
    (valid_by_held right.held right.rows c.validity-3.ensures.is_column (sym c.in-None-None-None.ensures''.mask))
