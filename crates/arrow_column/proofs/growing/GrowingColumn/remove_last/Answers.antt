use Rattle.std.proofs.Common.{◌<◌, ◌-◌, length, Some, ap, subst, ◌∙◌}
use Rattle.std.proofs.lemmas.Bool.{not-true}
use Rattle.arrow_types.specs.Types.{logical_type}
use Rattle.arrow_column.specs.Column.{without_last}
use Rattle.arrow_column.proofs.RowLemmas.{length-rows, popped-column, popped-mark, shown-null, shown-valid}
use Rattle.arrow_column.proofs.growing.GrowingColumn.remove_last.Goals as goal

-- the mark of the last row
pub returns-clause-mark : goal.returns-clause-mark
returns-clause-mark g c =
    let column = c.self.inside in
    let V = g.V.StoredValues in
    let seen = rw (← c.self.view_is) at c.requires in
    let some : 0 < length (V.stored column.values) =
    subst (λ n. 0 < n) (length-rows (V.stored column.values) column.validity c.self.invariant) seen in
    rw (← c.self.view_is) (popped-mark (V.stored column.values) column.validity c.pop_mark.new.validity
    c.pop_mark.result c.self.invariant some c.pop_mark.ensures)

pub returns-clause-null : goal.returns-clause-null
returns-clause-null g c = λ null.
    let column = c.args.self.now in
    shown-null column.rows (length column.rows - 1) (returns-clause-mark g c ∙ ap Some (not-true c.pop_mark.result null))

pub returns-clause-valid : goal.returns-clause-valid
returns-clause-valid g c = λ valid value stored.
    let column = c.args.self.now in
    shown-valid column.rows (length column.rows - 1) value (returns-clause-mark g c ∙ ap Some valid) stored

pub returns-clause-rest : goal.returns-clause-rest
returns-clause-rest g c =
    let column = c.self.inside in
    let V = g.V.StoredValues in
    popped-column (logical_type column.data_type) (V.around column.values) (V.around c.drop_last.new.self)
    (V.stored column.values) (V.stored c.drop_last.new.self)
    column.validity c.pop_mark.new.validity c.pop_mark.result c.self.invariant c.drop_last.ensures.stored
    c.pop_mark.ensures c.drop_last.ensures.around
    ∙ ap without_last c.self.view_is
