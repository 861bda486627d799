use Rattle.arrow_types.specs.Types.{logical_type}
use Rattle.arrow_column.proofs.RowLemmas.{replaced-column}
use Rattle.arrow_column.proofs.frozen.FrozenColumn.set_values.Goals as goal

pub returns : goal.returns
returns g c =
    let column = c.self.inside in
    let V = g.V.StoredValues in
    replaced-column (logical_type column.data_type) (V.around column.values) (V.around c.args.values)
    (V.stored column.values) (V.stored c.args.values) column.validity c.args.self.now
    c.self.invariant c.self.view_is c.requires.around c.requires.count
