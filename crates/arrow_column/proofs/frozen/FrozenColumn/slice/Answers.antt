use Rattle.std.proofs.Common.{ap, ◌∙◌}
use Rattle.arrow_types.specs.Types.{logical_type}
use Rattle.arrow_column.specs.Column.{cut_with}
use Rattle.arrow_column.proofs.RowLemmas.{cut-column}
use Rattle.arrow_column.proofs.frozen.FrozenColumn.slice.Goals as goal

pub returns : goal.returns
returns g c =
    let column = c.self.inside in
    let V = g.V.StoredValues in
    cut-column g.V.Values.cut_around (logical_type column.data_type) (V.around column.values) (V.around c.cut.new.self)
    (V.stored column.values) (V.stored c.cut.new.self)
    column.validity c.slice_mask.new.validity c.args.offset c.args.len c.self.invariant c.cut.ensures.stored
    c.slice_mask.ensures c.cut.ensures.around
    ∙ ap (λ whole. cut_with g.V.Values.cut_around whole c.args.offset c.args.len) c.self.view_is
