use Rattle.std.proofs.Common.{Some, None, option_map, ap, sym, ◌∙◌}
use Rattle.arrow_types.specs.Types.{logical_type}
use Rattle.arrow_column.specs.Column.{with_slot}
use Rattle.arrow_column.proofs.RowLemmas.{null-set, valid-set}
use Rattle.arrow_column.proofs.growing.GrowingColumn.set.Goals as goal

pub returns-in-Some-clause-ok : goal.returns-in-Some-clause-ok
returns-in-Some-clause-ok g c =
    let column = c.self.inside in
    let V = g.V.StoredValues in
    let value = g.V.PushValue.shown c.in-Some.value in
    valid-set g.V.MutableValues.default (logical_type column.data_type) (V.around column.values) (V.around c.set_value.new.self)
    (V.stored column.values) (V.stored c.set_value.new.self) column.validity c.set_valid_mark.new.validity
    c.args.i value
    c.set_value.ensures.stored c.set_valid_mark.ensures c.set_value.ensures.around
    ∙ ap (λ whole. with_slot g.V.MutableValues.default whole c.args.i (Some value)) c.self.view_is
    ∙ ap (λ slot. with_slot g.V.MutableValues.default c.args.self.now c.args.i (option_map g.V.PushValue.shown slot)) (sym c.in-Some.is)

pub returns-in_ok-set_null_mark-in-None-clause-ok : goal.returns-in_ok-set_null_mark-in-None-clause-ok
returns-in_ok-set_null_mark-in-None-clause-ok g c =
    let column = c.self.inside in
    let V = g.V.StoredValues in
    null-set g.V.MutableValues.default (logical_type column.data_type) (V.around column.values) (V.around c.set_default.new.self)
    (V.stored column.values) (V.stored c.set_default.new.self) column.validity c.set_null_mark.new.validity
    c.count.result c.args.i
    c.count.ensures c.set_default.ensures.stored c.in_ok-set_null_mark-in-None.ensures.ok c.set_default.ensures.around
    ∙ ap (λ whole. with_slot g.V.MutableValues.default whole c.args.i None) c.self.view_is
    ∙ ap (λ slot. with_slot g.V.MutableValues.default c.args.self.now c.args.i (option_map g.V.PushValue.shown slot)) (sym c.in-None.is)
