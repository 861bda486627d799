use Rattle.std.proofs.lemmas.Result.{on_ok_weaker}
use Rattle.arrow_types.specs.Types.{logical_type}
use Rattle.arrow_column.proofs.RowLemmas.{unmasked-push}
use Rattle.arrow_column.proofs.growing.GrowingColumn.push_unmasked_default.Goals as goal

pub returns-clause-ok : goal.returns-clause-ok
returns-clause-ok g c =
    let column = c.self.inside in
    let V = g.V.StoredValues in
    on_ok_weaker c.push_default.result (λ pushed.
    unmasked-push (logical_type column.data_type) (V.around column.values) (V.around c.push_default.new.self)
    (V.stored column.values) (V.stored c.push_default.new.self) column.validity g.V.MutableValues.default c.args.self.now
    c.self.view_is c.requires pushed c.push_default.ensures.around
    ) c.push_default.ensures.ok
