use Rattle.std.proofs.Common.{ap, ap₂, sym, ◌∙◌}
use Rattle.std.proofs.lemmas.Result.{on_ok_weaker}
use Rattle.arrow_types.specs.Types.{logical_type}
use Rattle.arrow_column.proofs.RowLemmas.{stored-column, unmasked-push}
use Rattle.arrow_column.proofs.growing.GrowingColumn.push_unmasked.Goals as goal

pub returns-clause-ok : goal.returns-clause-ok
returns-clause-ok g c =
    let column = c.self.inside in
    let V = g.V.StoredValues in
    let t = logical_type column.data_type in
    let stored = stored-column t (V.around column.values) (V.stored column.values) column.validity c.args.self.now
    c.self.invariant c.self.view_is in
    let around = ap (λ whole. whole.around) (sym c.self.view_is) in
    on_ok_weaker c.push_value.result (λ pushed. (
      ap₂ (λ a xs. g.V.PushValue.overflows a xs c.args.value) around stored ∙ pushed.0,
      unmasked-push t (V.around column.values) (V.around c.push_value.new.self) (V.stored column.values)
          (V.stored c.push_value.new.self) column.validity (g.V.PushValue.shown c.args.value) c.args.self.now
          c.self.view_is c.requires pushed.1 c.push_value.ensures.around,
    )) c.push_value.ensures.ok
