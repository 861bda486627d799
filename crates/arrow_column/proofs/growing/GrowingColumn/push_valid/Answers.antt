use Rattle.std.proofs.Common.{[], ◌∷◌, ap, ap₂, sym, ◌∙◌}
use Rattle.arrow_types.specs.Types.{logical_type}
use Rattle.arrow_column.specs.Column.{refused_growth}
use Rattle.arrow_column.proofs.RowLemmas.{grown-back, stored-column, undone-column}
use Rattle.arrow_column.proofs.growing.GrowingColumn.push_valid.Goals as goal

pub returns-in-Err-clause-err : goal.returns-in-Err-clause-err
returns-in-Err-clause-err g c =
    let column = c.self.inside in
    let V = g.V.StoredValues in
    let t = logical_type column.data_type in
    let stored = stored-column t (V.around column.values) (V.stored column.values) column.validity c.args.self.now
    c.self.invariant c.self.view_is in
    let around = ap (λ whole. whole.around) (sym c.self.view_is) in
    let room = ap₂ (λ a xs. g.V.PushValue.overflows a xs c.args.value) around stored
    ∙ c.in_ok-push_value.ensures.ok.0 in
    let back = grown-back (V.stored column.values) (V.stored c.push_value.new.self) (V.stored c.keep_first.new.self)
    (g.V.PushValue.shown c.args.value ∷ []) c.count-before.result c.count-before.ensures
    c.in_ok-push_value.ensures.ok.1 c.keep_first.ensures.stored in (
      c.in-Err.ensures.err.0 ∙ sym (ap refused_growth room),
      undone-column t (V.around column.values) (V.around c.keep_first.new.self) (V.stored column.values)
          (V.stored c.keep_first.new.self) column.validity c.push_valid.new.validity c.args.self.now
          back c.in-Err.ensures.err.1 (c.keep_first.ensures.around ∙ c.in_ok-push_value.ensures.around) c.self.view_is,
    )
