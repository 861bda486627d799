use Rattle.std.proofs.Common.{◌≡◌, length, vec_len, ap, refl, sym, ◌∙◌, arith}
use Rattle.arrow_types.specs.Types.{logical_type}
use Rattle.arrow_column.specs.Column.{stored_values}
use Rattle.arrow_column.proofs.RowLemmas.{replaced-column, stored-column}
use Rattle.arrow_column.proofs.closures.GrowingColumn+Vec+T.apply_values.Goals as goal

pub returns : goal.returns
returns g c =
    let column = c.self.inside in
    let now = c.args.self.now in
    let t = logical_type column.data_type in
    let values = c.replace-values.result in
    let changed = c.change.result in
    let stored : values.items ≡ stored_values now = ap (λ v. v.items) c.replace-values.ensures.value
    ∙ sym (stored-column t tt column.values.items column.validity now c.self.invariant c.self.view_is) in
    let kept : vec_len changed ≡ length now.rows = c.requires.keeps values changed stored c.change.ensures in
    let long : length changed.items ≡ length now.rows = omega (arith, kept, changed.ok.0) in (
      values,
      changed,
      stored,
      c.change.ensures,
      kept,
      replaced-column t tt tt column.values.items changed.items
          column.validity now c.self.invariant c.self.view_is refl long,
    )
