use Rattle.std.proofs.Common.{◌≡◌, length, ap, refl, sym, ◌∙◌}
use Rattle.arrow_types.specs.Types.{logical_type}
use Rattle.arrow_column.specs.Column.{stored_values}
use Rattle.arrow_column.proofs.RowLemmas.{length-rows, replaced-column, stored-column}
use Rattle.arrow_column.proofs.closures.FrozenColumn+Bitmap.apply_values_mut.Goals as goal

pub returns-clause-ok : goal.returns-clause-ok
returns-clause-ok g c =
    let column = c.self.inside in
    let now = c.args.self.now in
    let t = logical_type column.data_type in
    let fits = c.self.invariant in
    let ran = c.in_ok-apply_mut.ensures.ok in
    let stored : stored_values now ≡ column.values = stored-column t tt column.values column.validity now fits
    c.self.view_is in
    let long : length c.apply_mut.new.self ≡ length now.rows = ran.1
    ∙ sym (length-rows column.values column.validity fits) ∙ ap (λ whole. length whole.rows) c.self.view_is in (
      c.apply_mut.new.self,
      rw stored ran.0,
      long,
      replaced-column t tt tt column.values c.apply_mut.new.self
          column.validity now fits c.self.view_is refl long,
    )
