use Rattle.std.proofs.Common.{◌≡◌, length, subst, ap, refl, sym, ◌∙◌}
use Rattle.std.specs.Fn.{FnOnceReturnsAtMut}
use Rattle.arrow_types.specs.Types.{logical_type}
use Rattle.arrow_column.specs.Column.{column_with, stored_values}
use Rattle.arrow_column.proofs.RowLemmas.{length-rows, replaced-column, stored-column}
use Rattle.arrow_column.proofs.closures.FrozenColumn+Buffer+T.get_mut_values.Goals as goal

pub returns-clause-changed : goal.returns-clause-changed
returns-clause-changed g c = λ did.
    let column = c.self.inside in
    let now = c.args.self.now in
    let t = logical_type column.data_type in
    let fits = c.self.invariant in
    let ran = c.get_mut_slice.ensures.changed did in
    let stored : column.values ≡ stored_values now =
    sym (stored-column t tt column.values column.validity now fits c.self.view_is) in
    let long : length ran.0 ≡ length now.rows = ran.2 ∙ sym (length-rows column.values column.validity fits)
    ∙ ap (λ whole. length whole.rows) c.self.view_is in (
      ran.0,
      subst (λ xs. FnOnceReturnsAtMut g.F.FnOnce c.args.change xs tt ran.0) stored ran.1,
      long,
      ap (λ xs. column_with t tt xs column.validity) ran.3
          ∙ replaced-column t tt tt column.values ran.0 column.validity now fits c.self.view_is refl long,
    )
