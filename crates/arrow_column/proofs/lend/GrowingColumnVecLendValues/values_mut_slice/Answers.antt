use Rattle.std.proofs.Common.{◌≡◌, ◌++◌, length, take, drop, ap, ap₂, refl, sym, ◌∙◌, arith}
use Rattle.arrow_types.specs.Types.{logical_type}
use Rattle.arrow_column.specs.Column.{stored_values, with_stored}
use Rattle.arrow_column.proofs.RowLemmas.{length-rows, replaced-column, rewritten-length, stored-column}
use Rattle.arrow_column.proofs.lend.GrowingColumnVecLendValues.values_mut_slice.Goals as goal

pub returns : goal.returns
returns g c =
    let column = c.self.inside in
    let now = c.args.self.now in
    let t = logical_type column.data_type in
    let values = column.values in
    let stored : stored_values now ≡ values.items =
    stored-column t tt values.items column.validity now c.self.invariant c.self.view_is in
    let rows : length values.items ≡ length now.rows =
    sym (length-rows values.items column.validity c.self.invariant)
    ∙ ap (λ whole. length whole.rows) c.self.view_is in
    let long : values.len ≡ length values.items = omega (arith, values.ok.0) in (
      (
        refl,
        λ w.
            replaced-column t tt tt values.items (take values.len (w ++ drop (length w) values.items))
            column.validity now c.self.invariant c.self.view_is refl (rewritten-length values.len values.items w
            long ∙ rows)
            ∙ ap₂ (λ n xs. with_stored now (take n (w ++ drop (length w) xs))) (long ∙ rows) (sym stored),
      ),
      record { writes_back = tt; value = c.as_mut_slice.ensures.value ∙ sym stored },
    )
