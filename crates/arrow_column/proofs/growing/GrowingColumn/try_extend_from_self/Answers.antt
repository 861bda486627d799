use Rattle.std.proofs.Common.{false, ap, ap₂, sym, ◌∙◌}
use Rattle.arrow_types.specs.Types.{logical_type}
use Rattle.arrow_column.specs.Column.{joined, refused_growth, stored_values}
use Rattle.arrow_column.proofs.RowLemmas.{grown-back, joined-column, same-test, stored-column, undone-column}
use Rattle.arrow_column.proofs.growing.GrowingColumn.try_extend_from_self.Goals as goal

pub returns-in-Ok-clause-ok : goal.returns-in-Ok-clause-ok
returns-in-Ok-clause-ok g c =
    let column = c.self.inside in
    let other = c.other.inside in
    let V = g.V.StoredValues in
    let t = logical_type column.data_type in
    let u = logical_type other.data_type in
    let grown = c.in_ok-append.ensures.ok in
    let more = stored-column u (V.around other.values) (V.stored other.values) other.validity c.args.other.now
    c.other.invariant c.other.view_is in (
      ap (λ ys. g.V.MutableValues.join_overflows c.args.self.now.around (stored_values c.args.self.now) ys) more
          ∙ same-test (λ a xs. g.V.MutableValues.join_overflows a xs (V.stored other.values)) t (V.around column.values)
          (V.stored column.values) column.validity c.args.self.now false c.self.invariant c.self.view_is grown.0,
      joined-column t u (V.around column.values) (V.around c.append.new.self) (V.around other.values)
          (V.stored column.values) (V.stored c.append.new.self) (V.stored other.values) column.validity
          c.join_marks.new.validity other.validity
          c.count-before.result c.count.result c.self.invariant grown.1 c.count-before.ensures c.count.ensures
          c.in-Ok.ensures.ok c.in_ok-append.ensures.around
          ∙ ap₂ joined c.self.view_is c.other.view_is,
    )

pub returns-in-Err-clause-err : goal.returns-in-Err-clause-err
returns-in-Err-clause-err g c =
    let column = c.self.inside in
    let other = c.other.inside in
    let V = g.V.StoredValues in
    let t = logical_type column.data_type in
    let u = logical_type other.data_type in
    let grown = c.in_ok-append.ensures.ok in
    let more = stored-column u (V.around other.values) (V.stored other.values) other.validity c.args.other.now
    c.other.invariant c.other.view_is in
    let room = ap (λ ys. g.V.MutableValues.join_overflows c.args.self.now.around (stored_values c.args.self.now) ys) more
    ∙ same-test (λ a xs. g.V.MutableValues.join_overflows a xs (V.stored other.values)) t (V.around column.values)
    (V.stored column.values) column.validity c.args.self.now false c.self.invariant c.self.view_is grown.0 in
    let back = grown-back (V.stored column.values) (V.stored c.append.new.self) (V.stored c.keep_first.new.self)
    (V.stored other.values) c.count-before.result c.count-before.ensures grown.1 c.keep_first.ensures.stored in (
      c.in-Err.ensures.err.0 ∙ sym (ap refused_growth room),
      undone-column t (V.around column.values) (V.around c.keep_first.new.self) (V.stored column.values)
          (V.stored c.keep_first.new.self) column.validity c.join_marks.new.validity c.args.self.now
          back c.in-Err.ensures.err.1 (c.keep_first.ensures.around ∙ c.in_ok-append.ensures.around) c.self.view_is,
    )
