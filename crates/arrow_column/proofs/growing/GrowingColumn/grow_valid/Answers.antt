use Rattle.std.proofs.Common.{false, ap, sym, ◌∙◌}
use Rattle.arrow_types.specs.Types.{logical_type}
use Rattle.arrow_column.specs.Column.{append_values, refused_growth}
use Rattle.arrow_column.proofs.RowLemmas.{grown-back, grown-column, same-test, undone-column}
use Rattle.arrow_column.proofs.growing.GrowingColumn.grow_valid.Goals as goal

pub returns-in-Ok-clause-ok : goal.returns-in-Ok-clause-ok
returns-in-Ok-clause-ok g c =
    let column = c.self.inside in
    let V = g.V.StoredValues in
    let t = logical_type column.data_type in
    let grown = c.in_ok-count.ensures.ok in (
      same-test (λ a xs. g.V.Grow.overgrows a xs c.args.values) t (V.around column.values) (V.stored column.values)
          column.validity c.args.self.now false c.self.invariant c.self.view_is grown.0,
      grown-column t (V.around column.values) (V.around c.grow.new.self) (V.stored column.values)
          (V.stored c.grow.new.self) (g.V.Grow.given c.args.values) column.validity
          c.join_marks.new.validity c.count-before.result c.in_ok-count.count
          c.self.invariant grown.2 c.count-before.ensures grown.1 c.in-Ok.ensures.ok c.in_ok-count.ensures.around
          ∙ ap (λ whole. append_values whole (g.V.Grow.given c.args.values)) c.self.view_is,
    )

pub returns-in-Err-clause-err : goal.returns-in-Err-clause-err
returns-in-Err-clause-err g c =
    let column = c.self.inside in
    let V = g.V.StoredValues in
    let t = logical_type column.data_type in
    let grown = c.in_ok-count.ensures.ok in
    let room = same-test (λ a xs. g.V.Grow.overgrows a xs c.args.values) t (V.around column.values)
    (V.stored column.values) column.validity c.args.self.now false c.self.invariant c.self.view_is grown.0 in
    let back = grown-back (V.stored column.values) (V.stored c.grow.new.self) (V.stored c.keep_first.new.self)
    (g.V.Grow.given c.args.values) c.count-before.result c.count-before.ensures grown.2
    c.keep_first.ensures.stored in (
      c.in-Err.ensures.err.0 ∙ sym (ap refused_growth room),
      undone-column t (V.around column.values) (V.around c.keep_first.new.self) (V.stored column.values)
          (V.stored c.keep_first.new.self) column.validity c.join_marks.new.validity c.args.self.now
          back c.in-Err.ensures.err.1 (c.keep_first.ensures.around ∙ c.in_ok-count.ensures.around) c.self.view_is,
    )
