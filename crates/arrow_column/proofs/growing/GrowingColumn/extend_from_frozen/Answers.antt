use Rattle.std.proofs.Common.{rules, ap, refl, sym, ◌∙◌, take, drop}
use Rattle.arrow_types.specs.Types.{logical_type}
use Rattle.arrow_column.specs.Column.{refused_growth}
use Rattle.arrow_column.proofs.CutLemmas.{joined-cut, same-join}
use Rattle.arrow_column.proofs.RowLemmas.{grown-back, undone-column}
use Rattle.arrow_column.proofs.growing.GrowingColumn.extend_from_frozen.Goals as goal

pub returns-in-Ok-clause-ok : goal.returns-in-Ok-clause-ok
returns-in-Ok-clause-ok g c =
    let column = c.self.inside in
    let other = c.other.inside in
    let V = g.V.StoredValues in
    let F = g.F.StoredValues in
    let t = logical_type column.data_type in
    let u = logical_type other.data_type in
    let grown = c.in_ok-grow_from.ensures.ok in (
      same-join g.F.Values.cut_around t u (V.around column.values) (F.around other.values) (V.stored column.values)
          (F.stored other.values) column.validity other.validity c.args.self.now c.args.other.now c.args.offset
          c.args.len c.self.invariant c.self.view_is c.other.invariant c.other.view_is g.V.MutableValues.join_overflows ∙ grown.0,
      joined-cut g.F.Values.cut_around t u (V.around column.values) (F.around other.values) (V.stored column.values)
          (F.stored other.values) column.validity other.validity c.args.self.now c.args.other.now c.args.offset
          c.args.len c.self.invariant c.self.view_is c.other.invariant c.other.view_is
          (V.around c.grow_from.new.self) (V.stored c.grow_from.new.self) c.join_marks.new.validity
          c.count-before.result c.requires grown.1 c.count-before.ensures c.in-Ok.ensures.ok
          c.in_ok-grow_from.ensures.around,
    )

pub returns-in-Err-clause-err : goal.returns-in-Err-clause-err
returns-in-Err-clause-err g c =
    let column = c.self.inside in
    let other = c.other.inside in
    let V = g.V.StoredValues in
    let F = g.F.StoredValues in
    let t = logical_type column.data_type in
    let u = logical_type other.data_type in
    let grown = c.in_ok-grow_from.ensures.ok in
    let room = same-join g.F.Values.cut_around t u (V.around column.values) (F.around other.values) (V.stored column.values)
    (F.stored other.values) column.validity other.validity c.args.self.now c.args.other.now c.args.offset
    c.args.len c.self.invariant c.self.view_is c.other.invariant c.other.view_is g.V.MutableValues.join_overflows ∙ grown.0 in
    let back = grown-back (V.stored column.values) (V.stored c.grow_from.new.self) (V.stored c.keep_first.new.self)
    (take c.args.len (drop c.args.offset (F.stored other.values))) c.count-before.result c.count-before.ensures
    grown.1 c.keep_first.ensures.stored in (
      c.in-Err.ensures.err.0 ∙ sym (ap refused_growth room),
      undone-column t (V.around column.values) (V.around c.keep_first.new.self) (V.stored column.values)
          (V.stored c.keep_first.new.self) column.validity c.join_marks.new.validity c.args.self.now
          back c.in-Err.ensures.err.1 (c.keep_first.ensures.around ∙ c.in_ok-grow_from.ensures.around) c.self.view_is,
    )

pub returns-in_err-grow_from-clause-err : goal.returns-in_err-grow_from-clause-err
returns-in_err-grow_from-clause-err g c =
    let column = c.self.inside in
    let other = c.other.inside in
    let V = g.V.StoredValues in
    let F = g.F.StoredValues in
    let t = logical_type column.data_type in
    let u = logical_type other.data_type in
    let room = same-join g.F.Values.cut_around t u (V.around column.values) (F.around other.values) (V.stored column.values)
    (F.stored other.values) column.validity other.validity c.args.self.now c.args.other.now c.args.offset
    c.args.len c.self.invariant c.self.view_is c.other.invariant c.other.view_is g.V.MutableValues.join_overflows in
    let back = undone-column t (V.around column.values) (V.around c.grow_from.new.self) (V.stored column.values)
    (V.stored c.grow_from.new.self) column.validity column.validity c.args.self.now
    c.in_err-grow_from.ensures.err.1 refl c.in_err-grow_from.ensures.around c.self.view_is in
    rw room (search rules)
