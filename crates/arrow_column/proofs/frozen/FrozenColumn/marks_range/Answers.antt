use Rattle.std.proofs.Common.{Some, None, option_map, take, drop, sym, ap, ◌∙◌}
use Rattle.arrow_column.proofs.RangeLemmas.{range-fits, range-slots}
use Rattle.arrow_column.proofs.frozen.FrozenColumn.marks_range.Goals as goal

pub returns-in-None-clause-slots : goal.returns-in-None-clause-slots
returns-in-None-clause-slots g c =
    let column = c.self.inside in
    let V = g.V.StoredValues in
    rw (← c.self.view_is) (range-slots (V.stored column.values) column.validity None c.args.offset c.args.len
    c.self.invariant (sym (ap (option_map (λ marks. take c.args.len (drop c.args.offset marks))) c.in-None.is)))

pub returns-in-Some-clause-slots : goal.returns-in-Some-clause-slots
returns-in-Some-clause-slots g c =
    let column = c.self.inside in
    let V = g.V.StoredValues in
    rw (← c.self.view_is) (range-slots (V.stored column.values) column.validity (Some c.iter_range.result)
    c.args.offset c.args.len c.self.invariant (ap Some c.iter_range.ensures
    ∙ sym (ap (option_map (λ marks. take c.args.len (drop c.args.offset marks))) c.in-Some.is)))

pub returns-in-Some-clause-fits : goal.returns-in-Some-clause-fits
returns-in-Some-clause-fits g c =
    let column = c.self.inside in
    let V = g.V.StoredValues in
    rw (← c.self.view_is) (range-fits (V.stored column.values) column.validity (Some c.iter_range.result)
    c.args.offset c.args.len c.self.invariant (ap Some c.iter_range.ensures
    ∙ sym (ap (option_map (λ marks. take c.args.len (drop c.args.offset marks))) c.in-Some.is)))
