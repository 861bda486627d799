use Rattle.std.proofs.Common.{◌∙◌, ◌||◌, Option, ap, ap₂, arith, sym}
use Rattle.std.specs.List.{zip}
use Rattle.std.proofs.lemmas.List.Folds.{list_any_at, list_any_more}
use Rattle.arrow_column.specs.Column.{slots_of}
use Rattle.compute_arithmetics.specs.Arithmetic.{divides_by_zero}
use Rattle.compute_arithmetics.proofs.DivisionLemmas.{no_division, no_division_left, pair_got, pair_within}
use Rattle.compute_arithmetics.proofs.basic.has_zero_divisor.Goals as goal

pub returns-then-divides_by_zero-clause-value : goal.returns-then-divides_by_zero-clause-value
returns-then-divides_by_zero-clause-value g c =
    let ls = slots_of c.args.lhs.now in
    let rs = slots_of c.args.rhs.now in
    let number = g.T.NativeArithmetics.number in
    let is = λ (pair : Option g.row.T.Denot × Option g.row.T.Denot). divides_by_zero number pair.0 pair.1 in
    let s = c.get.result in
    let t = c.get-in-loop-i.result in
    let within = pair_within ls rs c.loop-i.i s t c.get.ensures c.get-in-loop-i.ensures in
    sym (list_any_at is (zip ls rs) c.loop-i.i (s, t) within
    (ap is (pair_got ls rs c.loop-i.i s t c.get.ensures c.get-in-loop-i.ensures) ∙ sym c.divides_by_zero.ensures
    ∙ c.if-divides_by_zero.true))

pub loop-i-preserved : goal.loop-i-preserved
loop-i-preserved g c =
    let ls = slots_of c.args.lhs.now in
    let rs = slots_of c.args.rhs.now in
    let number = g.T.NativeArithmetics.number in
    let is = λ (pair : Option g.row.T.Denot × Option g.row.T.Denot). divides_by_zero number pair.0 pair.1 in
    let s = c.get.result in
    let t = c.get-in-loop-i.result in
    let within = pair_within ls rs c.loop-i.i s t c.get.ensures c.get-in-loop-i.ensures in
    list_any_more is (zip ls rs) c.loop-i.i (s, t) within
    ∙ ap₂ ◌||◌ c.loop-i.invariant
    (ap is (pair_got ls rs c.loop-i.i s t c.get.ensures c.get-in-loop-i.ensures) ∙ sym c.divides_by_zero.ensures
    ∙ c.if-divides_by_zero.false)

pub returns-clause-value : goal.returns-clause-value
returns-clause-value g c = sym (no_division g.T.NativeArithmetics.number c.args.lhs.now c.args.rhs.now c.loop-i.i
    (omega (arith, c.loop-i-test.false, c.len-i-end.ensures)) c.loop-i.invariant)

pub returns-clause-none : goal.returns-clause-none
returns-clause-none g c = no_division_left g.T.NativeArithmetics.number c.args.lhs.now c.args.rhs.now c.loop-i.i
    (omega (arith, c.loop-i-test.false, c.len-i-end.ensures)) c.loop-i.invariant
