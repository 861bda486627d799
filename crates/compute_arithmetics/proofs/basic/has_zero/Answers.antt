use Rattle.std.proofs.Common.{◌∙◌, ◌||◌, ap, ap₂, arith, sym}
use Rattle.std.proofs.lemmas.List.Folds.{list_any_at, list_any_more}
use Rattle.std.proofs.lemmas.Option.{get_or_from_slice_get, slice_get_within}
use Rattle.std.proofs.lemmas.List.{length-map}
use Rattle.arrow_memory.specs.Rows.{slot}
use Rattle.arrow_column.specs.Column.{slots_of}
use Rattle.compute_arithmetics.specs.Arithmetic.{slot_is_zero}
use Rattle.compute_arithmetics.proofs.DivisionLemmas.{divides_any, no_zero_left}
use Rattle.compute_arithmetics.proofs.basic.has_zero.Goals as goal

pub returns-then-is_zero-clause-value : goal.returns-then-is_zero-clause-value
returns-then-is_zero-clause-value g c =
    let slots = slots_of c.args.array.now in
    let is = slot_is_zero g.T.NativeArithmetics.number in
    let slot = c.get.result in
    sym (list_any_at is slots c.loop-i.i slot (slice_get_within slots c.loop-i.i slot c.get.ensures)
    (ap is (get_or_from_slice_get slots c.loop-i.i slot slot c.get.ensures) ∙ sym c.is_zero.ensures ∙ c.if-is_zero.true))

pub loop-i-preserved : goal.loop-i-preserved
loop-i-preserved g c =
    let slots = slots_of c.args.array.now in
    let is = slot_is_zero g.T.NativeArithmetics.number in
    let slot = c.get.result in
    list_any_more is slots c.loop-i.i slot (slice_get_within slots c.loop-i.i slot c.get.ensures)
    ∙ ap₂ ◌||◌ c.loop-i.invariant
    (ap is (get_or_from_slice_get slots c.loop-i.i slot slot c.get.ensures) ∙ sym c.is_zero.ensures ∙ c.if-is_zero.false)

pub returns-clause-divides : goal.returns-clause-divides
returns-clause-divides g c =
    let slots = slots_of c.args.array.now in
    divides_any g.T.NativeArithmetics.number slots (no_zero_left g.T.NativeArithmetics.number slots c.loop-i.i
    (omega (arith, c.loop-i-test.false, c.len-i-end.ensures, length-map c.args.array.now.rows slot)) c.loop-i.invariant)
