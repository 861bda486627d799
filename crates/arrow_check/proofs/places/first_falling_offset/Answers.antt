use Rattle.std.proofs.Common.{◌≡◌, ◌+◌, ◌∷◌, ◌∙◌, ap, map, pos, slice_get, Some, suc, arith}
use Rattle.std.specs.Prelude.{int_lt}
use Rattle.std.proofs.lemmas.Bool.{le-ltb, lt-ltb}
use Rattle.std.proofs.lemmas.List.{length-map}
use Rattle.arrow_check.specs.Places.{falls, steps_of}
use Rattle.arrow_check.proofs.PlaceLemmas.{first-at, length-steps, negative-falls, none-passes, number-read, passed-by}
use Rattle.arrow_check.proofs.PlaceLemmas.{step-at}
use Rattle.arrow_check.proofs.places.first_falling_offset.Goals as goal

pub returns-in_default : goal.returns-in_default
returns-in_default g c =
    let number = g.O.Offset.number in
    let offset = c.index-offsets-i.result in
    let step = step-at number c.args.offsets.now c.loop-i.i offset (pos c.loop-i.before) c.loop-i-test.true
    c.index-offsets-i.is c.loop-i.invariant.1 in
    first-at falls (steps_of (map number c.args.offsets.now)) c.loop-i.i (pos c.loop-i.before, number offset) step
    (negative-falls (number offset) c.loop-i.before c.in_default.ensures) c.loop-i.invariant.0

pub returns-then-number-before : goal.returns-then-number-before
returns-then-number-before g c =
    let number = g.O.Offset.number in
    let offset = c.index-offsets-i.result in
    let step = step-at number c.args.offsets.now c.loop-i.i offset (pos c.loop-i.before) c.loop-i-test.true
    c.index-offsets-i.is c.loop-i.invariant.1 in
    let below = ap (λ z. int_lt z (pos c.loop-i.before)) c.in-Some.ensures.0
    ∙ lt-ltb c.in-Some.number c.loop-i.before c.if-number-before.true in
    first-at falls (steps_of (map number c.args.offsets.now)) c.loop-i.i (pos c.loop-i.before, number offset) step
    below c.loop-i.invariant.0

pub loop-i-preserved : goal.loop-i-preserved
loop-i-preserved g c =
    let number = g.O.Offset.number in
    let offset = c.index-offsets-i.result in
    let offsets = c.args.offsets.now in
    let step = step-at number offsets c.loop-i.i offset (pos c.loop-i.before) c.loop-i-test.true c.index-offsets-i.is
    c.loop-i.invariant.1 in
    let is = c.in-Some.ensures.0 in
    let above = ap (λ z. int_lt z (pos c.loop-i.before)) is
    ∙ le-ltb c.in-Some.number c.loop-i.before c.if-number-before.false in
    let next : c.loop-i.i + 1 ≡ suc c.loop-i.i = omega arith in (
      passed-by falls (steps_of (map number offsets)) c.loop-i.i (pos c.loop-i.before, number offset) step above
          c.loop-i.invariant.0,
      ap (slice_get (pos 0 ∷ map number offsets)) next
          ∙ number-read number offsets c.loop-i.i offset c.loop-i-test.true c.index-offsets-i.is ∙ ap Some is,
    )

pub returns : goal.returns
returns g c =
    let zs = map g.O.Offset.number c.args.offsets.now in
    none-passes falls (steps_of zs) (omega (
      arith,
      length-steps zs,
      length-map c.args.offsets.now g.O.Offset.number,
      c.loop-i.invariant.0,
      c.loop-i-test.false,
    ))
