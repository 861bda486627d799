use Rattle.std.proofs.Common.{length, refl, ◌∙◌, ap, arith, Some, sym}
use Rattle.std.proofs.lemmas.List.{take_all}
use Rattle.std.proofs.lemmas.Option.{slice_get_read}
use Rattle.arrow_types.proofs.CallerLemmas.{get-combined}
use Rattle.compute_base.proofs.CallerLemmas.{length-of_pairs, next-taken}
use Rattle.compute_arithmetics.specs.Arithmetic.{of_pairs}
use Rattle.compute_arithmetics.proofs.combine.combine_values.Goals as goal

pub loop-i-preserved : goal.loop-i-preserved
loop-i-preserved g c =
    let make = g.O.Operation.make in
    let xs = c.args.lhs.now in
    let ys = c.args.rhs.now in
    let i = c.loop-i.i in
    let x = c.index-lhs-i.result in
    let y = c.index-rhs-i.result in
    record {
      so_far = c.push_reserved.ensures.items ∙ next-taken (of_pairs make xs ys) c.loop-i.values.items i c.apply.result
          (get-combined make xs ys i x y
          (slice_get_read xs (length xs) i x refl c.loop-i-test.true c.index-lhs-i.is)
          (slice_get_read ys (length xs) i y c.requires c.loop-i-test.true c.index-rhs-i.is)
          ∙ ap Some (sym c.apply.ensures)) c.loop-i.invariant.so_far;
      room = omega (arith, c.loop-i.invariant.room, c.push_reserved.ensures.capacity);
    }

pub returns-clause-ok : goal.returns-clause-ok
returns-clause-ok g c =
    let made = of_pairs g.O.Operation.make c.args.lhs.now c.args.rhs.now in
    c.loop-i.invariant.so_far ∙ take_all c.loop-i.i made (omega (
      arith,
      c.requires,
      length-of_pairs g.O.Operation.make c.args.lhs.now c.args.rhs.now,
    ))
