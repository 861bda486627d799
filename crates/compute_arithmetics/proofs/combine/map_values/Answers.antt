use Rattle.std.proofs.Common.{length, refl, ◌∙◌, ap, arith, map, Some, sym}
use Rattle.std.proofs.lemmas.Option.{slice_get_read}
use Rattle.arrow_types.proofs.CallerLemmas.{get-map}
use Rattle.compute_base.proofs.CallerLemmas.{next-taken}
use Rattle.compute_arithmetics.proofs.combine.map_values.Goals as goal

pub loop-i-preserved : goal.loop-i-preserved
loop-i-preserved g c =
    let values = c.args.lhs.now in
    let make = λ (x : g.row.T.Denot). g.O.Operation.make x c.args.rhs in
    let i = c.loop-i.i in
    let x = c.index-lhs-i.result in
    record {
      so_far = c.push_reserved.ensures.items ∙ next-taken (map make values) c.loop-i.values.items i c.apply.result
          (get-map make values i x (slice_get_read values (length values) i x refl c.loop-i-test.true c.index-lhs-i.is)
          ∙ ap Some (sym c.apply.ensures)) c.loop-i.invariant.so_far;
      room = omega (arith, c.loop-i.invariant.room, c.push_reserved.ensures.capacity);
    }
