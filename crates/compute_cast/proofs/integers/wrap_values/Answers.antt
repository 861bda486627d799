use Rattle.std.proofs.Common.{length, refl, ◌∙◌, ap, arith, map, Some, sym}
use Rattle.std.specs.Int.{w128}
use Rattle.std.proofs.lemmas.Int.{to_z-of_z}
use Rattle.std.proofs.lemmas.Option.{slice_get_read}
use Rattle.arrow_types.proofs.CallerLemmas.{get-map}
use Rattle.compute_base.proofs.CallerLemmas.{next-taken}
use Rattle.compute_cast.proofs.integers.wrap_values.Goals as goal

pub loop-i-preserved : goal.loop-i-preserved
loop-i-preserved g c =
    let values = c.args.values.now in
    let make = λ (x : g.row.I.Denot). g.O.NativeArithmetics.wrap (g.I.NativeArithmetics.number x) in
    let i = c.loop-i.i in
    let x = c.index-values-i.result in
    record {
      so_far = c.push_reserved.ensures.items ∙ next-taken (map make values) c.loop-i.made.items i c.wrap_number.result
          (get-map make values i x
          (slice_get_read values (length values) i x refl c.loop-i-test.true c.index-values-i.is)
          ∙ ap Some (sym (c.wrap_number.ensures ∙ ap g.O.NativeArithmetics.wrap
          (to_z-of_z w128 c.to_i128.result (record { sfits = c.to_i128.type_inv }) ∙ c.to_i128.ensures.value))))
          c.loop-i.invariant.so_far;
      room = omega (arith, c.loop-i.invariant.room, c.push_reserved.ensures.capacity);
    }
