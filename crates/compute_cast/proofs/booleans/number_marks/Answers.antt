use Rattle.std.proofs.Common.{◌≡◌, ◌+◌, ◌*◌, ◌∙◌, ap, arith, Bool, map, Some, sym, take}
use Rattle.std.specs.Int.{w128}
use Rattle.std.proofs.lemmas.Int.{to_z-of_z}
use Rattle.arrow_types.proofs.CallerLemmas.{get-map}
use Rattle.compute_base.proofs.CallerLemmas.{next-taken}
use Rattle.compute_cast.specs.Cast.{number_of_bool}
use Rattle.compute_cast.proofs.booleans.number_marks.Goals as goal

pub loop-k-preserved : goal.loop-k-preserved
loop-k-preserved g c =
    let marks = c.args.marks.now in
    let make = λ (b : Bool). g.O.NativeArithmetics.wrap (number_of_bool b) in
    let i = 64 * c.loop-w.w + c.loop-k.k in
    let next : i + 1 ≡ 64 * c.loop-w.w + (c.loop-k.k + 1) = omega arith in
    let mark = c.word-word.ensures c.loop-k.k c.loop-k-test.true ∙ ap Some (sym c.is_set.ensures) in
    record {
      so_far = c.push_reserved.ensures.items ∙ next-taken (map make marks) c.loop-k.made.items i c.wrap_number.result
          (get-map make marks i c.is_set.result mark ∙ ap Some (sym (c.wrap_number.ensures
          ∙ ap g.O.NativeArithmetics.wrap (to_z-of_z w128 c.from.result (record { sfits = c.from.type_inv })
          ∙ c.from.ensures)))) c.loop-k.invariant.so_far
          ∙ ap (λ n. take n (map make marks)) next;
      room = omega (arith, c.loop-k.invariant.room, c.push_reserved.ensures.capacity);
    }

pub loop-i-preserved : goal.loop-i-preserved
loop-i-preserved g c =
    let marks = c.args.marks.now in
    let make = λ (b : Bool). g.O.NativeArithmetics.wrap (number_of_bool b) in
    let i = c.loop-i.i in
    let from = c.from-in-loop-i in
    record {
      so_far = c.push_reserved-in-loop-i.ensures.items
          ∙ next-taken (map make marks) c.loop-i.made.items i c.wrap_number-in-loop-i.result
          (get-map make marks i c.get_bit.result c.get_bit.ensures ∙ ap Some (sym (c.wrap_number-in-loop-i.ensures
          ∙ ap g.O.NativeArithmetics.wrap (to_z-of_z w128 from.result (record { sfits = from.type_inv })
          ∙ from.ensures))))
          c.loop-i.invariant.so_far;
      room = omega (arith, c.loop-i.invariant.room, c.push_reserved-in-loop-i.ensures.capacity);
    }
