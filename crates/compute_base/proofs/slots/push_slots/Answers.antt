use Rattle.std.proofs.Common.{◌≡◌, ◌+◌, ◌*◌, ◌%◌, ◌^◌, ◌∙◌, Some, ap, arith, bit_or, is_some, length, refl, subst, sym, take}
use Rattle.std.proofs.Common.{unwrap_or}
use Rattle.std.proofs.lemmas.List.{length-map, length-take-le, length_push}
use Rattle.arrow_types.proofs.CallerLemmas.{get-map}
use Rattle.compute_base.specs.Slots.{stored_of, valid_of}
use Rattle.compute_base.proofs.ListLemmas.{next-taken}
use Rattle.compute_base.proofs.WordLemmas.{HoldsFirst, all-bits, no-bits, one-bit}
use Rattle.compute_base.proofs.slots.push_slots.Goals as goal

pub loop-i-init : goal.loop-i-init
loop-i-init g c =
    let slots = g.S.SlotSource.slots c.args.source.now in
    let zero = g.T.NativeType.zero in
    let place = c.args.place in
    let here : place ≡ place + 0 = omega arith in
    record {
      so_far = c.requires.so_far ∙ ap (λ n. take n (stored_of zero slots)) here;
      marks = no-bits (valid_of slots) place;
      len = ap length c.requires.so_far ∙ length-take-le place (stored_of zero slots) (omega (
        arith,
        c.requires.within,
        length-map slots (λ slot. unwrap_or slot zero),
      )) ∙ here;
      room = refl;
    }

pub loop-i-preserved : goal.loop-i-preserved
loop-i-preserved g c =
    let slots = g.S.SlotSource.slots c.args.source.now in
    let zero = g.T.NativeType.zero in
    let i = c.loop-i.i in
    let at = c.args.place + i in
    let slot = c.slot-slot.result in
    let stored = get-map (λ s. unwrap_or s zero) slots at slot c.slot-slot.ensures in
    let marked = get-map is_some slots at slot c.slot-slot.ensures in
    let next : at + 1 ≡ c.args.place + (i + 1) = omega arith in
    record {
      so_far = c.push_reserved.ensures.items ∙ next-taken (stored_of zero slots) c.loop-i.values.items at c.unwrap_or.result
          (stored ∙ ap Some (sym (c.unwrap_or.ensures ∙ ap (unwrap_or slot) c.default.ensures))) c.loop-i.invariant.so_far
          ∙ ap (λ n. take n (stored_of zero slots)) next;
      marks = subst
          (λ bit. HoldsFirst (bit_or c.loop-i.word (bit * 2 ^ i % 2 ^ 64)) (valid_of slots) c.args.place (i + 1))
          (sym c.from.ensures)
          (one-bit 64 c.loop-i.word (valid_of slots) c.args.place i c.is_some.result
          (omega (arith, c.requires.few, c.loop-i-test.true)) (marked ∙ ap Some (sym c.is_some.ensures))
          c.loop-i.invariant.marks);
      len = ap length c.push_reserved.ensures.items ∙ length_push c.loop-i.values.items c.unwrap_or.result
          ∙ omega (arith, c.loop-i.invariant.len);
      room = c.push_reserved.ensures.capacity ∙ c.loop-i.invariant.room;
    }

pub returns-clause-so_far : goal.returns-clause-so_far
returns-clause-so_far g c =
    let slots = g.S.SlotSource.slots c.args.source.now in
    let all : c.loop-i.i ≡ c.args.count = omega arith in
    c.loop-i.invariant.so_far ∙ ap (λ n. take (c.args.place + n) (stored_of g.T.NativeType.zero slots)) all

pub returns-clause-marks : goal.returns-clause-marks
returns-clause-marks g c = all-bits c.loop-i.word (valid_of (g.S.SlotSource.slots c.args.source.now)) c.args.place
    c.loop-i.i c.args.count c.loop-i-test.false c.loop-i.invariant.marks
