use Rattle.std.proofs.Common.{◌≡◌, ◌+◌, ◌-◌, ◌*◌, ◌/◌, ◌∙◌, ap, arith, is_some, length, subst, sym, take, unwrap_or}
use Rattle.std.proofs.lemmas.List.{length-map, take_all}
use Rattle.arrow_memory.specs.Marks.{mark_at, marks}
use Rattle.compute_base.specs.Slots.{stored_of, valid_of}
use Rattle.compute_base.specs.Words.{HasMarks}
use Rattle.compute_base.proofs.WordLemmas.{all-marks, all-written, more-marks, no-marks}
use Rattle.compute_base.proofs.slots.collect_slots.Goals as goal

pub loop-i-init : goal.loop-i-init
loop-i-init g c = record {
  so_far = c.in_ok-values.ensures.items;
  written = no-marks (valid_of (g.S.SlotSource.slots c.args.source.now)) c.resize.new.self.items;
  len = omega (arith, c.len-len.ensures, c.in_ok-resize.ensures.len);
  room = omega (arith, c.len-len.ensures, c.in_ok-values.ensures.exact);
}

pub loop-i-preserved : goal.loop-i-preserved
loop-i-preserved g c =
    let slots = g.S.SlotSource.slots c.args.source.now in
    let truths = valid_of slots in
    let old = c.loop-i.bytes in
    let bytes = c.write_word.new.target in
    let next : 64 * c.loop-i.i + 64 ≡ 64 * (c.loop-i.i + 1) = omega arith in
    let long : old.len ≡ length bytes = omega (arith, c.write_word.ensures.len, c.deref_mut.ensures.len) in
    record {
      so_far = c.push_slots-word.ensures.so_far ∙ ap (λ n. take n (stored_of g.T.NativeType.zero slots)) next;
      written = subst (λ bytes. HasMarks truths bytes (64 * (c.loop-i.i + 1)))
          (sym (all-written bytes old.items old.len long))
          (subst (HasMarks truths bytes) next (more-marks truths old.items bytes c.loop-i.i c.push_slots-word.result 64
          c.loop-i.invariant.written
          (λ k low. c.write_word.ensures.kept k low ∙ ap (λ xs. mark_at xs k) c.deref_mut.ensures.value)
          c.write_word.ensures.marks (omega arith) c.push_slots-word.ensures.marks));
      len = c.loop-i.invariant.len;
      room = omega (arith, c.loop-i.invariant.room, c.push_slots-word.ensures.room);
    }

pub push_slots-last-requires-clause-so_far : goal.push_slots-last-requires-clause-so_far
push_slots-last-requires-clause-so_far g c =
    let slots = g.S.SlotSource.slots c.args.source.now in
    let all : c.loop-i.i ≡ c.len-len.result / 64 = omega (arith, c.loop-i-test.false, c.loop-i.auto.i-end) in
    c.loop-i.invariant.so_far ∙ ap (λ n. take (64 * n) (stored_of g.T.NativeType.zero slots)) all

pub returns-clause-values : goal.returns-clause-values
returns-clause-values g c =
    let slots = g.S.SlotSource.slots c.args.source.now in
    let zero = g.T.NativeType.zero in
    c.push_slots-last.ensures.so_far ∙ take_all _ (stored_of zero slots) (omega (
      arith,
      c.len-len.ensures,
      length-map slots (λ slot. unwrap_or slot zero),
    ))

pub returns-clause-marks : goal.returns-clause-marks
returns-clause-marks g c =
    let slots = g.S.SlotSource.slots c.args.source.now in
    let truths = valid_of slots in
    let len = c.len-len.result in
    let words = len / 64 in
    let old = c.loop-i.bytes in
    let bytes = c.write_word-2.new.target in
    let long : old.len ≡ length bytes = omega (arith, c.write_word-2.ensures.len, c.deref_mut-2.ensures.len) in
    let count : len ≡ length truths = omega (arith, c.len-len.ensures, length-map slots is_some) in
    let all : c.loop-i.i ≡ words = omega (arith, c.loop-i-test.false, c.loop-i.auto.i-end) in
    let end : 64 * words + (len - 64 * words) ≡ len = omega arith in
    c.from_bytes-marks.ensures ∙ ap (λ bytes. marks bytes 0 len) (all-written bytes old.items old.len long)
    ∙ all-marks truths bytes len (subst (HasMarks truths bytes) end (more-marks truths old.items bytes words
    c.push_slots-last.result (len - 64 * words)
    (subst (λ i. HasMarks truths old.items (64 * i)) all c.loop-i.invariant.written)
    (λ k low. c.write_word-2.ensures.kept k low ∙ ap (λ xs. mark_at xs k) c.deref_mut-2.ensures.value)
    c.write_word-2.ensures.marks (omega arith) c.push_slots-last.ensures.marks)) count
