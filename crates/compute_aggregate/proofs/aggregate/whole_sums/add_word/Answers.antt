use Rattle.std.proofs.Common.{◌≡◌, ◌+◌, ◌<◌, ◌∙◌, Some, ap, arith, get_or, length, refl, subst, sym}
use Rattle.std.proofs.lemmas.Option.{slice_get-get_or, slice_get_read}
use Rattle.arrow_memory.specs.Rows.{rows_of, slot}
use Rattle.compute_aggregate.specs.GroupSums.{SumsTo, slots_by_group}
use Rattle.compute_aggregate.proofs.GroupSumLemmas.{by_group_at, masked_row_at, whole_more, whole_size}
use Rattle.compute_aggregate.proofs.aggregate.whole_sums.add_word.Goals as goal

pub loop-i-init : goal.loop-i-init
loop-i-init g c =
    let e : c.args.place ≡ c.args.place + 0 = omega arith in
    subst (λ n. SumsTo g.T.NativeArithmetics.number (slots_by_group c.args.indices.now (rows_of c.args.values.now (Some c.args.mask.now)))
    n c.args.sums.now) e c.requires.before

pub add_slot-requires-clause-size : goal.add_slot-requires-clause-size
add_slot-requires-clause-size g c = λ sum at.
    whole_size g.T.NativeArithmetics.number (slots_by_group c.args.indices.now (rows_of c.args.values.now (Some c.args.mask.now)))
    (c.args.place + c.loop-i.i) c.loop-i.sums
    (omega (arith, c.loop-i-test.true, c.requires.few, c.requires.place, c.requires.rows)) c.loop-i.invariant
    (get_or c.args.indices.now (c.args.place + c.loop-i.i) 0) sum at

pub loop-i-preserved : goal.loop-i-preserved
loop-i-preserved g c =
    let number = g.T.NativeArithmetics.number in
    let rows = rows_of c.args.values.now (Some c.args.mask.now) in
    let k = c.args.place + c.loop-i.i in
    let low : k < length c.args.indices.now = omega (arith, c.loop-i-test.true, c.requires.place, c.requires.rows) in
    let index = get_or c.args.indices.now k 0 in
    let value = c.index-values-k.result in
    let mark = c.is_set.result in
    let within = c.requires.within k 0 low in
    let at = slice_get-get_or c.args.indices.now k 0 low in
    let read = slice_get_read c.args.values.now (length c.args.values.now) k value refl
    (omega (arith, c.loop-i-test.true, c.requires.place)) c.index-values-k.is in
    let is_mark = c.word-word.ensures c.loop-i.i c.loop-i-test.true ∙ ap Some (sym c.is_set.ensures) in
    let e : c.args.place + c.loop-i.i + 1 ≡ c.args.place + (c.loop-i.i + 1) = omega arith in
    subst (λ n. SumsTo number (slots_by_group c.args.indices.now rows) n c.add_slot.new.sums) e
    (whole_more number c.loop-i.sums c.add_slot.new.sums (slots_by_group c.args.indices.now rows) k index (slot (value, mark))
    (omega (arith, within, c.loop-i.auto.sums))
    (by_group_at number c.args.indices.now rows k index value mark at
    (masked_row_at c.args.values.now c.args.mask.now k value mark read is_mark))
    (c.if-not-add_slot.ensures refl) c.loop-i.invariant)

pub returns : goal.returns
returns g c = λ _.
    let end : c.args.place + c.loop-i.i ≡ c.args.place + 64 = omega arith in
    subst (λ n. SumsTo g.T.NativeArithmetics.number (slots_by_group c.args.indices.now (rows_of c.args.values.now (Some c.args.mask.now)))
    n c.loop-i.sums) end c.loop-i.invariant
