use Rattle.std.proofs.Common.{◌≡◌, ◌+◌, ◌*◌, ◌/◌, Some, arith, get_or, length, refl, subst}
use Rattle.std.proofs.lemmas.Option.{slice_get-get_or, slice_get_read}
use Rattle.arrow_memory.specs.Rows.{rows_of, slot}
use Rattle.compute_aggregate.specs.GroupSums.{SumsTo, slots_by_group}
use Rattle.compute_aggregate.proofs.GroupSumLemmas.{by_group_at, masked_row_at, whole_more, whole_size}
use Rattle.compute_aggregate.proofs.aggregate.whole_sums.add_masked.Goals as goal

pub loop-i-preserved : goal.loop-i-preserved
loop-i-preserved g c =
    let e : 64 * c.loop-i.i + 64 ≡ 64 * (c.loop-i.i + 1) = omega arith in
    subst (λ n. SumsTo g.T.NativeArithmetics.number (slots_by_group c.args.indices.now (rows_of c.args.values.now (Some c.args.mask.now)))
    n c.add_word.new.sums) e (c.if-not-add_word.ensures refl)

pub loop-k-init : goal.loop-k-init
loop-k-init g c =
    let e : 64 * c.loop-i.i ≡ 64 * (length c.args.indices.now / 64) = omega arith in
    subst (λ n. SumsTo g.T.NativeArithmetics.number (slots_by_group c.args.indices.now (rows_of c.args.values.now (Some c.args.mask.now)))
    n c.loop-i.sums) e c.loop-i.invariant

pub add_slot-requires-clause-size : goal.add_slot-requires-clause-size
add_slot-requires-clause-size g c = λ sum at.
    whole_size g.T.NativeArithmetics.number (slots_by_group c.args.indices.now (rows_of c.args.values.now (Some c.args.mask.now)))
    c.loop-k.k c.loop-k.sums (omega (arith, c.loop-k-test.true, c.requires.few)) c.loop-k.invariant
    (get_or c.args.indices.now c.loop-k.k 0) sum at

pub loop-k-preserved : goal.loop-k-preserved
loop-k-preserved g c =
    let number = g.T.NativeArithmetics.number in
    let rows = rows_of c.args.values.now (Some c.args.mask.now) in
    let index = get_or c.args.indices.now c.loop-k.k 0 in
    let value = c.index-values-k.result in
    let mark = c.get_bit.result in
    let within = c.requires.within c.loop-k.k 0 c.loop-k-test.true in
    let at = slice_get-get_or c.args.indices.now c.loop-k.k 0 c.loop-k-test.true in
    let read = slice_get_read c.args.values.now (length c.args.values.now) c.loop-k.k value refl
    (omega (arith, c.loop-k-test.true, c.requires.rows)) c.index-values-k.is in
    whole_more number c.loop-k.sums c.add_slot.new.sums (slots_by_group c.args.indices.now rows) c.loop-k.k index
    (slot (value, mark)) (omega (arith, within, c.loop-k.auto.sums))
    (by_group_at number c.args.indices.now rows c.loop-k.k index value mark at
    (masked_row_at c.args.values.now c.args.mask.now c.loop-k.k value mark read c.get_bit.ensures))
    (c.if-not-add_slot.ensures refl) c.loop-k.invariant

pub returns : goal.returns
returns g c = λ _.
    let end : c.loop-k.k ≡ length c.args.indices.now = omega arith in
    subst (λ n. SumsTo g.T.NativeArithmetics.number (slots_by_group c.args.indices.now (rows_of c.args.values.now (Some c.args.mask.now)))
    n c.loop-k.sums) end c.loop-k.invariant
