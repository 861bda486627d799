use Rattle.std.proofs.Common.{◌≡◌, None, Some, arith, get_or, length, refl, subst}
use Rattle.std.proofs.lemmas.Option.{slice_get-get_or, slice_get_read}
use Rattle.arrow_memory.specs.Rows.{rows_of}
use Rattle.compute_aggregate.specs.GroupSums.{SumsTo, slots_by_group}
use Rattle.compute_aggregate.proofs.GroupSumLemmas.{by_group_at, valid_row_at, whole_more, whole_size}
use Rattle.std.proofs.Common.{true}
use Rattle.compute_aggregate.proofs.aggregate.whole_sums.add_values.Goals as goal

pub add_slot-requires-clause-size : goal.add_slot-requires-clause-size
add_slot-requires-clause-size g c = λ sum at.
    whole_size g.T.NativeArithmetics.number (slots_by_group c.args.indices.now (rows_of c.args.values.now None)) c.loop-i.i
    c.loop-i.sums (omega (arith, c.loop-i-test.true, c.requires.few)) c.loop-i.invariant
    (get_or c.args.indices.now c.loop-i.i 0) sum at

pub loop-i-preserved : goal.loop-i-preserved
loop-i-preserved g c =
    let number = g.T.NativeArithmetics.number in
    let rows = rows_of c.args.values.now None in
    let index = get_or c.args.indices.now c.loop-i.i 0 in
    let value = c.index-values-i.result in
    let within = c.requires.within c.loop-i.i 0 c.loop-i-test.true in
    let at = slice_get-get_or c.args.indices.now c.loop-i.i 0 c.loop-i-test.true in
    let read = slice_get_read c.args.values.now (length c.args.values.now) c.loop-i.i value refl
    (omega (arith, c.loop-i-test.true, c.requires.rows)) c.index-values-i.is in
    whole_more number c.loop-i.sums c.add_slot.new.sums (slots_by_group c.args.indices.now rows) c.loop-i.i index (Some value)
    (omega (arith, within, c.loop-i.auto.sums))
    (by_group_at number c.args.indices.now rows c.loop-i.i index value true at (valid_row_at c.args.values.now c.loop-i.i value read))
    (c.if-not-add_slot.ensures refl) c.loop-i.invariant

pub returns : goal.returns
returns g c = λ _.
    let end : c.loop-i.i ≡ length c.args.indices.now = omega arith in
    subst (λ n. SumsTo g.T.NativeArithmetics.number (slots_by_group c.args.indices.now (rows_of c.args.values.now None)) n c.loop-i.sums)
    end c.loop-i.invariant
