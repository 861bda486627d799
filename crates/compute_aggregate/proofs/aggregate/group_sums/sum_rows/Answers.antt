use Rattle.std.proofs.Common.{◌≡◌, ◌∙◌, None, Some, arith, false, get_or, if◌then◌else◌, length, pos, rules}
use Rattle.std.proofs.Common.{[], subst, sym}
use Rattle.std.specs.Prelude.{FitsSigned}
use Rattle.std.specs.Int.{w128}
use Rattle.std.specs.List.{zip}
use Rattle.std.proofs.lemmas.Int.{to_z-of_z}
use Rattle.std.proofs.lemmas.List.{length-map, take_all}
use Rattle.std.proofs.lemmas.Option.{same_Some, slice_get-get_or, slice_get_within}
use Rattle.std.proofs.lemmas.Slice.Zip.{length-zip}
use Rattle.arrow_types.proofs.CallerLemmas.{get-zip}
use Rattle.arrow_memory.specs.Rows.{slot}
use Rattle.arrow_column.specs.Column.{slots_of}
use Rattle.arrow_column.proofs.CallerLemmas.{slot-at}
use Rattle.compute_aggregate.specs.Groups.{values_at}
use Rattle.compute_aggregate.specs.GroupSums.{IsGroupSum}
use Rattle.compute_aggregate.proofs.GroupSumLemmas.{Sum, no_sum, sums_more, valid_is_some}
use Rattle.compute_aggregate.proofs.aggregate.group_sums.sum_rows.Goals as goal

pub loop-i-init : goal.loop-i-init
loop-i-init g c = λ k s at.
    let zero = c.requires.zero k (slice_get_within c.args.sums.now k s at) in
    subst (IsGroupSum g.T.NativeArithmetics.number [] 0) (same_Some ((pos 0, 0), false) s (sym zero ∙ at))
    (no_sum g.T.NativeArithmetics.number)

pub loop-i-preserved : goal.loop-i-preserved
loop-i-preserved g c = λ k s own.
    let index = get_or c.args.indices.now c.loop-i.i 0 in
    let zero : Sum = ((pos 0, 0), false) in
    let within = c.requires.within c.loop-i.i 0 c.loop-i-test.true in
    let state = slice_get-get_or c.loop-i.sums index zero (omega (arith, within, c.loop-i.auto.sums)) in
    let value = c.value-value.result in
    let valid = c.is_valid-is_valid.result in
    let shown = if valid then Some value else None in
    let at = slice_get-get_or c.args.indices.now c.loop-i.i 0 c.loop-i-test.true in
    let slot_at = slot-at c.args.array.now.rows c.loop-i.i value valid c.value-value.ensures c.is_valid-is_valid.ensures in
    let fits : FitsSigned w128 c.valid_number.result = search rules in
    let parts = c.split-parts.ensures.parts ∙ to_z-of_z w128 c.valid_number.result fits ∙ c.valid_number.ensures in
    sums_more g.T.NativeArithmetics.number c.loop-i.sums (zip c.args.indices.now (slots_of c.args.array.now)) c.loop-i.i index k shown
    (get_or c.loop-i.sums index zero) c.add_parts.result c.split-parts.result.0 c.split-parts.result.1 valid
    (get-zip c.args.indices.now
    (slots_of c.args.array.now) c.loop-i.i index shown at slot_at) state c.add_parts.ensures parts
    c.split-parts.ensures.high c.split-parts.ensures.low (sym (valid_is_some valid value)) c.loop-i.invariant s own

pub add_parts-requires : goal.add_parts-requires
add_parts-requires g c =
    let index = get_or c.args.indices.now c.loop-i.i 0 in
    let zero : Sum = ((pos 0, 0), false) in
    let within = c.requires.within c.loop-i.i 0 c.loop-i-test.true in
    let state = slice_get-get_or c.loop-i.sums index zero (omega (arith, within, c.loop-i.auto.sums)) in
    let before = c.loop-i.invariant index (get_or c.loop-i.sums index zero) state in
    record {
      high = omega (arith, before.high);
      part = c.split-parts.ensures.high;
      low = omega (arith, before.low, c.split-parts.ensures.low);
    }

pub returns : goal.returns
returns g c = λ k low.
    let zero : Sum = ((pos 0, 0), false) in
    let pairs = zip c.args.indices.now (slots_of c.args.array.now) in
    let own = slice_get-get_or c.loop-i.sums k zero (omega (arith, low, c.loop-i.auto.sums)) in
    let end : c.loop-i.i ≡ length c.args.indices.now = omega arith in
    let all = take_all c.loop-i.i pairs
    (omega (arith, length-zip c.args.indices.now (slots_of c.args.array.now), length-map c.args.array.now.rows slot)) in (
      get_or c.loop-i.sums k zero,
      own,
      subst (λ n. IsGroupSum g.T.NativeArithmetics.number (values_at pairs k) n (get_or c.loop-i.sums k zero)) end
          (subst (λ ps. IsGroupSum g.T.NativeArithmetics.number (values_at ps k) c.loop-i.i (get_or c.loop-i.sums k zero)) all
          (c.loop-i.invariant k (get_or c.loop-i.sums k zero) own)),
    )
