use Rattle.std.proofs.Common.{◌≡◌, ◌<◌, ◌∙◌, ◌+ℤ◌, Some, ap, arith, get_or, length, of_z, pos, rules, take, to_z, unsigned_abs}
use Rattle.std.specs.Prelude.{FitsSigned, unwrap_or}
use Rattle.std.specs.Int.{w128}
use Rattle.std.specs.List.{zip}
use Rattle.std.proofs.lemmas.Int.{fits_signed_from_abs, to_z-of_z}
use Rattle.std.proofs.lemmas.List.{length-map, take_all}
use Rattle.std.proofs.lemmas.Option.{get_or_from_slice_get, slice_get-get_or}
use Rattle.std.proofs.lemmas.Slice.Zip.{length-zip}
use Rattle.dethrugn.specs.Aggregates.{sum_all}
use Rattle.dethrugn.specs.Column.{slots_of}
use Rattle.dethrugn.specs.Groups.{values_at}
use Rattle.dethrugn.specs.Rows.{slot}
use Rattle.dethrugn.proofs.CallerLemmas.Types.{get-zip}
use Rattle.example_record_batch.proofs.OverflowLemmas.{sums-more}
use Rattle.example_record_batch.proofs.any.overflow.add_numbers.Goals as goal

pub loop-i-preserved : goal.loop-i-preserved
loop-i-preserved c =
    let index = get_or c.args.indices.now c.loop-i.i 0 in
    let slots = slots_of c.args.array.now in
    let pairs = zip c.args.indices.now slots in
    let shown = c.get.result in
    let low : index < length c.args.sums.now = c.requires.within c.loop-i.i 0 c.loop-i-test.true in
    let at = slice_get-get_or c.args.indices.now c.loop-i.i 0 c.loop-i-test.true in
    let sum = sum_all (values_at (take c.loop-i.i pairs) index) in
    let fits = fits_signed_from_abs w128 sum (omega (arith, c.loop-i.invariant.small index low)) in
    let current = ap (λ z. to_z w128 (of_z w128 z)) (get_or_from_slice_get c.loop-i.sums index sum (pos 0)
    (c.loop-i.invariant.each index low)) ∙ to_z-of_z w128 sum fits in
    let next_fits : FitsSigned w128 c.add_slot.result = search rules in
    let next = to_z-of_z w128 c.add_slot.result next_fits in
    sums-more pairs c.loop-i.i index (length c.args.sums.now) shown c.loop-i.sums (to_z w128 (of_z w128 c.add_slot.result))
    c.loop-i.invariant (get-zip c.args.indices.now slots c.loop-i.i index shown at c.get.ensures) low
    (next ∙ c.add_slot.ensures.sum ∙ ap (λ z. z +ℤ unwrap_or shown (pos 0)) current)
    (omega (arith, c.add_slot.ensures.small, ap unsigned_abs next, ap unsigned_abs current))

pub returns : goal.returns
returns c = λ g low.
    let slots = slots_of c.args.array.now in
    let pairs = zip c.args.indices.now slots in
    c.loop-i.invariant.each g low
    ∙ ap (λ ps. Some (sum_all (values_at ps g))) (take_all c.loop-i.i pairs
    (omega (arith, length-zip c.args.indices.now slots, length-map c.args.array.now.rows slot)))
