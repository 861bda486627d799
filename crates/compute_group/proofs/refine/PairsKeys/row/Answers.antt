use Rattle.std.proofs.Common.{◌<◌, ◌∙◌, Some, ap, arith, length, rules}
use Rattle.std.specs.List.{zip}
use Rattle.std.specs.Prelude.{option_map}
use Rattle.std.proofs.lemmas.List.{length-map}
use Rattle.std.proofs.lemmas.Slice.Zip.{length-zip}
use Rattle.std.proofs.lemmas.Option.{slice_get-get_or, slice_get-map}
use Rattle.arrow_types.proofs.CallerLemmas.{get-zip}
use Rattle.compute_group.proofs.refine.PairsKeys.row.Goals as goal

pub offset_bounds-self-i : goal.offset_bounds-self-i
offset_bounds-self-i c =
    let pairs = c.args.self.now in
    let e = length-map (zip pairs.left.now pairs.right.now) Some ∙ length-zip pairs.left.now pairs.right.now in
    let low : c.args.i < length c.args.self.now.left.now = omega (arith, c.requires, e) in
    search rules

pub offset_bounds-self-i-2 : goal.offset_bounds-self-i-2
offset_bounds-self-i-2 c =
    let pairs = c.args.self.now in
    let e = length-map (zip pairs.left.now pairs.right.now) Some ∙ length-zip pairs.left.now pairs.right.now in
    let low : c.args.i < length c.args.self.now.right.now = omega (arith, c.requires, e) in
    search rules

pub bounds-self-i : goal.bounds-self-i
bounds-self-i c =
    let pairs = c.args.self.now in
    omega (
      arith,
      c.requires,
      length-map (zip pairs.left.now pairs.right.now) Some,
      length-zip pairs.left.now pairs.right.now,
    )

pub bounds-self-i-2 : goal.bounds-self-i-2
bounds-self-i-2 c =
    let pairs = c.args.self.now in
    omega (
      arith,
      c.requires,
      length-map (zip pairs.left.now pairs.right.now) Some,
      length-zip pairs.left.now pairs.right.now,
    )

pub returns : goal.returns
returns c =
    let pairs = c.args.self.now in
    let i = c.args.i in
    let e = length-map (zip pairs.left.now pairs.right.now) Some ∙ length-zip pairs.left.now pairs.right.now in
    slice_get-map Some (zip pairs.left.now pairs.right.now) i ∙ ap (option_map Some)
    (get-zip pairs.left.now pairs.right.now i _ _ (slice_get-get_or pairs.left.now i 0 (omega (arith, c.requires, e)))
    (slice_get-get_or pairs.right.now i 0 (omega (arith, c.requires, e))))
