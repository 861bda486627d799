use Rattle.std.proofs.Common.{◌≡◌, ap, ap₂, arith, drop, of_z, to_z, ℕ, ℤ, ◌∙◌}
use Rattle.std.proofs.lemmas.Int.{ints}
use Rattle.std.proofs.lemmas.List.{length-drop, take_all}
use Rattle.std.specs.Int.{w128}
use Rattle.arrow_types.specs.declared.native_type.i256.{i256}
use Rattle.arrow_types.specs.LeBytes.{signed_of_bytes}
use Rattle.arrow_types.proofs.le_bytes.I256FromLeBytes.from_le_slice.Goals as goal

pub returns : goal.returns
returns c =
    let last = drop 16 c.args.bytes.now in
    let same : to_z w128 (of_z w128 c.from_le_slice.result) ≡ c.from_le_slice.result = omega (arith, ints) in
    let high = same ∙ c.from_le_slice.ensures
    ∙ ap (signed_of_bytes w128) (take_all 16 last (omega (arith, length-drop 16 c.args.bytes.now, c.requires))) in
    ap₂ (λ (high : ℤ) (low : ℕ). let v : i256 = record { 0 = high; 1 = low } in v) high c.u128_of.ensures
