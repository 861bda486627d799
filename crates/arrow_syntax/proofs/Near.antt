-- Lemmas on the first byte that passes a test, where a mask tells which of the first bytes of a text do.
use Rattle.std.proofs.Common.{◌≡◌, ℕ, ◌+◌, ◌<◌, ◌≤◌, Bool, List, length, map, take, get_or, false, sym, ap, ◌∙◌, arith}
use Rattle.std.proofs.Common.{Some, cond, w64, ◌^◌, ◌/◌, ◌%◌}
use Rattle.std.specs.Prelude.{position}
use Rattle.std.specs.Int.Count.{count_trailing_zeros}
use Rattle.std.specs.Simd.Lanes.{mask_l}
use Rattle.std.proofs.Math.Nat.{lt_of_not-le}
use Rattle.std.proofs.lemmas.List.{get_or_past, length-map}
use Rattle.std.proofs.lemmas.Nat.Bits.{bit_at-trailing_zeros}
use Rattle.std.proofs.lemmas.Simd.{bit_mask_l, length-chunk, run_in_chunk_fails, run_in_chunk_stops, trailing_mask_l}
use Rattle.arrow_syntax.proofs.Places.{found_at}

module _ (p : ℕ → Bool) (xs : List ℕ) (n : ℕ) (room : 0 + n ≤ length xs) (few : n ≤ 64) where
  -- a bit that is set stands for one of the first n bytes
  within : (i : ℕ) → mask_l (map p (take n xs)) / 2 ^ i % 2 ≡ 1 → i < n
  within i set = lt_of_not-le (λ past.
      let marks = map p (take n xs) in
      let long = length-map (take n xs) p ∙ length-chunk 0 n xs room in
      let none = get_or_past marks i false (omega (arith, long)) in
      let zero = bit_mask_l marks i ∙ ap (λ b. cond b 1 0) none in
      absurd (omega (arith, zero, set)))

  -- the lowest bit of the mask stands for the first byte that passes
  pub place_from_mask : (m : ℕ) → m ≡ mask_l (map p (take n xs)) → 0 < m → m < 2 ^ 64
      → position p xs ≡ Some (count_trailing_zeros 64 m)
  place_from_mask m is some fits =
      let place = count_trailing_zeros 64 m in
      let long = length-chunk 0 n xs room in
      let counted = ap (count_trailing_zeros 64) is
      ∙ trailing_mask_l p 64 (take n xs) (omega (arith, long)) (omega (arith, is)) in
      let lowest = bit_at-trailing_zeros w64 m some fits in
      let near : place < n = within place (sym (ap (λ k. k / 2 ^ place % 2) is) ∙ lowest.1) in
      let same : place ≡ 0 + place = omega arith in
      let hit = ap (λ k. p (get_or xs k 0)) same ∙ run_in_chunk_stops p xs 0 n place 0 room counted near in
      sym (found_at p xs place (omega arith)
      (λ k below. run_in_chunk_fails p xs 0 n place 0 room counted k (omega arith) (omega arith)) hit)
