-- Lemmas on the first index whose element passes a test.
use Rattle.std.proofs.Common.{◌≡◌, ℕ, ◌<◌, Bool, true, false, List, length, refl, arith, Option, Some, None, get_or}
use Rattle.std.specs.Prelude.{position}
use Rattle.std.specs.List.{position_or_len}
use Rattle.std.proofs.lemmas.Bool.{lt-ltb, le-ltb, false_from_ne_true}
use Rattle.std.proofs.lemmas.List.Sums.{position_or_len_is}
use Rattle.memchr.specs.Find.{IsFirstByte}

module _ (p : ℕ → Bool) (xs : List ℕ) where
  -- no element before passes
  abbrev pub NoneBelow : ℕ → Type 0
  NoneBelow n = (k : ℕ) → k < n → p (get_or xs k 0) ≡ false

  pub found_at : (n : ℕ) → n < length xs → NoneBelow n → p (get_or xs n 0) ≡ true → Some n ≡ position p xs
  found_at n within before here =
      let is : position_or_len p xs ≡ n = position_or_len_is p xs n 0 (omega arith) before (λ h. here) in
      rw (is, lt-ltb n (length xs) within) refl

  pub found_nowhere : NoneBelow (length xs) → None ≡ position p xs
  found_nowhere before =
      let is : position_or_len p xs
      ≡ length xs = position_or_len_is p xs (length xs) 0 (omega arith) before (λ h. absurd (omega arith)) in
      rw (is, le-ltb (length xs) (length xs) (omega arith)) refl

  -- the same of the result of a search
  pub first_is_position : (found : Option ℕ) → IsFirstByte p xs found → found ≡ position p xs
  first_is_position None h = found_nowhere (λ k below. false_from_ne_true (p (get_or xs k 0)) (h k (omega arith) below))
  first_is_position (Some n) h = found_at n h.0.high
      (λ k below. false_from_ne_true (p (get_or xs k 0)) (h.0.before k (omega arith) below)) h.1
