-- Bytes that are ASCII in parts.
use Rattle.std.proofs.Common.{Bool, true, false, ◌&&◌, cond, leb, eqb, MatchBool, ℕ, zero, suc, ◌≡◌, ◌+◌, ◌*◌, ◌%◌}
use Rattle.std.proofs.Common.{◌^◌, ◌<◌, ◌≤◌, List, [], ◌∷◌, length, map, take, drop, replicate, inl, inr, refl}
use Rattle.std.proofs.Common.{subst, sym, ap, ◌∙◌, arith, eqb-true, leb-false, leb-true, take-add, take-append-drop}
use Rattle.std.proofs.Common.{length-take, length-drop}
use Rattle.std.proofs.lemmas.Bool.{cases_lt, eqb-false}
use Rattle.std.proofs.lemmas.Simd.{length-zip2, mask_l-mod}
use lib.Lanes.{zip2, mask_l, top}
use Rattle.std.proofs.lemmas.List.{get_or-take, get_or-drop, get_or_past, length-map, take_all}
use Rattle.std.proofs.lemmas.Str.{IsAscii-append}
use Rattle.std.specs.Str.{IsAscii, IsNotAscii}

pub ascii-parts : (bytes : List ℕ) (n : ℕ) → IsAscii (take n bytes) → IsAscii (drop n bytes) → IsAscii bytes
ascii-parts bytes n front back =
    subst IsAscii (take-append-drop n bytes) (IsAscii-append (take n bytes) (drop n bytes) front back)

pub ascii-more : (bytes : List ℕ) (n m : ℕ) → IsAscii (take n bytes) → IsAscii (take m (drop n bytes))
    → IsAscii (take (n + m) bytes)
ascii-more bytes n m front next =
    subst IsAscii (sym (take-add n m bytes)) (IsAscii-append (take n bytes) (take m (drop n bytes)) front next)

pub high-drop : (bytes : List ℕ) (n : ℕ) → IsNotAscii (drop n bytes) → IsNotAscii bytes
high-drop bytes n high = (n + high.0, (let e = get_or-drop n bytes high.0 0 in omega (arith, e, high.1)))

pub high-take : (bytes : List ℕ) (n : ℕ) → IsNotAscii (take n bytes) → IsNotAscii bytes
high-take bytes n high =
    elim (cases_lt high.0 n) [
      | inl low ↦ (high.0, (let e = get_or-take n bytes high.0 0 low in omega (arith, e, high.1)))
      | inr past ↦ absurd (
          let short : length (take n bytes) ≤ high.0 = simp length-take (omega arith) in
          let none = get_or_past (take n bytes) high.0 0 short in
          omega (arith, none, high.1))
    ]

pub ascii-rest : (bytes : List ℕ) (at k : ℕ) → IsAscii (take k (drop at bytes)) → length bytes ≤ at + k
    → IsAscii (drop at bytes)
ascii-rest bytes at k ascii all = subst IsAscii (take_all k (drop at bytes) (simp length-drop (omega arith))) ascii

pub high-part : (bytes : List ℕ) (at k : ℕ) → IsNotAscii (take k (drop at bytes)) → IsNotAscii bytes
high-part bytes at k high = high-drop bytes at (high-take (drop at bytes) k high)

pub match-weaker : (r : Bool) (P Q R S : Type 0) → (P → R) → (Q → S) → MatchBool r P Q → MatchBool r R S
match-weaker true P Q R S f g m = f m
match-weaker false P Q R S f g m = g m

-- ---- a block, by the mask of its bytes above 7F

abbrev at_least : ℕ → ℕ → ℕ
at_least least byte = cond (leb least byte) 255 0

-- a bit for each byte
abbrev high_mask : ℕ → List ℕ → ℕ
high_mask n bytes = mask_l (map (top 7) (zip2 at_least (replicate n 128) bytes))

none-high : (bytes : List ℕ) → high_mask (length bytes) bytes ≡ 0 → IsAscii bytes
none-high [] empty i = omega arith
none-high (byte ∷ bytes) empty zero = go (leb 128 byte) refl (omega arith)
  where
    go : (t : Bool) → leb 128 byte ≡ t → ◌≡◌ {A = ℕ} (cond (top 7 (cond t 255 0)) 1 0) 0 → byte < 128
    go true p q = absurd (omega arith)
    go false p q = leb-false _ _ p
none-high (byte ∷ bytes) empty (suc i) = none-high bytes (omega arith) i

some-high : (bytes : List ℕ) → 0 < high_mask (length bytes) bytes → IsNotAscii bytes
some-high [] more = absurd (omega arith)
some-high (byte ∷ bytes) more = go (leb 128 byte) refl (high_mask (length bytes) bytes) (some-high bytes) more
  where
    go : (t : Bool) → leb 128 byte ≡ t → (rest : ℕ) → (0 < rest → IsNotAscii bytes)
        → 0 < cond (top 7 (cond t 255 0)) 1 0 + 2 * rest → IsNotAscii (byte ∷ bytes)
    go true p rest others q = (0, leb-true _ _ p)
    go false p rest others q = (let high = others (omega arith) in (suc high.0, high.1))

mask-match : (mask : ℕ) (P Q : Type 0) → (mask ≡ 0 → P) → (0 < mask → Q) → MatchBool (eqb mask 0) P Q
mask-match mask P Q none some = go (eqb mask 0) refl
  where
    go : (t : Bool) → eqb mask 0 ≡ t → MatchBool t P Q
    go true p = none (eqb-true _ _ p)
    go false p = some (let other = eqb-false _ _ p in omega (arith, other))

pub block-match : (bytes : List ℕ) → length bytes ≡ 64
    → MatchBool (eqb (high_mask 64 bytes % 2 ^ 64) 0) (IsAscii bytes) (IsNotAscii bytes)
block-match bytes long =
    let small : high_mask 64 bytes % 2 ^ 64 ≡ high_mask 64 bytes =
    mask_l-mod _ 64 (omega (
      arith,
      length-map (zip2 at_least (replicate 64 128) bytes) (top 7),
      length-zip2 at_least (replicate 64 128) bytes (sym long),
    )) in
    let same : high_mask (length bytes) bytes ≡ high_mask 64 bytes % 2 ^ 64 = ap (λ n. high_mask n bytes) long
    ∙ sym small in
    mask-match (high_mask 64 bytes % 2 ^ 64) (IsAscii bytes) (IsNotAscii bytes) (λ none.
    none-high bytes (same ∙ none)) (λ some. some-high bytes (omega (arith, same, some)))

-- two tests are one of both
pub both-match : (first second : Bool) (P Q R S T : Type 0) → (Q → T) → (S → T) → MatchBool first P Q
    → MatchBool second R S → MatchBool (first && second) (P × R) T
both-match true true P Q R S T f g m n = (m, n)
both-match true false P Q R S T f g m n = g n
both-match false second P Q R S T f g m n = f m
