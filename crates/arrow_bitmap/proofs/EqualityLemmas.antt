-- Lemmas about marks that agree, a word at a time.
use Rattle.std.proofs.Common.{◌≡◌, ℕ, zero, suc, ◌+◌, ◌-◌, ◌*◌, ◌/◌, ◌^◌, ◌<◌, ◌≤◌, ◌↔◌, ◌==◌, Bool, true, List}
use Rattle.std.proofs.Common.{[], ◌∷◌, get_or, get_or-take, length, take, slice_get, Some, Option, unwrap_or, refl, sym}
use Rattle.std.proofs.Common.{ap, ap₂, subst, ◌∙◌, ◌⊎◌, inl, inr, bit_and, min, nat_eq, arith, true≢false}
use Rattle.std.specs.Int.{bit_at}
use Rattle.std.proofs.lemmas.Bool.{cases_lt, eqb-true, eq-eqb}
use Rattle.std.proofs.lemmas.Nat.Bits.{bit_at_and, bit_at-lt, bit_at_above, bit_at_ones, same_from_bits}
use Rattle.arrow_types.proofs.CallerLemmas.{min-zero}
use Rattle.arrow_bitmap.specs.Marks.{mark_at, marks}
use Rattle.arrow_bitmap.specs.Masks.{IsValidAt}
use Rattle.arrow_bitmap.proofs.MarkLemmas.{length-marks, mark_of_same, slice_get-marks}

min-one : (x y : ℕ) → x < 2 → y ≡ 1 → min x y ≡ x
min-one x y low e = omega (arith, low, e)

-- a bit that the other word lets through
kept-bit : (a k i : ℕ) → bit_at k i ≡ 1 → bit_at (bit_and a k) i ≡ bit_at a i
kept-bit a k i e = bit_at_and a k i ∙ min-one (bit_at a i) (bit_at k i) (bit_at-lt a i) e

-- and one that it clears
lost-bit : (a k i : ℕ) → bit_at k i ≡ 0 → bit_at (bit_and a k) i ≡ 0
lost-bit a k i e = bit_at_and a k i ∙ min-zero (bit_at a i) (bit_at k i) e

bit-cases : (x : ℕ) → x < 2 → (x ≡ 0) ⊎ (x ≡ 1)
bit-cases zero low = inl refl
bit-cases (suc zero) low = inr refl
bit-cases (suc (suc x)) low = absurd (omega arith)

-- two words that have the same bits where a third has set bits
pub same-word : (a b k : ℕ) → k < 2 ^ 64 → (nat_eq (bit_and a k) (bit_and b k) ≡ true) ↔ ((i : ℕ) → i < 64
    → bit_at k i ≡ 1 → bit_at a i ≡ bit_at b i)
same-word a b k small = (
  λ e i low kept. sym (kept-bit a k i kept) ∙ ap (λ n. bit_at n i) (eqb-true (bit_and a k) (bit_and b k) e)
      ∙ kept-bit b k i kept,
  λ same. eq-eqb (bit_and a k) (bit_and b k) (same_from_bits (bit_and a k) (bit_and b k) (λ i.
      elim (bit-cases (bit_at k i) (bit_at-lt k i)) [
        | inl lost ↦ lost-bit a k i lost ∙ sym (lost-bit b k i lost)
        | inr kept ↦ kept-bit a k i kept ∙ same i (place i kept) kept ∙ sym (kept-bit b k i kept)
      ])),
)
  where
    place : (i : ℕ) → bit_at k i ≡ 1 → i < 64
    place i kept = elim (cases_lt i 64) [
      | inl low ↦ low
      | inr past ↦ absurd (omega (arith, kept, bit_at_above k 64 i small past))
    ]

pub all-word_bits : (i : ℕ) → i < 64 → bit_at 18446744073709551615 i ≡ 1
all-word_bits i low = bit_at_ones 64 i low

-- a set mark is a set bit
pub set-mark : (x : ℕ) → x < 2 → (x ≡ 1) ↔ (Some (x == 1) ≡ Some true)
set-mark zero low = (λ e. absurd (omega (arith, e)), λ e. absurd (true≢false (sym (ap (λ o. unwrap_or o true) e))))
set-mark (suc zero) low = (λ e. refl, λ e. refl)
set-mark (suc (suc x)) low = absurd (omega arith)

-- bits that are the same mark
same-bit : (x y : ℕ) → x < 2 → y < 2 → Some (x == 1) ≡ Some (y == 1) → x ≡ y
same-bit zero zero low high e = refl
same-bit zero (suc zero) low high e = absurd (true≢false (sym (ap (λ o. unwrap_or o true) e)))
same-bit (suc zero) zero low high e = absurd (true≢false (ap (λ o. unwrap_or o true) e))
same-bit (suc zero) (suc zero) low high e = refl
same-bit (suc (suc x)) y low high e = absurd (omega (arith, low))
same-bit zero (suc (suc y)) low high e = absurd (omega (arith, high))
same-bit (suc zero) (suc (suc y)) low high e = absurd (omega (arith, high))

-- 64 places of two lists of marks that have the bits of two words, of which a third tells the valid ones
module _ (first second : List Bool) (mask : Option (List Bool)) (place a b valid : ℕ)
    (firsts : (k : ℕ) → k < 64 → slice_get first (place + k) ≡ Some (bit_at a k == 1))
    (seconds : (k : ℕ) → k < 64 → slice_get second (place + k) ≡ Some (bit_at b k == 1))
    (valids : (k : ℕ) → k < 64 → (bit_at valid k ≡ 1) ↔ IsValidAt mask (place + k)) where
  pub word-agrees : ((k : ℕ) → k < 64 → bit_at valid k ≡ 1 → bit_at a k ≡ bit_at b k)
      ↔ ((k : ℕ) → k < 64 → IsValidAt mask (place + k) → slice_get first (place + k) ≡ slice_get second (place + k))
  word-agrees = (
    λ bits k low is. firsts k low ∙ ap (λ x. Some (x == 1)) (bits k low ((valids k low).1 is)) ∙ sym (seconds k low),
    λ marks k low set.
        same-bit (bit_at a k) (bit_at b k) (bit_at-lt a k) (bit_at-lt b k)
        (sym (firsts k low) ∙ marks k low ((valids k low).0 set) ∙ seconds k low),
  )

-- places that agree up to one, and 64 more from one at or below it
module _ {X : Type 0} (first second : List X) (mask : Option (List Bool)) where
  Same : ℕ → Type 0
  Same i = IsValidAt mask i → slice_get first i ≡ slice_get second i

  pub more-places : (done place : ℕ) → place ≤ done → ((i : ℕ) → i < done → IsValidAt mask i
      → slice_get first i ≡ slice_get second i) → ((k : ℕ) → k < 64 → IsValidAt mask (place + k)
      → slice_get first (place + k) ≡ slice_get second (place + k)) → (i : ℕ) → i < place + 64 → IsValidAt mask i
      → slice_get first i ≡ slice_get second i
  unfolding Same
  more-places done place le before more i low = elim (cases_lt i done) [
    | inl early ↦ before i early
    | inr late ↦
        let here : place + (i - place) ≡ i = omega (arith, late, le) in
        subst Same here (more (i - place) (omega (arith, low, late, le)))
  ]

-- lists that agree at each place are the same
pub agree-all : {X : Type 0} (xs ys : List X) → length xs ≡ length ys
    → ((k : ℕ) → k < length xs → slice_get xs k ≡ slice_get ys k) → xs ≡ ys
agree-all [] [] long same = refl
agree-all [] (y ∷ ys) long same = absurd (omega (arith, long))
agree-all (x ∷ xs) [] long same = absurd (omega (arith, long))
agree-all (x ∷ xs) (y ∷ ys) long same =
    let first : Some x ≡ Some y = same 0 (omega arith) in
    let others : length xs ≡ length ys = omega (arith, long) in
    ap₂ (λ z zs. z ∷ zs) (ap (λ o. unwrap_or o x) first) (agree-all xs ys others (λ k h.
    same (suc k) (omega (arith, h))))

-- bytes, of which the whole ones and the last 64 marks are the same
module _ (left right : List ℕ) (len : ℕ) (bytes : take (len / 8) left ≡ take (len / 8) right) where
  mark-same : (k : ℕ) → k < 8 * (len / 8) → mark_at left k ≡ mark_at right k
  mark-same k low =
      let within : k / 8 < len / 8 = omega (arith, low) in
      mark_of_same left right k (sym (get_or-take (len / 8) left (k / 8) 0 within)
      ∙ ap (λ xs. get_or xs (k / 8) 0) bytes ∙ get_or-take (len / 8) right (k / 8) 0 within)

  pub bytes-same : (first second : List Bool) → marks left 0 len ≡ first → marks right 0 len ≡ second → 64 ≤ len
      → ((k : ℕ) → k < 64 → slice_get first (len - 64 + k) ≡ slice_get second (len - 64 + k)) → first ≡ second
  bytes-same first second is is-other long last =
      agree-all first second
      (ap length (sym is) ∙ length-marks left 0 len ∙ sym (length-marks right 0 len) ∙ ap length is-other) each
    where
      each : (k : ℕ) → k < length first → slice_get first k ≡ slice_get second k
      each k low = elim (cases_lt k (len - 64)) [
        | inl early ↦
            let here : k < len = omega (arith, early) in
            let whole : 0 + k < 8 * (len / 8) = omega (arith, early, long) in
            ap (λ xs. slice_get xs k) (sym is) ∙ slice_get-marks left 0 len k here
            ∙ ap Some (mark-same (0 + k) whole)
            ∙ sym (ap (λ xs. slice_get xs k) (sym is-other) ∙ slice_get-marks right 0 len k here)
        | inr late ↦
            let counted : k < len = omega (arith, low, ap length is, length-marks left 0 len) in
            let here : len - 64 + (k - (len - 64)) ≡ k = omega (arith, late) in
            subst (λ i. slice_get first i ≡ slice_get second i) here
            (last (k - (len - 64)) (omega (arith, counted, late, long)))
      ]
