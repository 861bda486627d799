-- Lemmas about the set bits of a word, the lowest first.
use Rattle.std.proofs.Common.{◌≡◌, ◌≢◌, ℕ, zero, suc, ◌+◌, ◌-◌, ◌/◌, ◌%◌, ◌^◌, ◌<◌, ◌≤◌, ◌==◌, min, bit_and, w64}
use Rattle.std.proofs.Common.{Bool, true, false, not, cond, count_by, List, [], ◌∷◌, ◌++◌, length, take, slice_get}
use Rattle.std.proofs.Common.{Some, refl, sym, ap, ap₂, ◌∙◌, inl, inr, arith}
use Rattle.std.specs.Int.{bit_at, trailing_zeros}
use Rattle.std.proofs.lemmas.Bool.{cases_eq, cases_lt}
use Rattle.std.specs.Int.Count.{trailing_of_zero}
use Rattle.std.proofs.Math.Nat.{pow-le-pow_right}
use Rattle.std.proofs.lemmas.List.Sums.{sum_by-cons}
use Rattle.std.proofs.lemmas.Nat.{and_le_r}
use Rattle.std.proofs.lemmas.Nat.Bits.{bit_at_above, bit_at_and, bit_at_lowest, bit_at-suc, bit_at-trailing_zeros}
use Rattle.std.proofs.lemmas.Nat.Bits.{bit_at-zero}
use Rattle.arrow_types.proofs.CallerLemmas.{min-zero}
use Rattle.arrow_bytes.specs.Selection.{where_set}
use Rattle.compute_base.specs.Words.{HoldsMarks}
use Rattle.arrow_kernels.specs.Filtering.{AllClear, where-gap}
use Rattle.arrow_kernels.proofs.ChoiceLemmas.{count-le, where-grown}

-- ---- the lowest set bit

min-same : (x : ℕ) → min x x ≡ x
min-same x = omega arith

min-none : (x y : ℕ) → x ≡ 0 → min x y ≡ x
min-none x y e = omega (arith, e)

half-odd : (n : ℕ) → n % 2 ≡ 1 → (n - 1) / 2 ≡ n / 2
half-odd n odd = omega (arith, odd)

half-even : (n : ℕ) → n % 2 ≡ 0 → (n - 1) / 2 ≡ n / 2 - 1
half-even n even = omega (arith, even)

odd-before : (n : ℕ) → n % 2 ≡ 1 → (n - 1) % 2 ≡ 0
odd-before n odd = omega (arith, odd)

-- one less has no more of a number's bits than those above the lowest set one
others-stay : (t n k : ℕ) → ((i : ℕ) → i < t → bit_at n i ≡ 0) → bit_at n t ≡ 1 → k ≢ t
    → min (bit_at n k) (bit_at (n - 1) k) ≡ bit_at n k
others-stay zero n zero none one apart = absurd (apart refl)
others-stay zero n (suc k) none one apart =
    let half = half-odd n (sym (bit_at_lowest n) ∙ one) in
    ap₂ min (bit_at-suc n k) (bit_at-suc (n - 1) k ∙ ap (λ m. bit_at m k) half) ∙ min-same (bit_at (n / 2) k)
    ∙ sym (bit_at-suc n k)
others-stay (suc t) n zero none one apart = min-none (bit_at n 0) (bit_at (n - 1) 0) (none 0 (omega arith))
others-stay (suc t) n (suc k) none one apart =
    let half = half-even n (sym (bit_at_lowest n) ∙ none 0 (omega arith)) in
    ap₂ min (bit_at-suc n k) (bit_at-suc (n - 1) k ∙ ap (λ m. bit_at m k) half)
    ∙ others-stay t (n / 2) k (λ i low. sym (bit_at-suc n i) ∙ none (suc i) (omega arith)) (sym (bit_at-suc n t)
    ∙ one) (λ e. apart (ap suc e))
    ∙ sym (bit_at-suc n k)

lowest-goes : (t n : ℕ) → ((i : ℕ) → i < t → bit_at n i ≡ 0) → bit_at n t ≡ 1 → min (bit_at n t) (bit_at (n - 1) t) ≡ 0
lowest-goes zero n none one = min-zero (bit_at n 0) (bit_at (n - 1) 0) (bit_at_lowest (n - 1)
    ∙ odd-before n (sym (bit_at_lowest n) ∙ one))
lowest-goes (suc t) n none one =
    let half = half-even n (sym (bit_at_lowest n) ∙ none 0 (omega arith)) in
    ap₂ min (bit_at-suc n t) (bit_at-suc (n - 1) t ∙ ap (λ m. bit_at m t) half)
    ∙ lowest-goes t (n / 2) (λ i low. sym (bit_at-suc n i) ∙ none (suc i) (omega arith)) (sym (bit_at-suc n t) ∙ one)

-- no bit below the lowest set one
below-lowest : (n i : ℕ) → n < 2 ^ 64 → i < trailing_zeros w64 n → bit_at n i ≡ 0
below-lowest zero i fits low = bit_at-zero i
below-lowest (suc n) i fits low = (bit_at-trailing_zeros w64 (suc n) (omega arith) fits).2 i low

-- where no bit is set there is no lowest one
pub no-more : (left : ℕ) → left ≡ 0 → trailing_zeros w64 left ≡ 64
no-more left e = ap (trailing_zeros w64) e ∙ trailing_of_zero 64

-- a word of n bits, at most 64, fits in 64
pub few-fit : (n left : ℕ) → n ≤ 64 → left < 2 ^ n → left < 2 ^ 64
few-fit n left few fits = omega (arith, fits, pow-le-pow_right {n = 2} (omega arith) {i = n} {j = 64} few)

pub lowest-within : (n left : ℕ) → n ≤ 64 → left < 2 ^ n → 0 < left → trailing_zeros w64 left < n
lowest-within n left few fits some =
    let lowest = bit_at-trailing_zeros w64 left some (few-fit n left few fits) in
    elim (cases_lt (trailing_zeros w64 left) n) [
      | inl low ↦ low
      | inr up ↦ absurd (omega (arith, lowest.1, bit_at_above left n (trailing_zeros w64 left) fits up))
    ]

-- a word that is left of another by clearing its lowest set bit
pub less-left : (n : ℕ) → 0 < n → bit_and n (n - 1) < n
less-left n some = omega (arith, and_le_r n (n - 1))

-- ---- the rows of a word, the lowest set bit first

-- the place of the lowest set bit of a word of n bits, or n if there is none
abbrev pub lowest : ℕ → ℕ → ℕ
lowest n left = min (trailing_zeros w64 left) n

-- from its lowest set bit on, the bits of what is left of a word are the marks of n rows
abbrev pub AreLeft : List Bool → ℕ → ℕ → ℕ → Type 0
AreLeft rows start n left = (k : ℕ) → k < n → trailing_zeros w64 left ≤ k
    → slice_get rows (start + k) ≡ Some (bit_at left k == 1)

module _ (rows : List Bool) (start n left : ℕ) (few : n ≤ 64) (fits : left < 2 ^ n) where
  whole : left < 2 ^ 64
  whole = few-fit n left few fits

  -- a clear bit is a clear mark
  clear-mark : (k : ℕ) → start ≤ k → slice_get rows (start + (k - start)) ≡ Some (bit_at left (k - start) == 1)
      → bit_at left (k - start) ≡ 0 → slice_get rows k ≡ Some false
  clear-mark k low mark clear =
      ap (slice_get rows) (let e : k ≡ start + (k - start) = omega arith in e) ∙ mark ∙ ap (λ b. Some (b == 1)) clear

  -- up to the lowest set bit the marks are clear, so nothing is left
  module _ (bits : HoldsMarks left rows start n) where
    pub starts-clear : AllClear rows start (start + lowest n left)
    starts-clear k low high =
        let inner : k - start < trailing_zeros w64 left = omega arith in
        let narrow : k - start < n = omega arith in
        clear-mark k low (bits (k - start) narrow) (below-lowest left (k - start) whole inner)

    pub starts-word : {X : Type 0} (xs : List X)
        → where_set (take start rows) (take start xs) ≡ where_set (take (start + lowest n left) rows)
        (take (start + lowest n left) xs)
    starts-word xs = sym (where-gap rows xs start (lowest n left) starts-clear)

  module _ (some : 0 < left) (marked : AreLeft rows start n left) where
    inside : trailing_zeros w64 left < n
    inside = lowest-within n left few fits some

    next-fits : bit_and left (left - 1) < 2 ^ 64
    next-fits = omega (arith, whole, less-left left some)

    -- the lowest set bit is a set mark
    pub lowest-set : slice_get rows (start + trailing_zeros w64 left) ≡ Some true
    lowest-set =
        let found = bit_at-trailing_zeros w64 left some whole in
        marked (trailing_zeros w64 left) inside (omega arith) ∙ ap (λ b. Some (b == 1)) found.1

    stays : (k : ℕ) → k ≢ trailing_zeros w64 left → bit_at (bit_and left (left - 1)) k ≡ bit_at left k
    stays k apart =
        let found = bit_at-trailing_zeros w64 left some whole in
        bit_at_and left (left - 1) k ∙ others-stay (trailing_zeros w64 left) left k found.2 found.1 apart

    goes : bit_at (bit_and left (left - 1)) (trailing_zeros w64 left) ≡ 0
    goes =
        let found = bit_at-trailing_zeros w64 left some whole in
        bit_at_and left (left - 1) (trailing_zeros w64 left)
        ∙ lowest-goes (trailing_zeros w64 left) left found.2 found.1

    -- up to that bit none of the next word is set
    none-up-to : (k : ℕ) → k ≤ trailing_zeros w64 left → bit_at (bit_and left (left - 1)) k ≡ 0
    none-up-to k up = elim (cases_eq k (trailing_zeros w64 left)) [
      | inl e ↦ ap (bit_at (bit_and left (left - 1))) e ∙ goes
      | inr apart ↦ stays k apart ∙ below-lowest left k whole (let low : k < trailing_zeros w64 left = omega arith in
          low)
    ]

    -- the lowest set bit of the next word stands behind it
    pub later : trailing_zeros w64 left < trailing_zeros w64 (bit_and left (left - 1))
    later = elim (cases_eq (bit_and left (left - 1)) 0) [
      | inl e ↦ omega (arith, no-more (bit_and left (left - 1)) e, inside, few)
      | inr ne ↦ elim (cases_lt (trailing_zeros w64 left) (trailing_zeros w64 (bit_and left (left - 1)))) [
        | inl low ↦ low
        | inr up ↦
            let found = bit_at-trailing_zeros w64 (bit_and left (left - 1)) (omega (arith, ne)) next-fits in
            absurd (omega (arith, found.1, none-up-to (trailing_zeros w64 (bit_and left (left - 1))) up))
      ]
    ]

    pub behind : trailing_zeros w64 left + 1 ≤ lowest n (bit_and left (left - 1))
    behind = omega (arith, later, inside)

    pub left-next : AreLeft rows start n (bit_and left (left - 1))
    left-next k low up =
        let after : trailing_zeros w64 left < k = omega (arith, later, up) in
        marked k low (omega (arith, after))
        ∙ ap (λ b. Some (b == 1)) (sym (stays k (λ e. absurd (omega (arith, e, after)))))

    -- the rows between the two are not asked for
    pub gap-next : (k : ℕ) → start + trailing_zeros w64 left + 1 ≤ k
        → k < start + lowest n (bit_and left (left - 1)) → slice_get rows k ≡ Some false
    gap-next k low high =
        let after : trailing_zeros w64 left < k - start = omega arith in
        let inner : k - start < trailing_zeros w64 (bit_and left (left - 1)) = omega arith in
        let narrow : k - start < n = omega arith in
        let clear : bit_at left (k - start) ≡ 0 =
        sym (stays (k - start) (λ e. absurd (omega (arith, e, after))))
        ∙ below-lowest (bit_and left (left - 1)) (k - start) next-fits inner in
        clear-mark k (omega arith) (marked (k - start) narrow (omega (arith, after))) clear

    -- a list of what is asked for that grows by what stands there
    pub word-grown : {X : Type 0} (xs old new : List X) (x : X)
        → slice_get xs (start + trailing_zeros w64 left) ≡ Some x
        → old ≡ where_set (take (start + trailing_zeros w64 left) rows) (take (start + trailing_zeros w64 left) xs)
        → new ≡ old ++ x ∷ []
        → new ≡ where_set (take (start + lowest n (bit_and left (left - 1))) rows)
        (take (start + lowest n (bit_and left (left - 1))) xs)
    word-grown xs old new x read was pushed =
        where-grown rows xs (start + trailing_zeros w64 left) (start + lowest n (bit_and left (left - 1)))
        x old new lowest-set read (omega (arith, behind)) gap-next was pushed

-- ---- room for what is asked for

-- before a row that is asked for there are fewer of those that are than in all
pub where-room : {X : Type 0} (rows : List Bool) (xs : List X) (i : ℕ) (x : X) → slice_get rows i ≡ Some true
    → slice_get xs i ≡ Some x
    → length (where_set (take i rows) (take i xs)) + 1 + count_by not rows ≤ length rows
where-room [] xs i x e f = cc
where-room (m ∷ rows) [] i x e f = cc
where-room (false ∷ rows) (y ∷ xs) zero x e f = cc
where-room (true ∷ rows) (y ∷ xs) zero x e f =
    let same : count_by not (true ∷ rows) ≡ 0 + count_by not rows = sum_by-cons (λ m. cond (not m) 1 0) true rows in
    omega (arith, same, count-le rows)
where-room (true ∷ rows) (y ∷ xs) (suc i) x e f =
    let same : count_by not (true ∷ rows) ≡ 0 + count_by not rows = sum_by-cons (λ m. cond (not m) 1 0) true rows in
    omega (arith, same, where-room rows xs i x e f)
where-room (false ∷ rows) (y ∷ xs) (suc i) x e f =
    let same : count_by not (false ∷ rows) ≡ 1 + count_by not rows = sum_by-cons (λ m. cond (not m) 1 0) false rows in
    omega (arith, same, where-room rows xs i x e f)

-- a list of the selected items before a selected one has room left, if it has room for all that are selected
pub room-left : {X : Type 0} (rows : List Bool) (xs kept : List X) (i len room : ℕ) (x : X)
    → slice_get rows i ≡ Some true → slice_get xs i ≡ Some x
    → kept ≡ where_set (take i rows) (take i xs) → len ≡ length kept → length rows ≤ room + count_by not rows
    → len < room
room-left rows xs kept i len room x e f was long enough = omega (
  arith,
  where-room rows xs i x e f,
  ap length was,
  long,
  enough,
)
