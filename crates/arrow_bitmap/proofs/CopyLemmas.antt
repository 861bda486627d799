-- Lemmas about marks that are copied between packed bytes.
use Rattle.std.proofs.Common.{◌≡◌, ◌≢◌, ℕ, zero, suc, ◌+◌, ◌-◌, ◌*◌, ◌/◌, ◌%◌, ◌^◌, ◌<◌, ◌≤◌, Bool, false}
use Rattle.std.proofs.Common.{if◌then◌else◌, subst, List, [], ◌∷◌, ◌++◌, length, get_or, set, take, drop}
use Rattle.std.proofs.Common.{get_or-take, get_or-drop, length-take, length-drop, ap, ap₂, sym, ◌∙◌, inl, inr}
use Rattle.std.proofs.Common.{◌==◌, bit_and, bit_or, count_by, not, w8, arith, add-zero, zero-add}
use Rattle.std.specs.Int.{bit_at, div_ceil}
use Rattle.std.specs.Int.Count.{ones}
use Rattle.std.proofs.lemmas.List.{same_lists, get_or-append_right, get_or_default}
use Rattle.std.proofs.lemmas.Bool.{cases_eq, cases_lt}
use Rattle.std.proofs.lemmas.Nat.{mod_below, one_shl, pow_pos, shr-shr, shr_split}
use Rattle.std.proofs.lemmas.Nat.Bits.{bit_at_above, bit_at_or, bit_at-zero, bit_at_cat_low, bit_at_cat_high}
use Rattle.std.proofs.lemmas.Nat.Bits.{bit_at-lt, bit_at_not}
use Rattle.arrow_types.proofs.CallerLemmas.{max-zero, zero-max}
use Rattle.arrow_bitmap.specs.Marks.{mark_at, marks}
use Rattle.arrow_bitmap.proofs.MarkLemmas.{mark_at-set_same, mark_at-append, mark_at-set_other, mark-bit_of}
use Rattle.arrow_bitmap.proofs.MarkLemmas.{mark_of_same, length-marks, get_or-marks, same_marks}
use Rattle.arrow_bitmap.proofs.MarkLemmas.{clear_of, clear_of-bit, ones-clear, top_clear, top_clear-kept}

-- ---- bits of a byte that is shifted

-- the low bits of a number
pub low_bit : (w n i : ℕ) → i < w → bit_at (n % 2 ^ w) i ≡ bit_at n i
low_bit w n i low = sym (bit_at_cat_low (n / 2 ^ w) w (n % 2 ^ w) i low) ∙ ap (λ m. bit_at m i) (shr_split n w)

-- a number that is shifted, at a width
pub shifted_below : (w n f i : ℕ) → i < f → i < w → bit_at (n * 2 ^ f % 2 ^ w) i ≡ 0
shifted_below w n f i below low =
    low_bit w (n * 2 ^ f) i low ∙ ap (λ m. bit_at m i) (sym (add-zero (n * 2 ^ f))) ∙ bit_at_cat_low n f 0 i below
    ∙ bit_at-zero i

pub shifted_above : (w n f i : ℕ) → f + i < w → bit_at (n * 2 ^ f % 2 ^ w) (f + i) ≡ bit_at n i
shifted_above w n f i low =
    let back : f + i - f ≡ i = omega arith in
    low_bit w (n * 2 ^ f) (f + i) low ∙ ap (λ m. bit_at m (f + i)) (sym (add-zero (n * 2 ^ f)))
    ∙ bit_at_cat_high n f 0 (f + i) (pow_pos f) (omega arith) ∙ ap (bit_at n) back

-- a byte's low bits and another's above them
module _ (b from above : ℕ) (within : from < 8) where
  pub joined-kept : (k : ℕ) → k < from
      → bit_at (bit_or (bit_and b (255 - 255 * 2 ^ from % 256)) (above * 2 ^ from % 256)) k ≡ bit_at b k
  joined-kept k below = bit_at_or (bit_and b (255 - 255 * 2 ^ from % 256)) (above * 2 ^ from % 256) k
      ∙ max-zero _ _ (shifted_below 8 above from k below (omega arith)) ∙ top_clear-kept b from within k below

  pub joined-put : (k : ℕ) → from + k < 8
      → bit_at (bit_or (bit_and b (255 - 255 * 2 ^ from % 256)) (above * 2 ^ from % 256)) (from + k)
      ≡ bit_at above k
  joined-put k low = bit_at_or (bit_and b (255 - 255 * 2 ^ from % 256)) (above * 2 ^ from % 256) (from + k)
      ∙ zero-max _ _ (top_clear b from within (from + k) (omega arith) low) ∙ shifted_above 8 above from k low

-- ---- marks between two bytes

-- the high byte's bits come behind the low one's
module _ (high shift : ℕ) (within : shift < 8) where
  high_below : (k : ℕ) → k < 8 → shift + k < 8 → bit_at (high * 2 ^ 1 % 256 * 2 ^ (7 - shift) % 256) k ≡ 0
  high_below k inner early = elim (cases_lt k (7 - shift)) [
    | inl low ↦ shifted_below 8 (high * 2 ^ 1 % 256) (7 - shift) k low inner
    | inr past ↦
        let last : k ≡ 7 - shift + 0 = omega arith in
        ap (bit_at (high * 2 ^ 1 % 256 * 2 ^ (7 - shift) % 256)) last
        ∙ shifted_above 8 (high * 2 ^ 1 % 256) (7 - shift) 0 (omega arith)
        ∙ shifted_below 8 high 1 0 (omega arith) (omega arith)
  ]

  high_above : (k : ℕ) → k < 8 → 8 ≤ shift + k → bit_at (high * 2 ^ 1 % 256 * 2 ^ (7 - shift) % 256) k
      ≡ bit_at high (shift + k - 8)
  high_above k inner late =
      let place : k ≡ 7 - shift + (1 + (shift + k - 8)) = omega arith in
      ap (bit_at (high * 2 ^ 1 % 256 * 2 ^ (7 - shift) % 256)) place
      ∙ shifted_above 8 (high * 2 ^ 1 % 256) (7 - shift) (1 + (shift + k - 8)) (omega arith)
      ∙ shifted_above 8 high 1 (shift + k - 8) (omega arith)

pub between-mark : (low high shift : ℕ) → low < 256 → shift < 8 → (k : ℕ) → k < 8
    → (bit_at (bit_or (low / 2 ^ shift) (high * 2 ^ 1 % 256 * 2 ^ (7 - shift) % 256)) k == 1)
    ≡ mark_at (low ∷ high ∷ []) (shift + k)
unfolding mark_at
between-mark low high shift small within k inner =
    ap (λ x. x == 1) (bit_at_or (low / 2 ^ shift) (high * 2 ^ 1 % 256 * 2 ^ (7 - shift) % 256) k
    ∙ elim (cases_lt (shift + k) 8) [
      | inl early ↦
          max-zero _ _ (high_below high shift within k inner early) ∙ ap (λ x. x % 2) (shr-shr low shift k)
          ∙ ap₂ (λ x y. bit_at (get_or (low ∷ high ∷ []) x 0) y) (let first : 0 ≡ (shift + k) / 8 = omega arith in
          first) (let same : shift + k ≡ (shift + k) % 8 = omega arith in same)
      | inr late ↦
          zero-max _ _ (ap (λ x. x % 2) (shr-shr low shift k) ∙ bit_at_above low 8 (shift + k) small late)
          ∙ high_above high shift within k inner late
          ∙ ap₂ (λ x y. bit_at (get_or (low ∷ high ∷ []) x 0) y) (let second : 1 ≡ (shift + k) / 8 = omega arith in
          second) (let rest : shift + k - 8 ≡ (shift + k) % 8 = omega arith in rest)
    ])

-- two bytes that stand side by side have the marks of the bytes that they stand in
two-same : (bytes : List ℕ) (low high k i : ℕ) → low ≡ get_or bytes k 0 → high ≡ get_or bytes (k + 1) 0 → i < 2
    → get_or (low ∷ high ∷ []) i 0 ≡ get_or bytes (k + i) 0
two-same bytes low high k zero e f lt = e ∙ ap (λ j. get_or bytes j 0) (let here : k ≡ k + 0 = omega arith in here)
two-same bytes low high k (suc zero) e f lt = f
two-same bytes low high k (suc (suc i)) e f lt = absurd (omega arith)

pub mark_at-two : (bytes : List ℕ) (low high index shift place : ℕ) → low ≡ get_or bytes index 0
    → high ≡ get_or bytes (index + 1) 0 → 8 * index + shift ≡ place → shift < 8
    → (k : ℕ) → k < 8 → mark_at (low ∷ high ∷ []) (shift + k) ≡ mark_at bytes (place + k)
unfolding mark_at
mark_at-two bytes low high index shift place e f is within k inner = ap (λ x. x == 1)
    (ap (λ b. bit_at b ((shift + k) % 8)) (two-same bytes low high index ((shift + k) / 8) e f (omega arith))
    ∙ ap₂ (λ x y. bit_at (get_or bytes x 0) y) (let here : index + (shift + k) / 8 ≡ (place + k) / 8 =
    omega arith in here) (let here : (shift + k) % 8 ≡ (place + k) % 8 = omega arith in here))

-- ---- the rest of a byte

module _ (bytes : List ℕ) (n w above : ℕ) (within : n < 8 * length bytes) (inner : n % 8 ≢ 0)
    (kept : (k : ℕ) → k < n % 8 → bit_at w k ≡ bit_at (get_or bytes (n / 8) 0) k)
    (put : (k : ℕ) → n % 8 + k < 8 → bit_at w (n % 8 + k) ≡ bit_at above k) where
  room : n / 8 < length bytes
  room = omega arith

  pub joined-below : (i : ℕ) → i < n → mark_at (set bytes (n / 8) w) i ≡ mark_at bytes i
  unfolding mark_at
  joined-below i low = elim (cases_eq (i / 8) (n / 8)) [
    | inl e ↦
        let early : i % 8 < n % 8 = omega arith in
        mark_at-set_same bytes (n / 8) w room i e ∙ ap (λ x. x == 1) (kept (i % 8) early
        ∙ ap (λ k. bit_at (get_or bytes k 0) (i % 8)) (sym e))
    | inr apart ↦ mark_at-set_other bytes (n / 8) w room i apart
  ]

  pub joined-above : (k : ℕ) → n + k < 8 * div_ceil n 8 → mark_at (set bytes (n / 8) w) (n + k) ≡ (bit_at above k == 1)
  joined-above k low =
      let bit : (n + k) % 8 ≡ n % 8 + k = omega arith in
      mark_at-set_same bytes (n / 8) w room (n + k) (omega arith) ∙ ap (λ j. bit_at w j == 1) bit
      ∙ ap (λ x. x == 1) (put k (omega arith))

-- the marks that stay while the bytes behind their last byte are cut off
pub cut-marks : (old cut : List ℕ) (n : ℕ) → ((k : ℕ) → k < div_ceil n 8 → get_or cut k 0 ≡ get_or old k 0)
    → (i : ℕ) → i < n → mark_at cut i ≡ mark_at old i
cut-marks old cut n same i low = mark_of_same cut old i (same (i / 8) (omega arith))

-- ---- clear marks of which there are fewer than eight

one_below : (n : ℕ) → n < 8 → 1 * 2 ^ n % 256 ≡ 2 ^ n
one_below n few = one_shl n 8 few

-- those of a byte are the set bits of its opposite, below a bit
pub clear-few : (bytes : List ℕ) (start n b : ℕ) → n < 8 → b < 256
    → ((k : ℕ) → k < 8 → (bit_at b k == 1) ≡ mark_at bytes (start + k))
    → ones ((255 - b) % (1 * 2 ^ n % 256)) ≡ count_by not (marks bytes start n)
unfolding marks
clear-few bytes start n b few small same =
    ap (λ m. ones ((255 - b) % m)) (one_below n few)
    ∙ sym (ones-clear (mark_at bytes) n start ((255 - b) % 2 ^ n) (mod_below (255 - b) (2 ^ n) (pow_pos n)) (λ i low.
    low_bit n (255 - b) i low ∙ bit_at_not w8 b i small (omega arith)
    ∙ clear_of-bit (bit_at b i) (bit_at-lt b i) ∙ ap clear_of (same i (omega arith))))

-- ---- booleans that are packed

-- the marks of one byte
pub mark_at-one : (w k : ℕ) → k < 8 → mark_at (w ∷ []) k ≡ (bit_at w k == 1)
unfolding mark_at
mark_at-one w k low = ap₂ (λ x y. bit_at (get_or (w ∷ []) x 0) y == 1) (let none : k / 8 ≡ 0 = omega arith in
    none) (let same : k % 8 ≡ k = omega arith in same)

-- one more bit of a byte is written
pub packed_bit : (values : List Bool) (b w n : ℕ) → n < 8
    → ((k : ℕ) → k < n → mark_at (b ∷ []) k ≡ get_or values k false)
    → bit_at w n ≡ (if get_or values n false then 1 else 0)
    → ((k : ℕ) → k < 8 → k ≢ n → bit_at w k ≡ bit_at b k) → (k : ℕ) → k < n + 1
    → mark_at (w ∷ []) k ≡ get_or values k false
packed_bit values b w n low before same others k within = elim (cases_eq k n) [
  | inl e ↦ mark_at-one w k (omega arith) ∙ ap (λ j. bit_at w j == 1) e
      ∙ mark-bit_of (get_or values n false) (bit_at w n) same ∙ ap (λ j. get_or values j false) (sym e)
  | inr apart ↦ mark_at-one w k (omega arith) ∙ ap (λ x. x == 1) (others k (omega arith) apart)
      ∙ sym (mark_at-one b k (omega arith)) ∙ before k (omega arith)
]

pub mark_at-behind : (xs ys : List ℕ) (n i : ℕ) → length xs ≡ n → 8 * n ≤ i
    → mark_at (xs ++ ys) i ≡ mark_at ys (i - 8 * n)
unfolding mark_at
mark_at-behind xs ys n i e past =
    ap (λ b. bit_at b (i % 8) == 1) (get_or-append_right xs ys n (i / 8) 0 e (omega arith))
    ∙ ap₂ (λ x y. bit_at (get_or ys x 0) y == 1) (let here : i / 8 - n ≡ (i - 8 * n) / 8 = omega arith in
    here) (let bit : i % 8 ≡ (i - 8 * n) % 8 = omega arith in bit)

-- a piece of the values is packed behind the others
pub packed_byte : (values : List Bool) (bytes : List ℕ) (w j a c end : ℕ) → length bytes ≡ j → a ≡ 8 * j
    → end ≤ a + c → end ≤ length values → ((k : ℕ) → k < 8 * j → mark_at bytes k ≡ get_or values k false)
    → ((k : ℕ) → k < length (take c (drop a values)) → mark_at (w ∷ []) k ≡ get_or (take c (drop a values)) k false)
    → (k : ℕ) → k < end → mark_at (bytes ++ w ∷ []) k ≡ get_or values k false
packed_byte values bytes w j a c end e f le₁ le₂ before bits k within = elim (cases_lt k (8 * j)) [
  | inl here ↦ mark_at-append bytes (w ∷ []) k (omega arith) ∙ before k here
  | inr past ↦
      let low : k - 8 * j < length (take c (drop a values)) = omega (
        arith,
        length-take c (drop a values),
        length-drop a values,
      ) in
      let place : a + (k - 8 * j) ≡ k = omega arith in
      mark_at-behind bytes (w ∷ []) j k e past ∙ bits (k - 8 * j) low
      ∙ get_or-take c (drop a values) (k - 8 * j) false (omega arith) ∙ get_or-drop a values (k - 8 * j) false
      ∙ ap (λ i. get_or values i false) place
]

-- marks that are the values
pub marks-packed : (values : List Bool) (bytes : List ℕ)
    → ((k : ℕ) → k < length values → mark_at bytes k ≡ get_or values k false)
    → marks bytes 0 (length values) ≡ values
marks-packed values bytes packed = same_lists _ _ (length-marks bytes 0 (length values)) (λ i d within.
    let low : i < length values = subst (λ m. i < m) (length-marks bytes 0 (length values)) within in
    get_or-marks bytes 0 (length values) i d low ∙ ap (mark_at bytes) (zero-add i) ∙ packed i low
    ∙ get_or_default values i false d low)

-- ---- whole bytes of others

pub mark_at-piece : (bytes : List ℕ) (a n i : ℕ) → i < 8 * n → mark_at (take n (drop a bytes)) i ≡ mark_at bytes (8 * a + i)
unfolding mark_at
mark_at-piece bytes a n i low =
    ap (λ b. bit_at b (i % 8) == 1) (get_or-take n (drop a bytes) (i / 8) 0 (omega (arith, low))
    ∙ get_or-drop a bytes (i / 8) 0)
    ∙ ap₂ (λ x y. bit_at (get_or bytes x 0) y == 1) (let here : a + i / 8 ≡ (8 * a + i) / 8 = omega arith in
    here) (let bit : i % 8 ≡ (8 * a + i) % 8 = omega arith in bit)

-- the marks of bytes that are cut out of others, from bit p of the first on
pub marks-piece : (bytes : List ℕ) (start a n p count : ℕ) → 8 * a + p ≡ start → p + count ≤ 8 * n
    → marks (take n (drop a bytes)) p count ≡ marks bytes start count
marks-piece bytes start a n p count at room = same_marks (take n (drop a bytes)) bytes p start count (λ i low.
    let same : 8 * a + (p + i) ≡ start + i = omega (arith, at) in
    mark_at-piece bytes a n (p + i) (omega (arith, low, room)) ∙ ap (mark_at bytes) same)
