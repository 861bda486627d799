-- Lemmas about marks in packed bytes.
use Rattle.std.proofs.Common.{◌≡◌, ◌≢◌, ℕ, Some, IfSome, slice_get, zero, suc, ◌+◌, ◌-◌, ◌*◌, ◌/◌, ◌%◌, ◌^◌, ◌<◌}
use Rattle.std.proofs.Common.{◌≤◌, Bool, true, false, not, cond, List, [], ◌∷◌, ◌++◌, length, get_or, set, take}
use Rattle.std.proofs.Common.{drop, replicate, map, count_by, refl, sym, ap, ap₂, subst, ◌∙◌, inl, inr}
use Rattle.std.proofs.Common.{if◌then◌else◌, ◌==◌, bit_and, bit_or, max, min, nat_eq, w8, w64, arith, zero-add}
use Rattle.std.proofs.Common.{add-zero, length-append, length-take, length-drop, length-set, get_or-take}
use Rattle.std.proofs.Common.{get_or-drop, get_or-set_same, get_or-set_other}
use Rattle.std.specs.Int.{bit_at, bit_not, byte_worth, count_zeros, div_ceil, from_le_bytes, sum_through}
use Rattle.std.specs.Int.Count.{ones, ones_step}
use Rattle.std.specs.List.{range_with_len}
use Rattle.std.specs.Simd.{first_chunks}
use Rattle.std.proofs.Math.Seq.{take-length}
use Rattle.std.proofs.Math.Nat.{pow-suc, suc-mul, mul-le-mul_right}
use Rattle.std.proofs.lemmas.Bool.{cases_eq, cases_lt, ne_eqb}
use Rattle.std.proofs.lemmas.Nat.{one_shl, pow_pos, pow-add}
use Rattle.std.proofs.lemmas.Nat.Bits.{and_pow, bit_at_cat_low, bit_at_cat_high, bit_at_lowest, bit_at-suc}
use Rattle.std.proofs.lemmas.Nat.Bits.{bit_at-lt, bit_at_not, bit_at_or, bit_at_and, bit_at-zero, bit_at-pow_same}
use Rattle.std.proofs.lemmas.Nat.Bits.{bit_at-pow_other, bit_at_clear_same, bit_at_clear_other, bit_at_mask_below}
use Rattle.std.proofs.lemmas.Nat.Bits.{bit_at_mask_inside, ones_shl}
use Rattle.std.proofs.lemmas.List.{same_lists, get_or_append_left, get_or-append_right, length-replicate}
use Rattle.std.proofs.lemmas.List.{get_or-replicate, nil_from_length}
use Rattle.std.proofs.lemmas.Option.{slice_get-get_or}
use Rattle.std.proofs.lemmas.List.FromFn.{length-map-range_with_len, get_or-map-range_with_len, map-range_with_len_more}
use Rattle.std.proofs.lemmas.List.Sums.{sum_by-cons, sum_by-append, sum_by_push, count_by-le-length}
use Rattle.arrow_types.proofs.CallerLemmas.{max-zero, ones-zero}
use Rattle.arrow_bitmap.specs.Marks.{mark_at, marks}
use Rattle.arrow_bitmap.specs.MarkWrites.{FillsMarks}

-- a bit as a mark
pub mark-bit_of : (v : Bool) (b : ℕ) → b ≡ (if v then 1 else 0) → (b == 1) ≡ v
mark-bit_of true b e = ap (λ x. x == 1) e
mark-bit_of false b e = ap (λ x. x == 1) e

-- a mark, read by a mask of one bit
mark_by_mask-bit : (b p : ℕ) → b < 2 → 0 < p → not (b * p == 0) ≡ (b == 1)
mark_by_mask-bit zero p low some = let none : 0 * p ≡ 0 = omega arith in ap (λ x. not (x == 0)) none
mark_by_mask-bit (suc zero) p low some = ap not (ne_eqb (1 * p) 0 (λ e. absurd (omega arith)))
mark_by_mask-bit (suc (suc b)) p low some = absurd (omega arith)

pub mark_by_mask : (n k : ℕ) → k < 8 → not (bit_and n (1 * 2 ^ k % 256) == 0) ≡ (bit_at n k == 1)
mark_by_mask n k within = ap (λ m. not (bit_and n m == 0)) (one_shl k 8 within)
    ∙ ap (λ m. not (m == 0)) (and_pow n k) ∙ mark_by_mask-bit (bit_at n k) (2 ^ k) (bit_at-lt n k) (pow_pos k)

-- ---- a byte that is written

module _ (bytes : List ℕ) (k w : ℕ) (within : k < length bytes) where
  -- the marks of that byte
  pub mark_at-set_same : (j : ℕ) → j / 8 ≡ k → mark_at (set bytes k w) j ≡ (bit_at w (j % 8) == 1)
  unfolding mark_at
  mark_at-set_same j e = ap (λ x. bit_at x (j % 8) == 1) (ap (λ i. get_or (set bytes k w) i 0) e
      ∙ get_or-set_same bytes k w 0 within)

  -- the marks of every other byte
  pub mark_at-set_other : (j : ℕ) → j / 8 ≢ k → mark_at (set bytes k w) j ≡ mark_at bytes j
  unfolding mark_at
  mark_at-set_other j ne = ap (λ x. bit_at x (j % 8) == 1) (get_or-set_other bytes k (j / 8) w 0 ne)

-- one bit of one byte is written
module _ (bytes : List ℕ) (i w : ℕ) (v : Bool) (within : i < 8 * length bytes) (same : bit_at w (i % 8) ≡ (if v
    then 1 else 0))
    (others : (k : ℕ) → k < 8 → k ≢ i % 8 → bit_at w k ≡ bit_at (get_or bytes (i / 8) 0) k) where
  room : i / 8 < length bytes
  room = omega arith

  at_place : (j : ℕ) → j ≡ i → mark_at (set bytes (i / 8) w) j ≡ v
  at_place j e = mark_at-set_same bytes (i / 8) w room j (ap (λ x. x / 8) e)
      ∙ mark-bit_of v _ (ap (λ x. bit_at w (x % 8)) e ∙ same)

  elsewhere : (j : ℕ) → j ≢ i → mark_at (set bytes (i / 8) w) j ≡ mark_at bytes j
  unfolding mark_at
  elsewhere j ne = elim (cases_eq (j / 8) (i / 8)) [
    | inl e ↦
        let apart : j % 8 ≢ i % 8 = omega arith in
        let small : j % 8 < 8 = omega arith in
        mark_at-set_same bytes (i / 8) w room j e ∙ ap (λ x. x == 1) (others (j % 8) small apart
        ∙ ap (λ k. bit_at (get_or bytes k 0) (j % 8)) (sym e))
    | inr apart ↦ mark_at-set_other bytes (i / 8) w room j apart
  ]

  pub fills_by_bit : FillsMarks bytes (set bytes (i / 8) w) i (i + 1) v
  fills_by_bit = record {
    inside = λ j low high. at_place j (omega arith);
    below = λ j low. elsewhere j (omega arith);
    above = λ j low. elsewhere j (omega arith);
  }

-- ---- a byte in which one bit is put

or_zero : (y : ℕ) → max 0 y ≡ y
or_zero y = omega arith

module _ (k : ℕ) (within : k < 8) (b m p : ℕ) (v : Bool) (alone : m ≡ 2 ^ k) (put : p ≡ (if v then m else 0)) where
  mask_is : m ≡ 1 * 2 ^ k % 256
  mask_is = alone ∙ sym (one_shl k 8 within)

  put_bit : (w : Bool) → bit_at (if w then 2 ^ k else 0) k ≡ (if w then 1 else 0)
  put_bit true = bit_at-pow_same k
  put_bit false = bit_at-zero k

  put_bit-other : (w : Bool) (j : ℕ) → j ≢ k → bit_at (if w then 2 ^ k else 0) j ≡ 0
  put_bit-other true j apart = bit_at-pow_other k j apart
  put_bit-other false j apart = bit_at-zero j

  put_is : p ≡ (if v then 2 ^ k else 0)
  put_is = put ∙ ap (λ x. if v then x else 0) alone

  cleared_is : (j : ℕ) → bit_at (bit_and b (255 - m)) j ≡ bit_at (bit_and b (255 - 1 * 2 ^ k % 256)) j
  cleared_is j = ap (λ x. bit_at (bit_and b (255 - x)) j) mask_is

  pub put_same : bit_at (bit_or (bit_and b (255 - m)) p) k ≡ (if v then 1 else 0)
  put_same = bit_at_or (bit_and b (255 - m)) p k
      ∙ ap₂ max (cleared_is k ∙ bit_at_clear_same w8 b k within) (ap (λ x. bit_at x k) put_is ∙ put_bit v)
      ∙ or_zero _

  pub put_other : (j : ℕ) → j < 8 → j ≢ k → bit_at (bit_or (bit_and b (255 - m)) p) j ≡ bit_at b j
  put_other j inner apart = bit_at_or (bit_and b (255 - m)) p j
      ∙ ap₂ max (cleared_is j ∙ bit_at_clear_other w8 b k within j inner apart) (ap (λ x. bit_at x j) put_is
      ∙ put_bit-other v j apart)
      ∙ max-zero _ _ refl

-- ---- a byte whose bits from one on are written

or_high : (x y : ℕ) → x < 2 → y ≡ 1 → max x y ≡ 1
or_high x y low e = omega (arith, low, e)

and_low : (x y : ℕ) → x < 2 → y ≡ 0 → min x (1 - y) ≡ x
and_low x y low e = omega (arith, low, e)

and_high : (x y : ℕ) → y ≡ 1 → min x (1 - y) ≡ 0
and_high x y e = omega (arith, e)

module _ (b from : ℕ) (within : from < 8) where
  top : ℕ
  top = 255 * 2 ^ from % 256

  top_is : top ≡ 2 ^ 8 - 2 ^ from
  unfolding top
  top_is = ones_shl 8 from (omega arith)

  small : top < 2 ^ 8
  small = omega (arith, top_is, pow_pos from)

  low_bit : (k : ℕ) → k < from → bit_at top k ≡ 0
  low_bit k below = ap (λ n. bit_at n k) top_is ∙ bit_at_mask_below from 8 k below

  high_bit : (k : ℕ) → from ≤ k → k < 8 → bit_at top k ≡ 1
  high_bit k past low = ap (λ n. bit_at n k) top_is ∙ bit_at_mask_inside from 8 k past low

  pub top_set-kept : (k : ℕ) → k < from → bit_at (bit_or b (255 * 2 ^ from % 256)) k ≡ bit_at b k
  unfolding top
  top_set-kept k below = bit_at_or b top k ∙ max-zero _ _ (low_bit k below)

  pub top_set : (k : ℕ) → from ≤ k → k < 8 → bit_at (bit_or b (255 * 2 ^ from % 256)) k ≡ 1
  unfolding top
  top_set k past low = bit_at_or b top k ∙ or_high _ _ (bit_at-lt b k) (high_bit k past low)

  pub top_clear-kept : (k : ℕ) → k < from → bit_at (bit_and b (255 - 255 * 2 ^ from % 256)) k ≡ bit_at b k
  unfolding top
  top_clear-kept k below =
      bit_at_and b (bit_not w8 top) k ∙ ap (min (bit_at b k)) (bit_at_not w8 top k small (omega arith))
      ∙ and_low _ _ (bit_at-lt b k) (low_bit k below)

  pub top_clear : (k : ℕ) → from ≤ k → k < 8 → bit_at (bit_and b (255 - 255 * 2 ^ from % 256)) k ≡ 0
  unfolding top
  top_clear k past low = bit_at_and b (bit_not w8 top) k ∙ ap (min (bit_at b k)) (bit_at_not w8 top k small low)
      ∙ and_high _ _ (high_bit k past low)

-- from a place on up to the end of its byte
module _ (bytes : List ℕ) (i w : ℕ) (v : Bool) (within : i < 8 * length bytes) (inner : i % 8 ≢ 0)
    (kept : (k : ℕ) → k < i % 8 → bit_at w k ≡ bit_at (get_or bytes (i / 8) 0) k) (above : (k : ℕ) → i % 8 ≤ k
    → k < 8 → bit_at w k ≡ (if v then 1 else 0)) where
  room_top : i / 8 < length bytes
  room_top = omega arith

  before_top : (j : ℕ) → j < i → mark_at (set bytes (i / 8) w) j ≡ mark_at bytes j
  unfolding mark_at
  before_top j low = elim (cases_eq (j / 8) (i / 8)) [
    | inl e ↦
        let below : j % 8 < i % 8 = omega arith in
        mark_at-set_same bytes (i / 8) w room_top j e ∙ ap (λ x. x == 1) (kept (j % 8) below
        ∙ ap (λ k. bit_at (get_or bytes k 0) (j % 8)) (sym e))
    | inr apart ↦ mark_at-set_other bytes (i / 8) w room_top j apart
  ]

  pub fills_top : FillsMarks bytes (set bytes (i / 8) w) i (8 * div_ceil i 8) v
  fills_top = record {
    inside = λ j low high. mark_at-set_same bytes (i / 8) w room_top j (omega arith)
        ∙ mark-bit_of v _ (above (j % 8) (omega arith) (omega arith));
    below = λ j low. before_top j low;
    above = λ j low. mark_at-set_other bytes (i / 8) w room_top j (omega arith);
  }

-- a byte of equal bits
pub mark_of_byte : (bytes : List ℕ) (i b : ℕ) (v : Bool) → get_or bytes (i / 8) 0 ≡ b
    → ((k : ℕ) → k < 8 → bit_at b k ≡ (if v then 1 else 0)) → mark_at bytes i ≡ v
unfolding mark_at
mark_of_byte bytes i b v e same = ap (λ x. bit_at x (i % 8) == 1) e ∙ mark-bit_of v _ (same (i % 8) (omega arith))

-- bytes that are the same have the same marks
pub mark_of_same : (xs ys : List ℕ) (i : ℕ) → get_or xs (i / 8) 0 ≡ get_or ys (i / 8) 0 → mark_at xs i ≡ mark_at ys i
unfolding mark_at
mark_of_same xs ys i e = ap (λ x. bit_at x (i % 8) == 1) e

-- ---- lists of marks

pub length-marks : (bytes : List ℕ) (p n : ℕ) → length (marks bytes p n) ≡ n
unfolding marks
length-marks bytes p n = length-map-range_with_len (mark_at bytes) p n

pub get_or-marks : (bytes : List ℕ) (p n i : ℕ) (d : Bool) → i < n
    → get_or (marks bytes p n) i d ≡ mark_at bytes (p + i)
unfolding marks
get_or-marks bytes p n i d within = get_or-map-range_with_len (mark_at bytes) p n i (p + i) d within refl

-- marks that agree place by place
pub same_marks : (xs ys : List ℕ) (p q n : ℕ) → ((i : ℕ) → i < n → mark_at xs (p + i) ≡ mark_at ys (q + i))
    → marks xs p n ≡ marks ys q n
same_marks xs ys p q n same = same_lists _ _ (length-marks xs p n ∙ sym (length-marks ys q n)) (λ i d within.
    let low : i < n = subst (λ m. i < m) (length-marks xs p n) within in
    get_or-marks xs p n i d low ∙ same i low ∙ sym (get_or-marks ys q n i d low))

-- marks and the marks behind them
pub marks-add : (bytes : List ℕ) (p n m : ℕ) → marks bytes p (n + m) ≡ marks bytes p n ++ marks bytes (p + n) m
marks-add bytes p n m = same_lists _ _
    (length-marks bytes p (n + m) ∙ sym (length-append (marks bytes p n) (marks bytes (p + n) m)
    ∙ ap₂ ◌+◌ (length-marks bytes p n) (length-marks bytes (p + n) m)))
    (λ i d within.
    let low : i < n + m = subst (λ k. i < k) (length-marks bytes p (n + m)) within in
    get_or-marks bytes p (n + m) i d low ∙ elim (cases_lt i n) [
      | inl here ↦
          let room : i < length (marks bytes p n) = subst (λ k. i < k) (sym (length-marks bytes p n)) here in
          sym (get_or_append_left (marks bytes p n) (marks bytes (p + n) m) d i room ∙ get_or-marks bytes p n i d here)
      | inr past ↦
          let rest : i - n < m = omega arith in
          let place : p + n + (i - n) ≡ p + i = omega arith in
          sym (get_or-append_right (marks bytes p n) (marks bytes (p + n) m) n i d (length-marks bytes p n) past
          ∙ get_or-marks bytes (p + n) m (i - n) d rest ∙ ap (mark_at bytes) place)
    ])

-- a part of the marks
pub marks-cut : (bytes : List ℕ) (p n a m : ℕ) → a + m ≤ n → take m (drop a (marks bytes p n)) ≡ marks bytes (p + a) m
marks-cut bytes p n a m within = same_lists _ _ long (λ i d below.
    let low : i < m = subst (λ k. i < k) (long ∙ length-marks bytes (p + a) m) below in
    let inner : a + i < n = omega arith in
    let place : p + (a + i) ≡ p + a + i = omega arith in
    get_or-take m (drop a (marks bytes p n)) i d low ∙ get_or-drop a (marks bytes p n) i d
    ∙ get_or-marks bytes p n (a + i) d inner
    ∙ ap (mark_at bytes) place ∙ sym (get_or-marks bytes (p + a) m i d low))
  where
    long : length (take m (drop a (marks bytes p n))) ≡ length (marks bytes (p + a) m)
    long = simp (length-take, length-drop, length-marks) (omega arith)

-- a mark that is written
pub marks-set : (xs ys : List ℕ) (n i : ℕ) (v : Bool) → i < n → FillsMarks xs ys i (i + 1) v
    → marks ys 0 n ≡ set (marks xs 0 n) i v
marks-set xs ys n i v within fills = same_lists _ _
    (length-marks ys 0 n ∙ sym (length-set (marks xs 0 n) i v ∙ length-marks xs 0 n))
    (λ j d below.
    let low : j < n = subst (λ k. j < k) (length-marks ys 0 n) below in
    get_or-marks ys 0 n j d low ∙ ap (mark_at ys) (zero-add j) ∙ elim (cases_eq j i) [
      | inl e ↦
          let room : i < length (marks xs 0 n) = subst (λ k. i < k) (sym (length-marks xs 0 n)) within in
          fills.inside j (omega arith) (omega arith) ∙ sym (ap (λ k. get_or (set (marks xs 0 n) i v) k d) e
          ∙ get_or-set_same (marks xs 0 n) i v d room)
      | inr apart ↦
          untouched xs ys i v fills j apart ∙ sym (get_or-set_other (marks xs 0 n) i j v d apart
          ∙ get_or-marks xs 0 n j d low ∙ ap (mark_at xs) (zero-add j))
    ])
  where
    untouched : (xs ys : List ℕ) (i : ℕ) (v : Bool) → FillsMarks xs ys i (i + 1) v → (j : ℕ) → j ≢ i
        → mark_at ys j ≡ mark_at xs j
    untouched xs ys i v fills j apart = elim (cases_lt j i) [
      | inl low ↦ fills.below j low
      | inr high ↦ fills.above j (omega arith)
    ]

-- equal marks that are written behind the last
pub marks-fill : (xs ys : List ℕ) (n m : ℕ) (v : Bool) → FillsMarks xs ys n (n + m) v
    → marks ys 0 (n + m) ≡ marks xs 0 n ++ replicate m v
marks-fill xs ys n m v fills = marks-add ys 0 n m ∙ ap₂ ◌++◌ front back
  where
    front : marks ys 0 n ≡ marks xs 0 n
    front = same_marks ys xs 0 0 n (λ i low. let e = zero-add i in fills.below (0 + i) (omega arith))

    back : marks ys (0 + n) m ≡ replicate m v
    back = same_lists _ _ (length-marks ys (0 + n) m ∙ sym (length-replicate m v)) (λ i d below.
        let low : i < m = subst (λ k. i < k) (length-marks ys (0 + n) m) below in
        get_or-marks ys (0 + n) m i d low ∙ fills.inside (0 + n + i) (omega arith) (omega arith)
        ∙ sym (get_or-replicate m i v d low))

-- bytes behind the last don't change the marks before them
pub mark_at-append : (xs ys : List ℕ) (i : ℕ) → i < 8 * length xs → mark_at (xs ++ ys) i ≡ mark_at xs i
unfolding mark_at
mark_at-append xs ys i within = ap (λ b. bit_at b (i % 8) == 1) (get_or_append_left xs ys 0 (i / 8) (omega arith))

pub marks-append : (xs ys : List ℕ) (p n : ℕ) → p + n ≤ 8 * length xs → marks (xs ++ ys) p n ≡ marks xs p n
marks-append xs ys p n within = same_marks (xs ++ ys) xs p p n (λ i low. mark_at-append xs ys (p + i) (omega arith))

-- ---- clear marks

-- one for a clear mark
abbrev pub clear_of : Bool → ℕ
clear_of true = 0
clear_of false = 1

cond-not : (v : Bool) → cond (not v) 1 0 ≡ clear_of v
cond-not true = refl
cond-not false = refl

-- the clear marks of a range, as they are counted one by one
pub clear_more : (bytes : List ℕ) (p n : ℕ)
    → count_by not (marks bytes p (n + 1)) ≡ count_by not (marks bytes p n) + clear_of (mark_at bytes (p + n))
unfolding marks
clear_more bytes p n = ap (count_by not) (map-range_with_len_more (mark_at bytes) p n (p + n) refl)
    ∙ sum_by_push (λ v. cond (not v) 1 0) (map (mark_at bytes) (range_with_len p n)) (mark_at bytes (p + n))
    ∙ ap (λ k. count_by not (map (mark_at bytes) (range_with_len p n)) + k) (cond-not (mark_at bytes (p + n)))

pub clear_add : (bytes : List ℕ) (p n m : ℕ)
    → count_by not (marks bytes p (n + m)) ≡ count_by not (marks bytes p n) + count_by not (marks bytes (p + n) m)
clear_add bytes p n m = ap (count_by not) (marks-add bytes p n m)
    ∙ sum_by-append (λ v. cond (not v) 1 0) (marks bytes p n) (marks bytes (p + n) m)

-- the clear marks of a range are those of its parts
pub clear_on : (bytes : List ℕ) (a b c : ℕ) → a ≤ b → b ≤ c
    → count_by not (marks bytes a (b - a)) + count_by not (marks bytes b (c - b))
    ≡ count_by not (marks bytes a (c - a))
clear_on bytes a b c le₁ le₂ = sym (ap (λ n. count_by not (marks bytes a n)) parts
    ∙ clear_add bytes a (b - a) (c - b)
    ∙ ap (λ p. count_by not (marks bytes a (b - a)) + count_by not (marks bytes p (c - b))) place)
  where
    parts : c - a ≡ b - a + (c - b)
    parts = omega arith

    place : a + (b - a) ≡ b
    place = omega arith

-- and of three parts
pub clear_three : (bytes : List ℕ) (a b c d : ℕ) → a ≤ b → b ≤ c → c ≤ d
    → count_by not (marks bytes a (b - a)) + count_by not (marks bytes b (c - b)) + count_by not
    (marks bytes c (d - c)) ≡ count_by not (marks bytes a (d - a))
clear_three bytes a b c d le₁ le₂ le₃ =
    ap (λ n. n + count_by not (marks bytes c (d - c))) (clear_on bytes a b c le₁ le₂)
    ∙ clear_on bytes a c d (omega arith) le₃

-- a range with one more mark
pub clear_step : (bytes : List ℕ) (a i : ℕ) (v : Bool) → a ≤ i → v ≡ mark_at bytes i
    → count_by not (marks bytes a (i + 1 - a)) ≡ count_by not (marks bytes a (i - a)) + clear_of v
clear_step bytes a i v le e = ap (λ n. count_by not (marks bytes a n)) next ∙ clear_more bytes a (i - a)
    ∙ ap (λ b. count_by not (marks bytes a (i - a)) + clear_of b) (ap (mark_at bytes) here ∙ sym e)
  where
    next : i + 1 - a ≡ i - a + 1
    next = omega arith

    here : a + (i - a) ≡ i
    here = omega arith

pub clear-le : (bytes : List ℕ) (p n : ℕ) → count_by not (marks bytes p n) ≤ n
clear-le bytes p n = subst (λ k. count_by not (marks bytes p n) ≤ k) (length-marks bytes p n)
    (count_by-le-length not (marks bytes p n))

-- where a number's bits are the opposites of marks, it has as many set bits as there are clear marks
pub ones-clear : (f : ℕ → Bool) (w p m : ℕ) → m < 2 ^ w → ((i : ℕ) → i < w → bit_at m i ≡ clear_of (f (p + i)))
    → count_by not (map f (range_with_len p w)) ≡ ones m
ones-clear f zero p m small bits = sym (ap ones (let none : m ≡ 0 = omega arith in none) ∙ ones-zero)
ones-clear f (suc w) p m small bits =
    sum_by-cons (λ v. cond (not v) 1 0) (f p) (map f (range_with_len (p + 1) w))
    ∙ ap₂ ◌+◌ lowest (ones-clear f w (p + 1) (m / 2) half rest)
    ∙ sym (ones_step m)
  where
    half : m / 2 < 2 ^ w
    half = omega (arith, pow-suc 2 w)

    lowest : cond (not (f p)) 1 0 ≡ m % 2
    lowest = cond-not (f p) ∙ sym (ap (λ k. clear_of (f k)) (add-zero p)) ∙ sym (bits 0 (omega arith)) ∙ bit_at_lowest m

    rest : (i : ℕ) → i < w → bit_at (m / 2) i ≡ clear_of (f (p + 1 + i))
    rest i low = sym (bit_at-suc m i) ∙ bits (suc i) (omega arith)
        ∙ ap (λ k. clear_of (f k)) (let e : p + suc i ≡ p + 1 + i = omega arith in e)

-- a number's set bits and its clear bits are all its bits
pub ones-zeros : (w n : ℕ) → n < 2 ^ w → ones n + ones (2 ^ w - 1 - n) ≡ w
ones-zeros zero n small = ap₂ ◌+◌ (ap ones (let none : n ≡ 0 = omega arith in none)
    ∙ ones-zero) (ap ones (let none : 2 ^ 0 - 1 - n ≡ 0 = omega arith in none) ∙ ones-zero)
ones-zeros (suc w) n small =
    ap₂ ◌+◌ (ones_step n) (ones_step (2 ^ suc w - 1 - n))
    ∙ ap₂ (λ d k. n % 2 + ones (n / 2) + (d + ones k)) lowest above
    ∙ omega (arith, ones-zeros w (n / 2) (omega (arith, pow-suc 2 w)))
  where
    lowest : (2 ^ suc w - 1 - n) % 2 ≡ 1 - n % 2
    lowest = omega (arith, pow-suc 2 w)

    above : (2 ^ suc w - 1 - n) / 2 ≡ 2 ^ w - 1 - n / 2
    above = omega (arith, pow-suc 2 w)

pub clear_of-bit : (x : ℕ) → x < 2 → 1 - x ≡ clear_of (x == 1)
clear_of-bit zero lt = refl
clear_of-bit (suc zero) lt = refl
clear_of-bit (suc (suc x)) lt = absurd (omega arith)

-- a byte's clear marks are its clear bits
pub clear-byte : (bytes : List ℕ) (k : ℕ) → get_or bytes k 0 < 256
    → count_by not (marks bytes (8 * k) 8) ≡ count_zeros w8 (get_or bytes k 0)
unfolding marks mark_at
clear-byte bytes k small = ones-clear (mark_at bytes) 8 (8 * k) (bit_not w8 b) (omega arith) (λ i low.
    bit_at_not w8 b i small low ∙ flip i low)
  where
    b : ℕ
    b = get_or bytes k 0

    flip : (i : ℕ) → i < 8 → 1 - bit_at b i ≡ clear_of (mark_at bytes (8 * k + i))
    flip i low = clear_of-bit (bit_at b i) (bit_at-lt b i)
        ∙ ap₂ (λ x y. clear_of (bit_at (get_or bytes x 0) y == 1)) (let e : k ≡ (8 * k + i) / 8 = omega arith in
        e) (let e : i ≡ (8 * k + i) % 8 = omega arith in e)

-- whole bytes with one more byte
pub clear_step-byte : (bytes : List ℕ) (a i : ℕ) → a ≤ i → get_or bytes i 0 < 256
    → count_by not (marks bytes (8 * a) (8 * (i + 1 - a))) ≡ count_by not (marks bytes (8 * a) (8 * (i - a))) +
    count_zeros w8 (get_or bytes i 0)
clear_step-byte bytes a i le small = ap (λ n. count_by not (marks bytes (8 * a) n)) next
    ∙ clear_add bytes (8 * a) (8 * (i - a)) 8
    ∙ ap (λ p. count_by not (marks bytes (8 * a) (8 * (i - a))) + count_by not (marks bytes p 8)) here
    ∙ ap (λ k. count_by not (marks bytes (8 * a) (8 * (i - a))) + k) (clear-byte bytes i small)
  where
    next : 8 * (i + 1 - a) ≡ 8 * (i - a) + 8
    next = omega arith

    here : 8 * a + 8 * (i - a) ≡ 8 * i
    here = omega arith

-- ---- eight bytes read as a word

-- the number that bytes are, the lowest first
unfoldable pub number : List ℕ → ℕ → ℕ
number bs k = sum_through (λ i. byte_worth i (get_or bs i 0)) k

pub pow-256 : (k : ℕ) → 256 ^ k ≡ 2 ^ (8 * k)
pow-256 zero = refl
pow-256 (suc k) =
    let more : 8 * suc k ≡ 8 * k + 8 = omega arith in
    pow-suc 256 k ∙ ap (λ x. x * 256) (pow-256 k) ∙ sym (pow-add 2 (8 * k) 8) ∙ sym (ap (λ x. 2 ^ x) more)

-- one more byte
number-more : (bs : List ℕ) (k : ℕ) → number bs (suc k) ≡ get_or bs (suc k) 0 * 2 ^ (8 * suc k) + number bs k
unfolding number
number-more bs k = ap (λ x. number bs k + get_or bs (suc k) 0 * x) (pow-256 (suc k))
    ∙ (let e : number bs k + get_or bs (suc k) 0 * 2 ^ (8 * suc k) ≡ get_or bs (suc k) 0 * 2 ^ (8 * suc k) + number
    bs k = omega arith in e)

pub number-lt : (bs : List ℕ) (k : ℕ) → ((i : ℕ) → i ≤ k → get_or bs i 0 < 256) → number bs k < 2 ^ (8 * suc k)
unfolding number
number-lt bs zero small = small 0 (omega arith)
number-lt bs (suc k) small =
    let more : 8 * suc (suc k) ≡ 8 + 8 * suc k = omega arith in
    let size : 2 ^ (8 * suc (suc k)) ≡ 256 * 2 ^ (8 * suc k) = ap (λ x. 2 ^ x) more ∙ pow-add 2 8 (8 * suc k) in
    let low = number-lt bs k (λ i le. small i (omega arith)) in
    let high = mul-le-mul_right (2 ^ (8 * suc k)) (let le : suc (get_or bs (suc k) 0) ≤ 256 =
    omega (arith, small (suc k) (omega arith)) in le) in
    omega (arith, number-more bs k, size, low, high, suc-mul (get_or bs (suc k) 0) (2 ^ (8 * suc k)))

-- its bits are those of the bytes
pub number-bit : (bs : List ℕ) (k : ℕ) → ((i : ℕ) → i ≤ k → get_or bs i 0 < 256) → (i : ℕ) → i < 8 * suc k
    → bit_at (number bs k) i ≡ bit_at (get_or bs (i / 8) 0) (i % 8)
unfolding number
number-bit bs zero small i low = ap₂ (λ x y. bit_at (get_or bs x 0) y) (let e : 0 ≡ i / 8 = omega arith in
    e) (let e : i ≡ i % 8 = omega arith in e)
number-bit bs (suc k) small i low = ap (λ n. bit_at n i) (number-more bs k) ∙ elim (cases_lt i (8 * suc k)) [
  | inl here ↦ bit_at_cat_low (get_or bs (suc k) 0) (8 * suc k) (number bs k) i here
      ∙ number-bit bs k (λ j le. small j (omega arith)) i here
  | inr past ↦
      bit_at_cat_high (get_or bs (suc k) 0) (8 * suc k) (number bs k) i (number-lt bs k (λ j le.
      small j (omega arith))) past
      ∙ ap₂ (λ x y. bit_at (get_or bs x 0) y) (let e : suc k ≡ i / 8 = omega arith in
      e) (let e : i - 8 * suc k ≡ i % 8 = omega arith in e)
]

-- eight bytes have a set bit in the word that they are where no mark is clear
set-word : (bytes eight : List ℕ) (first : ℕ) → ((i : ℕ) → i < 8 → get_or eight i 0 ≡ get_or bytes (first + i) 0)
    → ((i : ℕ) → get_or bytes i 0 < 256)
    → ones (from_le_bytes w64 eight) + count_by not (marks bytes (8 * first) 64) ≡ 64
unfolding marks mark_at number
set-word bytes eight first same small = ap (λ n. ones word + n) clear ∙ ones-zeros 64 word below
  where
    word : ℕ
    word = number eight 7

    little : (i : ℕ) → i ≤ 7 → get_or eight i 0 < 256
    little i le = subst (λ x. x < 256) (sym (same i (omega arith))) (small (first + i))

    below : word < 2 ^ 64
    below = number-lt eight 7 little

    flip : (i : ℕ) → i < 64 → 1 - bit_at word i ≡ clear_of (mark_at bytes (8 * first + i))
    flip i low =
        ap (λ x. 1 - x) (number-bit eight 7 little i low) ∙ ap (λ b. 1 - bit_at b (i % 8)) (same (i / 8) (omega arith))
        ∙ clear_of-bit _ (bit_at-lt _ (i % 8))
        ∙ ap₂ (λ x y. clear_of (bit_at (get_or bytes x 0) y == 1)) (let e : first + i / 8 ≡ (8 * first + i) / 8 =
        omega arith in e) (let e : i % 8 ≡ (8 * first + i) % 8 = omega arith in e)

    clear : count_by not (marks bytes (8 * first) 64) ≡ ones (bit_not w64 word)
    clear = ones-clear (mark_at bytes) 64 (8 * first) (bit_not w64 word) (omega arith) (λ i low.
        bit_at_not w64 word i below low ∙ flip i low)

-- the eight bytes from a place on, one by one
abbrev pub eight_at : List ℕ → ℕ → List ℕ
eight_at bytes k = get_or bytes k 0 ∷ get_or bytes (k + 1) 0 ∷ get_or bytes (k + 2) 0 ∷ get_or bytes (k + 3) 0 ∷
    get_or bytes (k + 4) 0 ∷ get_or bytes (k + 5) 0 ∷ get_or bytes (k + 6) 0 ∷ get_or bytes (k + 7) 0 ∷ []

pub eight-same : (bytes : List ℕ) (k i : ℕ) → i < 8 → get_or (eight_at bytes k) i 0 ≡ get_or bytes (k + i) 0
eight-same bytes k zero low = ap (λ j. get_or bytes j 0) (sym (add-zero k))
eight-same bytes k (suc zero) low = refl
eight-same bytes k (suc (suc zero)) low = refl
eight-same bytes k (suc (suc (suc zero))) low = refl
eight-same bytes k (suc (suc (suc (suc zero)))) low = refl
eight-same bytes k (suc (suc (suc (suc (suc zero))))) low = refl
eight-same bytes k (suc (suc (suc (suc (suc (suc zero)))))) low = refl
eight-same bytes k (suc (suc (suc (suc (suc (suc (suc zero))))))) low = refl
eight-same bytes k (suc (suc (suc (suc (suc (suc (suc (suc i)))))))) low = absurd (omega arith)

-- the bits of one of the words of eight bytes that a range has
chunk-set : (bytes xs : List ℕ) (k first i r : ℕ)
    → ((j : ℕ) → j < 8 * k → get_or xs j 0 ≡ get_or bytes (first + j) 0) → i < k
    → ((j : ℕ) → get_or bytes j 0 < 256)
    → IfSome (slice_get (first_chunks 8 k xs) i) (λ eight. r ≡ ones (from_le_bytes w64 eight))
    → r + count_by not (marks bytes (8 * (first + 8 * i)) 64) ≡ 64
chunk-set bytes xs zero first i r same low small said = absurd (omega arith)
chunk-set bytes xs (suc k) first zero r same low small said =
    ap₂ (λ n p. n + count_by not (marks bytes (8 * p) 64)) said (let e : first + 8 * zero ≡ first = omega arith in e)
    ∙ set-word bytes (take 8 xs) first (λ j l. get_or-take 8 xs j 0 l ∙ same j (omega arith)) small
chunk-set bytes xs (suc k) first (suc i) r same low small said =
    ap (λ p. r + count_by not (marks bytes (8 * p) 64)) (let e : first + 8 * suc i ≡ first + 8 + 8 * i =
    omega arith in e)
    ∙ chunk-set bytes (drop 8 xs) k (first + 8) i r
    (λ j l. get_or-drop 8 xs j 0 ∙ same (8 + j) (omega arith)
    ∙ ap (λ p. get_or bytes p 0) (let e : first + (8 + j) ≡ first + 8 + j = omega arith in e))
    (omega arith) small said

pub range-set : (bytes : List ℕ) (words : List (List ℕ)) (first past i r : ℕ)
    → words ≡ first_chunks 8 (length (take (past - first) (drop first bytes)) / 8)
    (take (past - first) (drop first bytes))
    → length words ≡ length (take (past - first) (drop first bytes)) / 8 → i < length words
    → ((j : ℕ) → get_or bytes j 0 < 256)
    → IfSome (slice_get words i) (λ eight. r ≡ ones (from_le_bytes w64 eight))
    → r + count_by not (marks bytes (8 * (first + 8 * i)) 64) ≡ 64
range-set bytes words first past i r e long low small said =
    let xs = take (past - first) (drop first bytes) in
    chunk-set bytes xs (length xs / 8) first i r
    (λ j l. get_or-take (past - first) (drop first bytes) j 0 (omega (
      arith,
      l,
      length-take (past - first) (drop first bytes),
    )) ∙ get_or-drop first bytes j 0)
    (subst (λ n. i < n) long low) small
    (subst (λ ws. IfSome (slice_get ws i) (λ eight. r ≡ ones (from_le_bytes w64 eight))) e said)

-- whole bytes with eight more
pub clear_step-word : (bytes : List ℕ) (a i : ℕ)
    → count_by not (marks bytes (8 * a) (64 * (i + 1))) ≡ count_by not (marks bytes (8 * a) (64 * i)) + count_by not
    (marks bytes (8 * (a + 8 * i)) 64)
clear_step-word bytes a i = ap (λ n. count_by not (marks bytes (8 * a) n)) next
    ∙ clear_add bytes (8 * a) (64 * i) 64
    ∙ ap (λ p. count_by not (marks bytes (8 * a) (64 * i)) + count_by not (marks bytes p 64)) here
  where
    next : 64 * (i + 1) ≡ 64 * i + 64
    next = omega arith

    here : 8 * a + 64 * i ≡ 8 * (a + 8 * i)
    here = omega arith

pub clear-empty : (bytes : List ℕ) (p n : ℕ) → n ≡ 0 → 0 ≡ count_by not (marks bytes p n)
clear-empty bytes p n e = omega (arith, clear-le bytes p n)

-- clear marks from the first on
pub clear_first : (bytes : List ℕ) (n end : ℕ) → n ≤ end
    → count_by not (marks bytes 0 n) + count_by not (marks bytes n (end - n)) ≡ count_by not (marks bytes 0 end)
clear_first bytes n end le =
    let all : n + (end - n) ≡ end = omega (arith, le) in
    let place : 0 + n ≡ n = omega arith in
    omega (
      arith,
      clear_add bytes 0 n (end - n),
      ap (λ m. count_by not (marks bytes 0 m)) all,
      ap (λ p. count_by not (marks bytes p (end - n))) place,
    )

-- the clear marks of a range are those of its ends and of the whole bytes between them
pub clear_parts : (bytes : List ℕ) (start first past end : ℕ) → start ≤ 8 * first → first ≤ past → 8 * past ≤ end
    → count_by not (marks bytes start (8 * first - start)) + count_by not
    (marks bytes (8 * first) (8 * (past - first))) + count_by not (marks bytes (8 * past) (end - 8 * past))
    ≡ count_by not (marks bytes start (end - start))
clear_parts bytes start first past end le₁ le₂ le₃ =
    let middle : 8 * (past - first) ≡ 8 * past - 8 * first = omega arith in
    let head = clear_on bytes start (8 * first) (8 * past) le₁ (omega arith) in
    let whole = clear_on bytes start (8 * past) end (omega arith) le₃ in
    ap (λ n. count_by not (marks bytes start (8 * first - start)) + count_by not (marks bytes (8 * first) n) +
    count_by not (marks bytes (8 * past) (end - 8 * past))) middle
    ∙ ap (λ n. n + count_by not (marks bytes (8 * past) (end - 8 * past))) head ∙ whole

-- the first whole byte from a place on does not lie before it
pub le-ceil : (x : ℕ) → x ≤ 8 * div_ceil x 8
le-ceil x = omega arith

-- ---- the forms that goals have

pub slice_get-marks : (bytes : List ℕ) (p n i : ℕ) → i < n
    → slice_get (marks bytes p n) i ≡ Some (mark_at bytes (p + i))
slice_get-marks bytes p n i within =
    let room : i < length (marks bytes p n) = subst (λ m. i < m) (sym (length-marks bytes p n)) within in
    slice_get-get_or (marks bytes p n) i false room ∙ ap Some (get_or-marks bytes p n i false within)

pub marks-none : (bytes : List ℕ) (p n : ℕ) → n ≡ 0 → marks bytes p n ≡ []
marks-none bytes p n e = nil_from_length (marks bytes p n) (length-marks bytes p n ∙ e)

-- the first mark of a range, and the others
pub marks-first : (bytes : List ℕ) (i j end : ℕ) → i < end → j ≡ i + 1
    → marks bytes i (end - i) ≡ mark_at bytes i ∷ marks bytes j (end - j)
unfolding marks
marks-first bytes i j end within e = ap (marks bytes i) next
    ∙ ap (λ k. mark_at bytes i ∷ marks bytes k (end - j)) (sym e)
  where
    next : end - i ≡ suc (end - j)
    next = omega arith

-- the last mark, and the others
pub marks-last : (bytes : List ℕ) (p m n : ℕ) → n ≡ m + 1
    → marks bytes p n ≡ marks bytes p m ++ mark_at bytes (p + m) ∷ []
unfolding marks
marks-last bytes p m n e = ap (marks bytes p) e ∙ map-range_with_len_more (mark_at bytes) p m (p + m) refl

-- marks that are passed over
pub marks-drop : (bytes : List ℕ) (p e n : ℕ) → p + n ≤ e
    → drop n (marks bytes p (e - p)) ≡ marks bytes (p + n) (e - (p + n))
marks-drop bytes p e n within =
    let rest = drop n (marks bytes p (e - p)) in
    let long : length rest ≡ e - (p + n) = simp (length-drop, length-marks) (omega arith) in
    sym (subst (λ k. take k rest ≡ rest) long (take-length rest))
    ∙ marks-cut bytes p (e - p) n (e - (p + n)) (omega arith)

pub ruleset mark_steps = (
  length-marks,
  slice_get-marks,
  marks-none,
  marks-first,
  marks-last,
  marks-cut,
  marks-set,
  marks-fill,
  marks-append,
  zero-add,
  add-zero,
)

pub ruleset mark_skips = (length-marks, marks-none, marks-drop)

-- a mark that is read through a slice of the bytes
pub mark_at-read : (xs ys : List ℕ) (i j : ℕ) → xs ≡ ys → i ≡ j → mark_at xs i ≡ mark_at ys j
mark_at-read xs ys i j e f = ap₂ mark_at e f

-- equal marks up to a place, behind marks that another list of bytes has too
pub marks-fill_on : (xs ys zs : List ℕ) (n end : ℕ) (v : Bool) → n ≤ end → marks ys 0 n ≡ marks xs 0 n
    → FillsMarks ys zs n end v → marks zs 0 end ≡ marks xs 0 n ++ replicate (end - n) v
marks-fill_on xs ys zs n end v le kept fills =
    let whole : n + (end - n) ≡ end = omega arith in
    ap (marks zs 0) (sym whole)
    ∙ marks-fill ys zs n (end - n) v (subst (λ e. FillsMarks ys zs n e v) (sym whole) fills)
    ∙ ap (λ front. front ++ replicate (end - n) v) kept
