-- Lemmas about how many values are true.
use Rattle.std.proofs.Common.{◌≡◌, ℕ, zero, suc, ◌+◌, ◌-◌, ◌/◌, ◌%◌, ◌^◌, ◌<◌, ◌≤◌, ◌==◌, ◌&&◌, bit_and, Bool}
use Rattle.std.proofs.Common.{true, false, not, cond, if◌then◌else◌, List, [], ◌∷◌, length, map, take, drop}
use Rattle.std.proofs.Common.{slice_get, Option, Some, None, refl, sym, ap, ap₂, ◌∙◌, arith, count_by, length-append, length-drop}
use Rattle.std.proofs.Common.{subst, zero-add, add-zero}
use Rattle.std.specs.Int.{bit_at}
use Rattle.std.specs.Int.Count.{ones, ones_step}
use Rattle.std.specs.List.{range_with_len}
use Rattle.std.specs.Prelude.{unwrap_or}
use Rattle.std.proofs.Math.Nat.{pow-suc}
use Rattle.std.proofs.Math.Pow.{shr_lt}
use Rattle.std.proofs.lemmas.List.{get_or-drop, same_lists, take-append-drop}
use Rattle.std.proofs.lemmas.List.FromFn.{get_or-map-range_with_len, length-map-range_with_len}
use Rattle.std.proofs.lemmas.List.Sums.{count_by-le-length, sum_by-append, sum_by-cons}
use Rattle.std.proofs.lemmas.Nat.{and_le_l, shr-shr}
use Rattle.std.proofs.lemmas.Nat.Bits.{bit_at_lowest, bit_at-lt, bit_at-suc}
use Rattle.std.proofs.lemmas.Option.{cond_some, get_or_from_slice_get}
use Rattle.arrow_types.proofs.CallerLemmas.{ones-zero, take-next}
use Rattle.arrow_memory.specs.Marks.{bits_of}
use Rattle.arrow_memory.specs.Rows.{Row, slot}
use Rattle.arrow_column.specs.Column.{Column, IsColumn, marks_of, mask_of, slots_of, stored_values}
use Rattle.arrow_column.specs.Combined.{set_in_both}
use Rattle.arrow_column.proofs.CallerLemmas.{both-found, both-word, length-both, slots_valid, valid_by_held}

-- marks are clear or set
pub clear-and-set : (marks : List Bool) → count_by not marks + count_by (λ mark. mark) marks ≡ length marks
clear-and-set [] = refl
clear-and-set (true ∷ marks) = omega (
  arith,
  sum_by-cons (λ m. cond (not m) 1 0) true marks,
  sum_by-cons (λ m. cond m 1 0) true marks,
  clear-and-set marks,
)
clear-and-set (false ∷ marks) = omega (
  arith,
  sum_by-cons (λ m. cond (not m) 1 0) false marks,
  sum_by-cons (λ m. cond m 1 0) false marks,
  clear-and-set marks,
)

-- ---- the set bits of a word

bit-worth : (bit : ℕ) → bit < 2 → cond (bit == 1) 1 0 ≡ bit
bit-worth zero small = refl
bit-worth (suc zero) small = refl
bit-worth (suc (suc bit)) small = absurd (omega arith)

-- where a number's bits are marks, it has as many set bits as there are set marks
ones-set : (f : ℕ → Bool) (w p m : ℕ) → m < 2 ^ w → ((i : ℕ) → i < w → (bit_at m i == 1) ≡ f (p + i))
    → count_by (λ mark. mark) (map f (range_with_len p w)) ≡ ones m
ones-set f zero p m small bits = sym (ap ones (let none : m ≡ 0 = omega arith in none) ∙ ones-zero)
ones-set f (suc w) p m small bits =
    sum_by-cons (λ mark. cond mark 1 0) (f p) (map f (range_with_len (p + 1) w))
    ∙ ap₂ ◌+◌ lowest (ones-set f w (p + 1) (m / 2) half rest)
    ∙ sym (ones_step m)
  where
    half : m / 2 < 2 ^ w
    half = omega (arith, pow-suc 2 w)

    lowest : cond (f p) 1 0 ≡ m % 2
    lowest =
        ap (λ mark. cond mark 1 0) (sym (ap f (add-zero p)) ∙ sym (bits 0 (omega arith)))
        ∙ bit-worth (bit_at m 0) (bit_at-lt m 0)
        ∙ bit_at_lowest m

    rest : (i : ℕ) → i < w → (bit_at (m / 2) i == 1) ≡ f (p + 1 + i)
    rest i low = ap (λ bit. bit == 1) (sym (bit_at-suc m i)) ∙ bits (suc i) (omega arith)
        ∙ ap f (let e : p + suc i ≡ p + 1 + i = omega arith in e)

count-word : (word : ℕ) → word < 2 ^ 64 → count_by (λ mark. mark) (bits_of word 64) ≡ ones word
count-word word small = ones-set (λ k. bit_at word k == 1) 64 0 word small (λ i low. ap (λ k.
    bit_at word k == 1) (sym (zero-add i)))

-- ---- marks that are set in both of two lists

-- 64 more, counted in a word
pub count-both-word : (values marks : List Bool) (n v m : ℕ) → v < 2 ^ 64
    → ((k : ℕ) → k < 64 → slice_get values (n + k) ≡ Some (bit_at v k == 1))
    → ((k : ℕ) → k < 64 → slice_get marks (n + k) ≡ Some (bit_at m k == 1))
    → count_by (λ mark. mark) (take (n + 64) (set_in_both values marks))
    ≡ count_by (λ mark. mark) (take n (set_in_both values marks)) + ones (bit_and v m)
count-both-word values marks n v m small read held =
    let both = set_in_both values marks in
    ap (count_by (λ mark. mark)) (both-word values marks n v m read held)
    ∙ sum_by-append (λ mark. cond mark 1 0) (take n both) (bits_of (bit_and v m) 64)
    ∙ ap (λ k. count_by (λ mark. mark) (take n both) + k)
    (count-word (bit_and v m) (omega (arith, small, and_le_l v m)))

-- one more
pub count-more : (marks : List Bool) (i : ℕ) (mark : Bool) → slice_get marks i ≡ Some mark
    → count_by (λ mark. mark) (take (i + 1) marks) ≡ count_by (λ mark. mark) (take i marks) + cond mark 1 0
count-more marks i mark found =
    ap (count_by (λ mark. mark)) (take-next marks i mark found)
    ∙ sum_by-append (λ mark. cond mark 1 0) (take i marks) (mark ∷ [])
    ∙ ap (λ k. count_by (λ mark. mark) (take i marks) + k) (one mark)
  where
    one : (b : Bool) → count_by (λ mark. mark) (b ∷ []) ≡ cond b 1 0
    one true = refl
    one false = refl

-- the first marks have no more set marks than there are marks
pub count-first : (marks : List Bool) (n : ℕ) → count_by (λ mark. mark) (take n marks) ≤ length marks
count-first marks n =
    omega (
      arith,
      count_by-le-length (λ mark. mark) (take n marks),
      ap length (take-append-drop n marks),
      length-append (take n marks) (drop n marks),
    )

-- those of the last marks, which are the bits of a word from one on
module _ (values marks : List Bool) (place from v m : ℕ) (small : v < 2 ^ 64) (same : length marks ≡ length values)
    (end : place + 64 ≡ length values) (low : place ≤ from) (within : from ≤ length values)
    (read : (k : ℕ) → k < 64 → slice_get values (place + k) ≡ Some (bit_at v k == 1))
    (held : (k : ℕ) → k < 64 → slice_get marks (place + k) ≡ Some (bit_at m k == 1)) where
  bit-from : ℕ → Bool
  bit-from k = bit_at (bit_and v m) (k - place) == 1

  length-last : length (drop from (set_in_both values marks)) ≡ length values - from
  length-last = omega (arith, length-drop from (set_in_both values marks), length-both values marks same)

  last-bits : drop from (set_in_both values marks) ≡ map bit-from (range_with_len from (length values - from))
  unfolding bit-from
  last-bits = same_lists _ _ (length-last ∙ sym (length-map-range_with_len bit-from from (length values
      - from))) (λ i d inner.
      let up : i < length values - from = subst (λ k. i < k) length-last inner in
      let here : place + (from - place + i) ≡ from + i = omega arith in
      let there : from - place + i ≡ from + i - place = omega arith in
      get_or-drop from (set_in_both values marks) i d
      ∙ get_or_from_slice_get (set_in_both values marks) (from + i) (bit_at (bit_and v m) (from - place + i) == 1) d
      (ap (slice_get (set_in_both values marks)) (sym here)
      ∙ both-found values marks place v m read held (from - place + i) (omega (arith, up)))
      ∙ ap (λ k. bit_at (bit_and v m) k == 1) there
      ∙ sym (get_or-map-range_with_len bit-from from (length values - from) i (from + i) d up refl))

  last-fits : bit_and v m / 2 ^ (from - place) < 2 ^ (length values - from)
  last-fits = shr_lt (length values - from) (from - place) (subst (λ k. bit_and v m < 2 ^ k) (let e : 64
      ≡ length values - from + (from - place) = omega arith in e) (omega (arith, small, and_le_l v m)))

  last-bit : (i : ℕ) → i < length values - from
      → (bit_at (bit_and v m / 2 ^ (from - place)) i == 1) ≡ bit-from (from + i)
  unfolding bit-from
  last-bit i up = ap (λ x. x % 2 == 1) (shr-shr (bit_and v m) (from - place) i)
      ∙ ap (λ k. bit_at (bit_and v m) k == 1) (let e : from - place + i ≡ from + i - place = omega arith in e)

  pub count-last : ones (bit_and v m / 2 ^ (from - place))
      ≡ count_by (λ mark. mark) (drop from (set_in_both values marks))
  count-last =
      sym (ap (count_by (λ mark. mark)) last-bits
      ∙ ones-set bit-from (length values - from) from (bit_and v m / 2 ^ (from - place)) last-fits last-bit)

-- those of the first marks and of the others
pub count-parts : (marks : List Bool) (n : ℕ)
    → count_by (λ mark. mark) (take n marks) + count_by (λ mark. mark) (drop n marks) ≡ count_by (λ mark. mark) marks
count-parts marks n = sym (sum_by-append (λ mark. cond mark 1 0) (take n marks) (drop n marks))
    ∙ ap (count_by (λ mark. mark)) (take-append-drop n marks)

-- ---- the slots of a column that are true

-- whether a slot is valid and true
abbrev pub is_true : Option Bool → Bool
is_true shown = unwrap_or shown false

true-slot : (value mark : Bool) → is_true (if mark then Some value else None) ≡ (mark && value)
true-slot value true = refl
true-slot value false = refl

-- those of valid and true slots are those set in both the values and the marks
true-rows : (rows : List (Row Bool))
    → count_by is_true (map slot rows) ≡ count_by (λ mark. mark) (set_in_both (map (λ row. row.0) rows)
    (map (λ row. row.1) rows))
true-rows [] = refl
true-rows (row ∷ rows) =
    sum_by-cons (λ shown. cond (is_true shown) 1 0) (slot row) (map slot rows)
    ∙ ap₂ (λ b n. cond b 1 0 + n) (true-slot row.0 row.1) (true-rows rows)
    ∙ sym (sum_by-cons (λ mark. cond mark 1 0) (row.1 && row.0) (set_in_both (map (λ row. row.0) rows)
    (map (λ row. row.1) rows)))

true-values : (values : List Bool)
    → count_by is_true (map (λ value. Some value) values) ≡ count_by (λ mark. mark) values
true-values [] = refl
true-values (value ∷ values) =
    sum_by-cons (λ shown. cond (is_true shown) 1 0) (Some value) (map (λ value. Some value) values)
    ∙ ap (λ n. cond value 1 0 + n) (true-values values)
    ∙ sym (sum_by-cons (λ mark. cond mark 1 0) value values)

-- where no slot is null
true-valid : (rows : List (Row Bool)) → count_by not (map (λ row. row.1) rows) ≡ 0
    → count_by (λ mark. mark) (map (λ row. row.0) rows) ≡ count_by is_true (map slot rows)
true-valid [] none = refl
true-valid ((value, true) ∷ rows) none =
    sum_by-cons (λ mark. cond mark 1 0) value (map (λ row. row.0) rows)
    ∙ ap (λ n. cond value 1 0 + n) (true-valid rows (omega (
      arith,
      none,
      sum_by-cons (λ mark. cond (not mark) 1 0) true (map (λ row. row.1) rows),
    )))
    ∙ sym (sum_by-cons (λ shown. cond (is_true shown) 1 0) (Some value) (map slot rows))
true-valid ((value, false) ∷ rows) none =
    absurd (omega (arith, none, sum_by-cons (λ mark. cond (not mark) 1 0) false (map (λ row. row.1) rows)))

pub valid-true : (c : Column Bool) → count_by not (marks_of c) ≡ 0
    → count_by (λ mark. mark) (stored_values c) ≡ count_by is_true (slots_of c)
valid-true c none = true-valid c.rows none

-- without a mask
pub bare-true : (c : Column Bool) → IsColumn c → mask_of c ≡ None
    → count_by (λ mark. mark) (stored_values c) ≡ count_by is_true (slots_of c)
bare-true c is_column bare = sym (
    ap (count_by is_true) (slots_valid c.rows (valid_by_held c.held c.rows is_column bare))
    ∙ true-values (stored_values c))

-- with a mask
pub masked-true : (c : Column Bool) (marks : List Bool) → mask_of c ≡ Some marks
    → count_by (λ mark. mark) (set_in_both (stored_values c) marks) ≡ count_by is_true (slots_of c)
masked-true c marks mask =
    ap (λ ms. count_by (λ mark. mark) (set_in_both (stored_values c) ms))
    (sym (cond_some c.held (map (λ (row : Row Bool). row.1) c.rows) marks mask).1)
    ∙ sym (true-rows c.rows)
