-- Lemmas about booleans that are known to be true or false, or not known.
use Rattle.std.proofs.Common.{◌≡◌, ℕ, ◌-◌, ◌^◌, ◌<◌, ◌==◌, ◌&&◌, ◌||◌, Bool, true, false, not, if◌then◌else◌}
use Rattle.std.proofs.Common.{List, [], ◌∷◌, length, map, min, Option, Some, None, is_some, bit_and, bit_or}
use Rattle.std.proofs.Common.{◌+◌, ◌≤◌, ◌/◌, ◌%◌, get_or, inl, inr, replicate, set}
use Rattle.std.proofs.Common.{refl, sym, ap, ap₂, ◌∙◌, arith, subst, true≢false}
use Rattle.std.specs.Int.{bit_at}
use Rattle.std.specs.List.{list_all, zip}
use Rattle.std.specs.Prelude.{IsTrue}
use Rattle.std.proofs.lemmas.Bool.{cases_lt}
use Rattle.std.proofs.lemmas.List.{get_or-set_other, get_or-set_same, length-map}
use Rattle.std.proofs.lemmas.Nat.Bits.{bit_at-zero}
use Rattle.std.proofs.lemmas.Simd.{get_or-replicate}
use Rattle.std.proofs.lemmas.Slice.Zip.{length-zip}
use Rattle.arrow_types.proofs.CallerLemmas.{and-bit, not-bit, or-bit}
use Rattle.arrow_boolean.specs.Fits.{boolean_type}
use Rattle.arrow_memory.specs.Marks.{block_mark}
use Rattle.arrow_memory.specs.Rows.{FitsMask, Row, rows_of, slot}
use Rattle.arrow_column.specs.Column.{Column, IsColumn, column_of_parts, slots_of, stored_values}
use Rattle.compute_comparison.specs.Kleene.{block_slot, kleene_and, kleene_or, known_slots, slot_bit}
use Rattle.compute_base.specs.Slots.{CombinesSlots, pairwise}
use Rattle.compute_base.proofs.CallerLemmas.{count-combined}

-- ---- which results are known, by bits

known_and : (v m w n : Bool) → (((m && n) || (m && not v)) || (n && not w))
    ≡ is_some (kleene_and (slot (v, m)) (slot (w, n)))
known_and true true true true = refl
known_and true true true false = refl
known_and true true false true = refl
known_and true true false false = refl
known_and true false true true = refl
known_and true false true false = refl
known_and true false false true = refl
known_and true false false false = refl
known_and false true true true = refl
known_and false true true false = refl
known_and false true false true = refl
known_and false true false false = refl
known_and false false true true = refl
known_and false false true false = refl
known_and false false false true = refl
known_and false false false false = refl

known_or : (v m w n : Bool) → (((m && n) || (m && v)) || (n && w)) ≡ is_some (kleene_or (slot (v, m)) (slot (w, n)))
known_or true true true true = refl
known_or true true true false = refl
known_or true true false true = refl
known_or true true false false = refl
known_or true false true true = refl
known_or true false true false = refl
known_or true false false true = refl
known_or true false false false = refl
known_or false true true true = refl
known_or false true true false = refl
known_or false true false true = refl
known_or false true false false = refl
known_or false false true true = refl
known_or false false true false = refl
known_or false false false true = refl
known_or false false false false = refl

module _ (v m w n k : ℕ) where
  abbrev bit : ℕ → Bool
  bit word = bit_at word k == 1

  pub known_and_bit : v < 2 ^ 64 → w < 2 ^ 64 → k < 64
      → bit (bit_or (bit_or (bit_and m n) (bit_and m (2 ^ 64 - 1 - v))) (bit_and n (2 ^ 64 - 1 - w)))
      ≡ is_some (kleene_and (slot (bit v, bit m)) (slot (bit w, bit n)))
  known_and_bit left right low =
      or-bit (bit_or (bit_and m n) (bit_and m (2 ^ 64 - 1 - v))) (bit_and n (2 ^ 64 - 1 - w)) k
      ∙ ap₂ ◌||◌ (or-bit (bit_and m n) (bit_and m (2 ^ 64 - 1 - v)) k
      ∙ ap₂ ◌||◌ (and-bit m n k) (and-bit m (2 ^ 64 - 1 - v) k ∙ ap (λ b. bit m && b) (not-bit v k left low)))
      (and-bit n (2 ^ 64 - 1 - w) k ∙ ap (λ b. bit n && b) (not-bit w k right low))
      ∙ known_and (bit v) (bit m) (bit w) (bit n)

  pub known_or_bit : bit (bit_or (bit_or (bit_and m n) (bit_and m v)) (bit_and n w))
      ≡ is_some (kleene_or (slot (bit v, bit m)) (slot (bit w, bit n)))
  known_or_bit =
      or-bit (bit_or (bit_and m n) (bit_and m v)) (bit_and n w) k
      ∙ ap₂ ◌||◌ (or-bit (bit_and m n) (bit_and m v) k ∙ ap₂ ◌||◌ (and-bit m n k) (and-bit m v k)) (and-bit n w k)
      ∙ known_or (bit v) (bit m) (bit w) (bit n)

-- the bits of words that are zero are nulls
pub null-bit : (k : ℕ) → slot_bit 0 0 k ≡ None
null-bit k = ap (λ b. slot (b == 1, b == 1)) (bit_at-zero k)

-- which results are known, by the words of eight whose bits values and marks are, up to a word
abbrev pub KnownLanes : (Option Bool → Option Bool → Option Bool) → List ℕ → List ℕ → List ℕ → List ℕ → List ℕ → ℕ → Type 0
KnownLanes table values marks others other_marks known n = (w j : ℕ) → w < n → j < 64
    → (bit_at (get_or known w 0) j == 1) ≡ is_some (table (slot_bit (get_or values w 0) (get_or marks w 0) j)
    (slot_bit (get_or others w 0) (get_or other_marks w 0) j))

module _ (table : Option Bool → Option Bool → Option Bool) (values marks others other_marks known : List ℕ) where
  pub known-lane : (i word : ℕ) → i < length known → KnownLanes table values marks others other_marks known i
      → ((j : ℕ) → j < 64 → (bit_at word j == 1) ≡ is_some (table (slot_bit (get_or values i 0) (get_or marks i 0) j)
      (slot_bit (get_or others i 0) (get_or other_marks i 0) j)))
      → KnownLanes table values marks others other_marks (set known i word) (i + 1)
  known-lane i word inside had is w j before low = elim (cases_lt w i) [
    | inl below ↦
        ap (λ x. bit_at x j == 1) (get_or-set_other known i w word 0 (λ e. absurd (omega (arith, e))))
        ∙ had w j below low
    | inr above ↦
        let same : w ≡ i = omega arith in
        ap (λ x. bit_at x j == 1) (ap (λ n. get_or (set known i word) n 0) same ∙ get_or-set_same known i word 0 inside)
        ∙ is j low
        ∙ ap (λ n. is_some (table (slot_bit (get_or values n 0) (get_or marks n 0) j)
        (slot_bit (get_or others n 0) (get_or other_marks n 0) j))) (sym same)
  ]

  pub known-lanes : (k n : ℕ) → k < 512 → 8 ≤ n → KnownLanes table values marks others other_marks known n
      → block_mark known k ≡ is_some (table (block_slot values marks k) (block_slot others other_marks k))
  unfolding block_mark
  known-lanes k n low all had = had (k / 64) (k % 64) (omega arith) (omega arith)

-- the bits of words that are zero are nulls
pub null-block : (k : ℕ) → k < 512 → block_slot (replicate 8 0) (replicate 8 0) k ≡ None
unfolding block_mark
null-block k low = ap (λ word. slot (bit_at word (k % 64) == 1, bit_at word (k % 64) == 1))
    (get_or-replicate 8 (k / 64) 0 0 (omega arith)) ∙ null-bit (k % 64)

-- ---- results

pub length-known : (table : Option Bool → Option Bool → Option Bool) (lhs rhs : Column Bool)
    → length (known_slots table (slots_of lhs) (slots_of rhs)) ≡ min (length lhs.rows) (length rhs.rows)
length-known table lhs rhs =
    length-map (zip (slots_of lhs) (slots_of rhs)) (λ (pair : Option Bool × Option Bool). is_some (table pair.0 pair.1))
    ∙ length-zip (slots_of lhs) (slots_of rhs) ∙ ap₂ min (length-map lhs.rows slot) (length-map rhs.rows slot)

and_agrees : (x y : Row Bool) → slot (x.0 && y.0, is_some (kleene_and (slot x) (slot y))) ≡ kleene_and (slot x) (slot y)
and_agrees (true, true) (true, true) = refl
and_agrees (true, true) (true, false) = refl
and_agrees (true, true) (false, true) = refl
and_agrees (true, true) (false, false) = refl
and_agrees (true, false) (true, true) = refl
and_agrees (true, false) (true, false) = refl
and_agrees (true, false) (false, true) = refl
and_agrees (true, false) (false, false) = refl
and_agrees (false, true) (true, true) = refl
and_agrees (false, true) (true, false) = refl
and_agrees (false, true) (false, true) = refl
and_agrees (false, true) (false, false) = refl
and_agrees (false, false) (true, true) = refl
and_agrees (false, false) (true, false) = refl
and_agrees (false, false) (false, true) = refl
and_agrees (false, false) (false, false) = refl

or_agrees : (x y : Row Bool) → slot (x.0 || y.0, is_some (kleene_or (slot x) (slot y))) ≡ kleene_or (slot x) (slot y)
or_agrees (true, true) (true, true) = refl
or_agrees (true, true) (true, false) = refl
or_agrees (true, true) (false, true) = refl
or_agrees (true, true) (false, false) = refl
or_agrees (true, false) (true, true) = refl
or_agrees (true, false) (true, false) = refl
or_agrees (true, false) (false, true) = refl
or_agrees (true, false) (false, false) = refl
or_agrees (false, true) (true, true) = refl
or_agrees (false, true) (true, false) = refl
or_agrees (false, true) (false, true) = refl
or_agrees (false, true) (false, false) = refl
or_agrees (false, false) (true, true) = refl
or_agrees (false, false) (true, false) = refl
or_agrees (false, false) (false, true) = refl
or_agrees (false, false) (false, false) = refl

module _ (op : Bool → Bool → Bool) (table : Option Bool → Option Bool → Option Bool)
    (agrees : (x y : Row Bool) → slot (op x.0 y.0, is_some (table (slot x) (slot y))) ≡ table (slot x) (slot y))
    (valid_agrees : (x y : Bool) → Some (op x y) ≡ table (Some x) (Some y)) where
  abbrev combined : List (Row Bool) → List (Row Bool) → List Bool
  combined xs ys = map (λ pair. op pair.0 pair.1) (zip (map (λ row. row.0) xs) (map (λ row. row.0) ys))

  abbrev shown : List (Row Bool) → List (Row Bool) → List (Option Bool)
  shown xs ys = pairwise table (map slot xs) (map slot ys)

  abbrev known : Bool → List (Row Bool) → List (Row Bool) → Option (List Bool)
  known held xs ys = if held then Some (known_slots table (map slot xs) (map slot ys)) else None

  with_mask : (xs ys : List (Row Bool))
      → map slot (zip (combined xs ys) (known_slots table (map slot xs) (map slot ys))) ≡ shown xs ys
  with_mask [] ys = refl
  with_mask (x ∷ xs) [] = refl
  with_mask (x ∷ xs) (y ∷ ys) = ap₂ (λ s rest. s ∷ rest) (agrees x y) (with_mask xs ys)

  without : (xs ys : List (Row Bool)) → IsTrue (list_all (λ row. row.1) xs) → IsTrue (list_all (λ row. row.1) ys)
      → map slot (rows_of (combined xs ys) None) ≡ shown xs ys
  without [] ys valid sound = refl
  without ((x, true) ∷ xs) [] valid sound = refl
  without ((x, true) ∷ xs) ((y, true) ∷ ys) valid sound = ap₂ (λ s rest. s ∷ rest) (valid_agrees x y)
      (without xs ys valid sound)
  without ((x, true) ∷ xs) ((y, false) ∷ ys) valid sound = absurd (true≢false (sym sound))
  without ((x, false) ∷ xs) ys valid sound = absurd (true≢false (sym valid))

  made_slots : (held holds : Bool) (xs ys : List (Row Bool))
      → (held ≡ false → IsTrue (list_all (λ row. row.1) xs)) → (holds ≡ false → IsTrue (list_all (λ row. row.1) ys))
      → map slot (rows_of (combined xs ys) (known (held || holds) xs ys)) ≡ shown xs ys
  made_slots true holds xs ys valid sound = with_mask xs ys
  made_slots false true xs ys valid sound = with_mask xs ys
  made_slots false false xs ys valid sound = without xs ys (valid refl) (sound refl)

  is_held : (held : Bool) (xs ys : List (Row Bool)) → is_some (known held xs ys) ≡ held
  is_held true xs ys = refl
  is_held false xs ys = refl

  fits : (held : Bool) (xs ys : List (Row Bool)) → FitsMask (combined xs ys) (known held xs ys)
  fits true xs ys =
      let tables = length-map (zip (map slot xs) (map slot ys))
      (λ (pair : Option Bool × Option Bool). is_some (table pair.0 pair.1)) in
      let ops = length-map (zip (map (λ (row : Row Bool). row.0) xs) (map (λ (row : Row Bool). row.0) ys))
      (λ (pair : Bool × Bool). op pair.0 pair.1) in
      omega (
        arith,
        tables,
        ops,
        length-zip (map slot xs) (map slot ys),
        length-zip (map (λ (row : Row Bool). row.0) xs) (map (λ (row : Row Bool). row.0) ys),
        length-map xs slot,
        length-map ys slot,
        length-map xs (λ row. row.0),
        length-map ys (λ row. row.0),
      )
  fits false xs ys = tt

  module _ (lhs rhs : Column Bool) (values : List Bool) (mask : Option (List Bool))
      (is : values ≡ map (λ pair. op pair.0 pair.1) (zip (stored_values lhs) (stored_values rhs)))
      (mask_by : mask ≡ known (lhs.held || rhs.held) lhs.rows rhs.rows) where
    result_fits : FitsMask values mask
    result_fits = subst (λ m. FitsMask values m) (sym mask_by) (subst (λ vs. FitsMask vs (known (lhs.held || rhs.held)
        lhs.rows rhs.rows)) (sym is) (fits (lhs.held || rhs.held) lhs.rows rhs.rows))

    result_combines : IsColumn lhs → IsColumn rhs → (made : Column Bool)
        → made ≡ column_of_parts boolean_type values mask → CombinesSlots boolean_type table lhs rhs made
    result_combines is_left is_right made made_is =
        let is_shown : slots_of made ≡ pairwise table (slots_of lhs) (slots_of rhs) =
        ap (λ column. map slot column.rows) made_is ∙ ap₂ (λ vs m. map slot (rows_of vs m)) is mask_by
        ∙ made_slots lhs.held rhs.held lhs.rows rhs.rows is_left is_right in
        record {
          data_type = ap (λ column. column.data_type) made_is;
          count = count-combined table lhs rhs made is_shown;
          slots = is_shown;
          held = ap (λ column. column.held) made_is ∙ ap is_some mask_by
              ∙ is_held (lhs.held || rhs.held) lhs.rows rhs.rows;
        }

and_valid : (x y : Bool) → Some (x && y) ≡ kleene_and (Some x) (Some y)
and_valid true y = refl
and_valid false y = refl

or_valid : (x y : Bool) → Some (x || y) ≡ kleene_or (Some x) (Some y)
or_valid true y = refl
or_valid false y = refl

module _ (lhs rhs : Column Bool) (values : List Bool) (mask : Option (List Bool)) where
  pub and_fits : values ≡ map (λ pair. pair.0 && pair.1) (zip (stored_values lhs) (stored_values rhs))
      → mask ≡ (if lhs.held || rhs.held then Some (known_slots kleene_and (slots_of lhs) (slots_of rhs)) else None)
      → FitsMask values mask
  and_fits is mask_by = result_fits ◌&&◌ kleene_and and_agrees and_valid lhs rhs values mask is mask_by

  pub or_fits : values ≡ map (λ pair. pair.0 || pair.1) (zip (stored_values lhs) (stored_values rhs))
      → mask ≡ (if lhs.held || rhs.held then Some (known_slots kleene_or (slots_of lhs) (slots_of rhs)) else None)
      → FitsMask values mask
  or_fits is mask_by = result_fits ◌||◌ kleene_or or_agrees or_valid lhs rhs values mask is mask_by

  pub makes_and : values ≡ map (λ pair. pair.0 && pair.1) (zip (stored_values lhs) (stored_values rhs))
      → mask ≡ (if lhs.held || rhs.held then Some (known_slots kleene_and (slots_of lhs) (slots_of rhs)) else None)
      → IsColumn lhs → IsColumn rhs → (made : Column Bool) → made ≡ column_of_parts boolean_type values mask
      → CombinesSlots boolean_type kleene_and lhs rhs made
  makes_and is mask_by = result_combines ◌&&◌ kleene_and and_agrees and_valid lhs rhs values mask is mask_by

  pub makes_or : values ≡ map (λ pair. pair.0 || pair.1) (zip (stored_values lhs) (stored_values rhs))
      → mask ≡ (if lhs.held || rhs.held then Some (known_slots kleene_or (slots_of lhs) (slots_of rhs)) else None)
      → IsColumn lhs → IsColumn rhs → (made : Column Bool) → made ≡ column_of_parts boolean_type values mask
      → CombinesSlots boolean_type kleene_or lhs rhs made
  makes_or is mask_by = result_combines ◌||◌ kleene_or or_agrees or_valid lhs rhs values mask is mask_by
