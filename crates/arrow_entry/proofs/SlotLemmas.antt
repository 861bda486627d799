-- What single slots show, and what becomes of lists of them.
use Rattle.std.proofs.Common.{◌≡◌, ◌<◌, ℕ, ℤ, pos, unsigned_abs, option_map, zero, suc, ◌+◌, ◌≤◌, ◌≤ℤ◌, Bool, true}
use Rattle.std.proofs.Common.{false, List, [], ◌∷◌, ◌++◌, length, map, take, slice_get, slice_index_or, Some, None}
use Rattle.std.proofs.Common.{IsTrue, if◌then◌else◌, refl, sym, ap, ◌∙◌, arith}
use Rattle.std.specs.List.{list_all}
use Rattle.std.proofs.lemmas.List.{length-map, map-append}
use Rattle.std.proofs.lemmas.Option.{slice_get_read, slice_get-map}
use Rattle.arrow_types.proofs.CallerLemmas.{take-next}
use Rattle.arrow_memory.specs.Rows.{Row, slot}
use Rattle.arrow_column.specs.Column.{ColumnWith, IsColumn, all_valid, mask_of, marks_of, slots_of, stored_values}
use Rattle.arrow_memory.specs.Offsets.{KeepsOffsets, numbers_of}
use Rattle.arrow_memory.proofs.CallerLemmas.{value-at, not-negative, length-numbers}
use Rattle.arrow_bytes.specs.Pieces.{Around}
use Rattle.arrow_model.specs.Item.{Stored}
use Rattle.arrow_entry.specs.Entry.{erase_type}
use Rattle.arrow_entry.proofs.Seen.{get-mark, get-stored, length-seen, length-stored}

module _ {S : Type 0} where
  rows-null : (rows : List (Row S)) (i : ℕ) → slice_get (map (λ (r : Row S). r.1) rows) i ≡ Some false
      → slice_get (map slot rows) i ≡ Some None
  rows-null [] i is = grind arith
  rows-null ((x, false) ∷ rows) zero is = refl
  rows-null ((x, true) ∷ rows) zero is = grind arith
  rows-null (r ∷ rows) (suc i) is = rows-null rows i is

  rows-valid : (rows : List (Row S)) (i : ℕ) (y : S) → slice_get (map (λ (r : Row S). r.1) rows) i ≡ Some true
      → slice_get (map (λ (r : Row S). r.0) rows) i ≡ Some y → slice_get (map slot rows) i ≡ Some (Some y)
  rows-valid [] i y is shows = grind arith
  rows-valid ((x, false) ∷ rows) zero y is shows = grind arith
  rows-valid ((x, true) ∷ rows) zero y is shows = ap Some shows
  rows-valid (r ∷ rows) (suc i) y is shows = rows-valid rows i y is shows

  rows-marked : (rows : List (Row S)) (i : ℕ) → IsTrue (list_all (λ (r : Row S). r.1) rows) → i < length rows
      → slice_get (map (λ (r : Row S). r.1) rows) i ≡ Some true
  rows-marked [] i valid within = absurd (omega arith)
  rows-marked ((x, true) ∷ rows) zero valid within = refl
  rows-marked ((x, true) ∷ rows) (suc i) valid within = rows-marked rows i valid (omega arith)
  rows-marked ((x, false) ∷ rows) i valid within = grind arith

module _ {A S : Type 0} where
  -- a slot whose mark is clear, and one whose mark is set
  pub null-slot : (c : ColumnWith A S) (i : ℕ) → slice_get (marks_of c) i ≡ Some false
      → slice_get (slots_of c) i ≡ Some None
  null-slot c i is = rows-null c.rows i is

  pub valid-slot : (c : ColumnWith A S) (i : ℕ) (x : S) → slice_get (marks_of c) i ≡ Some true
      → slice_get (stored_values c) i ≡ Some x → slice_get (slots_of c) i ≡ Some (Some x)
  valid-slot c i x is shows = rows-valid c.rows i x is shows

  valid-mark : (c : ColumnWith A S) (i : ℕ) → IsTrue (all_valid c) → i < length c.rows
      → slice_get (marks_of c) i ≡ Some true
  valid-mark c i valid within = rows-marked c.rows i valid within

module _ {A S T : Type 0} (around : A → Around) (stored : S → Stored T) where
  -- no slot is null where every one is valid, as where no mask is held
  pub seen-valid : (c : ColumnWith A S) (i : ℕ) → IsTrue (all_valid c) → i < length (erase_type around stored c).rows
      → slice_get (marks_of (erase_type around stored c)) i ≡ Some true
  seen-valid c i valid within = get-mark around stored c i true
      (valid-mark c i valid (omega (arith, within, length-seen around stored c)))

  pub seen-unmasked : (c : ColumnWith A S) (i : ℕ) → None ≡ mask_of c → IsColumn c
      → i < length (erase_type around stored c).rows → slice_get (marks_of (erase_type around stored c)) i ≡ Some true
  seen-unmasked c i none column within = seen-valid c i (column (unheld c.held (marks_of c) none)) within
    where
      unheld : (held : Bool) (marks : List Bool) → None ≡ (if held then Some marks else None) → held ≡ false
      unheld false marks is = refl
      unheld true marks is = grind arith

  -- else its mark tells
  is-mask : (held : Bool) (marks given : List Bool) → Some given ≡ (if held then Some marks else None) → given ≡ marks
  is-mask true marks given is = grind arith
  is-mask false marks given is = grind arith

  pub seen-masked : (c : ColumnWith A S) (marks : List Bool) (i : ℕ) (mark : Bool) → Some marks ≡ mask_of c
      → slice_get marks i ≡ Some mark → slice_get (marks_of (erase_type around stored c)) i ≡ Some mark
  seen-masked c marks i mark is shows = get-mark around stored c i mark
      (ap (λ xs. slice_get xs i) (sym (is-mask c.held (marks_of c) marks is)) ∙ shows)

  pub mask-length : (c : ColumnWith A S) (marks : List Bool) → Some marks ≡ mask_of c
      → length marks ≡ length (erase_type around stored c).rows
  mask-length c marks is = ap length (is-mask c.held (marks_of c) marks is) ∙ length-map c.rows _
      ∙ sym (length-seen around stored c)

pub grown-by : {X Y : Type 0} (f : X → Y) (xs : List X) (ys : List Y) (i : ℕ) (x : X) → map f xs ≡ take i ys
    → slice_get ys i ≡ Some (f x) → map f (xs ++ x ∷ []) ≡ take (i + 1) ys
grown-by f xs ys i x before is = map-append f xs (x ∷ []) ∙ ap (λ zs. zs ++ f x ∷ []) before
    ∙ sym (take-next ys i (f x) is)

pub whole : {X : Type 0} (xs : List X) (i : ℕ) → length xs ≤ i → take i xs ≡ xs
whole [] zero past = refl
whole [] (suc i) past = refl
whole (x ∷ xs) zero past = absurd (omega arith)
whole (x ∷ xs) (suc i) past = ap (λ ys. x ∷ ys) (whole xs i (omega arith))

-- the same of the numbers of offsets
pub number-step : {O : Type 0} (number : O → ℤ) (xs : List O) (ns : List ℕ) (x : O) (i n : ℕ) → i < length xs
    → x ≡ slice_index_or xs i x → number x ≡ pos n → ns ≡ take i (numbers_of number xs)
    → ns ++ n ∷ [] ≡ take (i + 1) (numbers_of number xs)
number-step number xs ns x i n within reads is before =
    ap (λ ms. ms ++ n ∷ []) before ∙ sym (take-next (numbers_of number xs) i n (
    slice_get-map unsigned_abs (map number xs) i
    ∙ ap (option_map unsigned_abs) (slice_get-map number xs i
    ∙ ap (option_map number) (slice_get_read xs (length xs) i x refl within reads))
    ∙ ap (λ z. Some (unsigned_abs z)) is))

pub number-sign : {O : Type 0} (number : O → ℤ) (most : ℕ) (xs : List O) (x : O) (i : ℕ) → KeepsOffsets number most xs
    → i < length xs → x ≡ slice_index_or xs i x → pos 0 ≤ℤ number x
number-sign number most xs x i keeps within reads = not-negative (number x) _
    (value-at number xs x i keeps.whole within reads)

pub ruleset number_lists = (number-sign, length-numbers, number-step, whole)

pub ruleset slot_reads = (null-slot, valid-slot)

pub ruleset slot_marks = (seen-valid, seen-unmasked, seen-masked, mask-length)
