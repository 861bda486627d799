-- Lemmas about folds of the values of slots, and about the best value that a fold keeps.
use Rattle.std.proofs.Common.{◌≡◌, ℕ, zero, suc, ◌+◌, ◌*◌, ◌-◌, ◌<◌, ◌≤◌, ◌==◌, Bool, true, false, not}
use Rattle.std.proofs.Common.{List, [], ◌∷◌, length, map, take, drop, get_or, slice_get, Option, Some, None}
use Rattle.std.proofs.Common.{refl, sym, ap, ap₂, subst, ◌∙◌, ◌⊎◌, inl, inr, arith, true≢false, length-drop}
use Rattle.std.specs.Prelude.{All, Contains, IsTrue, count_by, fold, unwrap_or}
use Rattle.std.specs.List.{list_all, zip}
use Rattle.std.specs.Int.{bit_at}
use Rattle.std.proofs.Math.Seq.{take-add}
use Rattle.std.proofs.lemmas.List.{get_or-drop, get_or-map, get_or-take, length-map, take_all}
use Rattle.std.proofs.lemmas.Bool.{cases_lt}
use Rattle.std.proofs.lemmas.List.Elements.{All-cons, All-head, All-nil, All-tail}
use Rattle.std.proofs.lemmas.List.Sums.{fold-append, fold_more}
use Rattle.std.proofs.lemmas.Option.{cond_some, get_or_from_slice_get, same_Some}
use Rattle.std.proofs.lemmas.Slice.Zip.{get_or-zip, length-zip}
use Rattle.std.proofs.lemmas.Nat.Bits.{bit_at-zero}
use Rattle.arrow_memory.specs.Rows.{Row, slot}
use Rattle.arrow_column.specs.Column.{ColumnWith, IsColumn, marks_of, mask_of, stored_values}
use Rattle.arrow_column.proofs.CallerLemmas.{all-valid, valid_by_held}
use Rattle.compute_base.specs.Words.{HoldsMarks}
use Rattle.compute_aggregate.specs.Folds.{slot_values, values_or}
use Rattle.compute_aggregate.proofs.AggregateLemmas.{Best, Chooses, Contains-head, Contains-more, alone, of_both, valid}

-- ---- steps of folds

length-values_or : {S : Type 0} (null : S) (values : List S) (marks : List Bool) → length marks ≡ length values
    → length (values_or null values marks) ≡ length values
length-values_or null values marks same = omega (
  arith,
  same,
  length-map (zip values marks) (λ (row : Row _). unwrap_or (slot row) null),
  length-zip values marks,
)

value_at : {S : Type 0} (null : S) (values : List S) (marks : List Bool) (k : ℕ) (value x d : S) (mark : Bool)
    → length marks ≡ length values → k < length values → value ≡ get_or values k value
    → slice_get marks k ≡ Some mark → x ≡ unwrap_or (slot (value, mark)) null
    → x ≡ get_or (values_or null values marks) k d
value_at null values marks k value x d mark same low is_value is_mark is_x =
    let shown = λ (row : Row _). unwrap_or (slot row) null in
    is_x ∙ ap₂ (λ v m. unwrap_or (slot (v, m)) null) is_value (sym (get_or_from_slice_get marks k mark mark is_mark))
    ∙ ap shown (sym (get_or-zip values marks k (value, mark) low (omega (arith, same, low))))
    ∙ sym (get_or-map shown (zip values marks) k (value, mark) d (omega (arith, same, low, length-zip values marks)))

-- one value more of those from a place on
pub masked_more : {Y S : Type 0} (f : Y → S → Y) (a state : Y) (null : S) (values : List S) (marks : List Bool)
    (place i k : ℕ) (value x : S) (mark : Bool) → length marks ≡ length values → k ≡ place + i → k < length values
    → value ≡ get_or values k value → slice_get marks k ≡ Some mark → x ≡ unwrap_or (slot (value, mark)) null
    → state ≡ fold f a (take i (drop place (values_or null values marks)))
    → f state x ≡ fold f a (take (i + 1) (drop place (values_or null values marks)))
masked_more f a state null values marks place i k value x mark same e low is_value is_mark is_x is_state =
    let all : List _ = values_or null values marks in
    ap₂ f is_state (value_at null values marks k value x x mark same low is_value is_mark is_x
    ∙ ap (λ j. get_or all j x) e ∙ sym (get_or-drop place all i x))
    ∙ sym (fold_more f a (drop place all) i x (omega (arith, e, low, length-drop place all, length-values_or null values marks same)))

-- 64 values more
pub word_more : {Y S : Type 0} (f : Y → S → Y) (a state next : Y) (xs : List S) (i : ℕ)
    → state ≡ fold f a (take (64 * i) xs) → next ≡ fold f state (take 64 (drop (64 * i) xs))
    → next ≡ fold f a (take (64 * (i + 1)) xs)
word_more f a state next xs i is_state is_next =
    let e : 64 * i + 64 ≡ 64 * (i + 1) = omega arith in
    is_next ∙ ap (λ s. fold f s (take 64 (drop (64 * i) xs))) is_state
    ∙ sym (fold-append f a (take (64 * i) xs) (take 64 (drop (64 * i) xs)))
    ∙ ap (fold f a) (sym (take-add (64 * i) 64 xs) ∙ ap (λ n. take n xs) e)

pub folded_all : {Y S : Type 0} (f : Y → S → Y) (a state : Y) (null : S) (values : List S) (marks : List Bool) (k : ℕ)
    → length marks ≡ length values → length values ≤ k → state ≡ fold f a (take k (values_or null values marks))
    → state ≡ fold f a (values_or null values marks)
folded_all f a state null values marks k same past is_state = is_state
    ∙ ap (fold f a) (take_all k (values_or null values marks) (omega (arith, past, length-values_or null values marks same)))

-- ---- the values of the slots of an array

-- if no mark is clear, they are the stored values
unmasked_rows : {S : Type 0} (null : S) (rows : List (Row S)) → IsTrue (list_all (λ row. row.1) rows)
    → map (λ shown. unwrap_or shown null) (map slot rows) ≡ map (λ row. row.0) rows
unmasked_rows null [] all = refl
unmasked_rows null ((x, true) ∷ rows) all = ap (λ rest. x ∷ rest) (unmasked_rows null rows all)
unmasked_rows null ((x, false) ∷ rows) all = absurd (true≢false (sym all))

pub values-no_null : {A S : Type 0} (null : S) (column : ColumnWith A S) → 0 ≡ count_by not (marks_of column)
    → stored_values column ≡ slot_values null column
values-no_null null column none = sym (unmasked_rows null column.rows (all-valid column.rows (sym none)))

pub values-unmasked : {A S : Type 0} (null : S) (column : ColumnWith A S) → IsColumn column → mask_of column ≡ None
    → stored_values column ≡ slot_values null column
values-unmasked null column is_column none =
    sym (unmasked_rows null column.rows (valid_by_held column.held column.rows is_column none))

-- the values of the marks of a held mask
zipped_rows : {S : Type 0} (null : S) (rows : List (Row S))
    → map (λ row. unwrap_or (slot row) null) (zip (map (λ row. row.0) rows) (map (λ row. row.1) rows))
    ≡ map (λ shown. unwrap_or shown null) (map slot rows)
zipped_rows null [] = refl
zipped_rows null (row ∷ rows) = ap (λ rest. unwrap_or (slot row) null ∷ rest) (zipped_rows null rows)

pub values-masked : {A S : Type 0} (null : S) (column : ColumnWith A S) (mask : List Bool) → mask_of column ≡ Some mask
    → values_or null (stored_values column) mask ≡ slot_values null column
values-masked null column mask is_mask =
    ap (values_or null (stored_values column)) (sym (cond_some column.held (marks_of column) mask is_mask).1)
    ∙ zipped_rows null column.rows

-- ---- the best of the values of valid slots

module _ {X : Type 0} (before : X → X → Bool) (choose : X → X → X) (chooses : Chooses before choose) where
  best_of : (first : X) (xs : List X) → Best before (first ∷ xs) (fold choose first xs)
  best_of first [] = alone before choose chooses first
  best_of first (x ∷ xs) = of_both before choose chooses first x xs (fold choose (choose first x) xs)
      (best_of (choose first x) xs)

  -- a value that stands for the nulls
  among_valid : (first : X) (slots : List (Option X)) (best : X)
      → Contains (map (λ shown. unwrap_or shown first) slots) best → Contains (valid slots) best ⊎ (first ≡ best)
  among_valid first [] best (k, low, e) = absurd (omega arith)
  among_valid first (None ∷ slots) best (zero, low, e) = inr e
  among_valid first (None ∷ slots) best (suc k, low, e) = among_valid first slots best (k, omega arith, e)
  among_valid first (Some x ∷ slots) best (zero, low, e) = inl (subst (λ y. Contains (x ∷ valid slots) y) e
      (Contains-head x (valid slots)))
  among_valid first (Some x ∷ slots) best (suc k, low, e) = elim (among_valid first slots best (k, omega arith, e)) [
    | inl among ↦ inl (Contains-more x best (valid slots) among)
    | inr is ↦ inr is
  ]

  all_valid : (P : X → Type 0) (first : X) (slots : List (Option X)) → All P (map (λ shown. unwrap_or shown first) slots)
      → All P (valid slots)
  all_valid P first [] all = All-nil P
  all_valid P first (None ∷ slots) all = all_valid P first slots
      (All-tail P first (map (λ shown. unwrap_or shown first) slots) all)
  all_valid P first (Some x ∷ slots) all = All-cons P x (valid slots)
      (All-head P x (map (λ shown. unwrap_or shown first) slots) all)
      (all_valid P first slots (All-tail P x (map (λ shown. unwrap_or shown first) slots) all))

  pub best_valid : (first : X) (slots : List (Option X)) (best : X) → Contains (valid slots) first
      → best ≡ fold choose first (map (λ shown. unwrap_or shown first) slots) → Best before (valid slots) best
  best_valid first slots best among is = subst (Best before (valid slots)) (sym is) (record {
    member = member found.member;
    bound = all_valid (λ x. IsTrue (before folded x)) first slots
        (All-tail (λ x. IsTrue (before folded x)) first (map (λ shown. unwrap_or shown first) slots) found.bound);
  })
    where
      folded : X
      folded = fold choose first (map (λ shown. unwrap_or shown first) slots)

      found : Best before (first ∷ map (λ shown. unwrap_or shown first) slots) folded
      found = best_of first (map (λ shown. unwrap_or shown first) slots)

      member : Contains (first ∷ map (λ shown. unwrap_or shown first) slots) folded → Contains (valid slots) folded
      member (zero, low, e) = subst (Contains (valid slots)) e among
      member (suc k, low, e) = elim (among_valid first slots folded (k, omega arith, e)) [
        | inl here ↦ here
        | inr same ↦ subst (Contains (valid slots)) same among
      ]

-- ---- the first valid slot

-- a valid slot's value is among those of the valid slots
pub valid_at : {X : Type 0} (slots : List (Option X)) (i : ℕ) (x : X) → slice_get slots i ≡ Some (Some x)
    → Contains (valid slots) x
valid_at [] i x at = cc
valid_at (None ∷ slots) zero x at = cc
valid_at (Some y ∷ slots) zero x at =
    let e : y ≡ x = cc in
    subst (λ z. Contains (y ∷ valid slots) z) e (Contains-head y (valid slots))
valid_at (None ∷ slots) (suc i) x at = valid_at slots i x at
valid_at (Some y ∷ slots) (suc i) x at = Contains-more y x (valid slots) (valid_at slots i x at)

-- no slot is valid if every mark is clear
pub none_valid : {X : Type 0} (rows : List (Row X))
    → ((k : ℕ) → k < length rows → slice_get (map (λ (row : Row X). row.1) rows) k ≡ Some false) → valid (map slot rows) ≡ []
none_valid [] clear = refl
none_valid ((x, true) ∷ rows) clear =
    let e : Some true ≡ Some false = clear zero (omega arith) in
    absurd (true≢false (same_Some true false e))
none_valid ((x, false) ∷ rows) clear = none_valid rows (λ k low. clear (suc k) (omega (arith, low)))

-- the marks of a word that is zero are clear
pub clear_bit : (k : ℕ) → (bit_at 0 k == 1) ≡ false
clear_bit k = ap (λ bit. bit == 1) (bit_at-zero k)

-- an element of a part of a list
pub part_at : {S : Type 0} (values : List S) (place n i : ℕ) (value : S) → i < n
    → value ≡ get_or (take n (drop place values)) i value → value ≡ get_or values (place + i) value
part_at values place n i value low is =
    is ∙ get_or-take n (drop place values) i value low ∙ get_or-drop place values i value

-- a mark of a held mask is that of the slot
pub masked_mark : {A S : Type 0} (column : ColumnWith A S) (mask : List Bool) (k : ℕ) (mark : Bool)
    → mask_of column ≡ Some mask → slice_get mask k ≡ Some mark → slice_get (marks_of column) k ≡ Some mark
masked_mark column mask k mark is_mask at =
    ap (λ marks. slice_get marks k) (cond_some column.held (marks_of column) mask is_mask).1 ∙ at

-- 64 clear marks more
pub clear_more : (mask : List Bool) (word i : ℕ) → word ≡ 0 → ((k : ℕ) → k < 64 * i → slice_get mask k ≡ Some false)
    → HoldsMarks word mask (64 * i) 64
    → (k : ℕ) → k < 64 * (i + 1) → slice_get mask k ≡ Some false
clear_more mask word i none before bits k low = elim (cases_lt k (64 * i)) [
  | inl below ↦ before k below
  | inr above ↦ ap (slice_get mask) (split above) ∙ bits (k - 64 * i) (omega (arith, above, low))
      ∙ ap (λ w. Some (bit_at w (k - 64 * i) == 1)) none ∙ ap Some (clear_bit (k - 64 * i))
]
  where
    split : 64 * i ≤ k → k ≡ 64 * i + (k - 64 * i)
    split above = omega (arith, above)
