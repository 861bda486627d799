-- Filters: which rows are kept so far, and the proof that rows that are not selected are passed over.
use Rattle.std.proofs.Common.{◌≡◌, ℕ, zero, suc, ◌+◌, ◌-◌, ◌<◌, ◌≤◌, Bool, true, false, not, if◌then◌else◌, count_by}
use Rattle.std.proofs.Common.{List, [], ◌∷◌, length, take, slice_get, Some, None, refl, sym, ap, ◌∙◌, arith}
use Rattle.std.specs.List.{concat, cons_option}
use Rattle.arrow_bytes.specs.Pieces.{Pieces, bare_items}
use Rattle.arrow_bytes.specs.Selection.{set_before, where_set}

-- each mark from `first` up to `end` is set
abbrev pub AllSet : List Bool → ℕ → ℕ → Type 0
AllSet marks first end = (k : ℕ) → first ≤ k → k < end → slice_get marks k ≡ Some true

-- each mark from `first` up to `end` is clear
abbrev pub AllClear : List Bool → ℕ → ℕ → Type 0
AllClear marks first end = (k : ℕ) → first ≤ k → k < end → slice_get marks k ≡ Some false

-- a run of rows that is not yet appended: the selected rows before `first` are kept, and all rows from `first` up to
-- `end` are selected
pub record IsPending (marks : List Bool) (keeps_before : ℕ → Type 0) (first end : ℕ) : Type 0 where
  pub order : first ≤ end
  pub within : end ≤ length marks
  pub set : AllSet marks first end
  pub so_far : keeps_before first

-- what is kept before a row is kept before a later one, too, if no row between them is selected
abbrev pub PassesOver : {R K : Type 0} → (R → List Bool) → (R → K → ℕ → Type 0) → Type 0
PassesOver {R} {K} selected keeps_before = (rows : R) (kept : K) (i j : ℕ) → i ≤ j → AllClear (selected rows) i j
    → keeps_before rows kept i → keeps_before rows kept j

-- the selected values before value n are kept, and there is room for all that are selected
pub record KeepsValues {T : Type 0} (values : List T) (marks : List Bool) (kept : List T) (room n : ℕ) : Type 0 where
  pub same : length marks ≡ length values
  pub so_far : kept ≡ set_before n marks values
  pub fits : length marks ≤ room + count_by not marks

-- the selected items before item n are kept, and nothing lies around them; all items together end at most at the
-- greatest offset, so those that are selected do, too
pub record KeepsItems (most : ℕ) (items : List (List ℕ)) (marks : List Bool) (kept : Pieces) (n : ℕ) : Type 0 where
  pub same : length marks ≡ length items
  pub so_far : kept ≡ bare_items (set_before n marks items)
  pub fits : length (concat items) ≤ most

-- ---- rows that are not selected

-- one more with a clear mark
where-clear : {X : Type 0} (marks : List Bool) (xs : List X) (i : ℕ) → slice_get marks i ≡ Some false
    → where_set (take (i + 1) marks) (take (i + 1) xs) ≡ where_set (take i marks) (take i xs)
where-clear {X} marks xs i e = let next : i + 1 ≡ suc i = omega arith in
    ap (λ k. where_set (take k marks) (take k xs)) next ∙ more marks xs i e
  where
    more : (marks : List Bool) (xs : List X) (i : ℕ) → slice_get marks i ≡ Some false
        → where_set (take (suc i) marks) (take (suc i) xs) ≡ where_set (take i marks) (take i xs)
    more [] xs i e = cc
    more (m ∷ marks) [] zero e = refl
    more (m ∷ marks) [] (suc i) e = refl
    more (m ∷ marks) (y ∷ xs) zero e =
        let clear : m ≡ false = cc in
        ap (λ b. cons_option (if b then Some y else None) []) clear
    more (true ∷ marks) (y ∷ xs) (suc i) e = ap (λ rest. y ∷ rest) (more marks xs i e)
    more (false ∷ marks) (y ∷ xs) (suc i) e = more marks xs i e

-- clear marks leave nothing
pub where-gap : {X : Type 0} (marks : List Bool) (xs : List X) (i d : ℕ)
    → ((k : ℕ) → i ≤ k → k < i + d → slice_get marks k ≡ Some false)
    → where_set (take (i + d) marks) (take (i + d) xs) ≡ where_set (take i marks) (take i xs)
where-gap marks xs i zero clear = let e : i + zero ≡ i = omega arith in ap (λ k. where_set (take k marks) (take k xs)) e
where-gap marks xs i (suc d) clear =
    let e : i + suc d ≡ (i + d) + 1 = omega arith in
    ap (λ k. where_set (take k marks) (take k xs)) e
    ∙ where-clear marks xs (i + d) (clear (i + d) (omega arith) (omega arith))
    ∙ where-gap marks xs i d (λ k low high. clear k low (omega arith))

-- no item is selected between two places if all marks between them are clear
pub where-gap-up : {X : Type 0} (marks : List Bool) (xs : List X) (i j : ℕ) → i ≤ j
    → ((k : ℕ) → i ≤ k → k < j → slice_get marks k ≡ Some false)
    → where_set (take j marks) (take j xs) ≡ where_set (take i marks) (take i xs)
where-gap-up marks xs i j up clear =
    ap (λ k. where_set (take k marks) (take k xs)) (let e : j ≡ i + (j - i) = omega (arith, up) in e)
    ∙ where-gap marks xs i (j - i) (λ k low high. clear k low (omega arith))

pub values_pass_over : {T : Type 0} (values : List T) (marks : List Bool) (kept : List T) (room i j : ℕ) → i ≤ j
    → AllClear marks i j → KeepsValues values marks kept room i → KeepsValues values marks kept room j
values_pass_over values marks kept room i j up clear before = record {
  same = before.same;
  so_far = before.so_far ∙ sym (where-gap-up marks values i j up clear);
  fits = before.fits;
}

pub items_pass_over : (most : ℕ) (items : List (List ℕ)) (marks : List Bool) (kept : Pieces) (i j : ℕ) → i ≤ j
    → AllClear marks i j → KeepsItems most items marks kept i → KeepsItems most items marks kept j
items_pass_over most items marks kept i j up clear before = record {
  same = before.same;
  so_far = before.so_far ∙ ap bare_items (sym (where-gap-up marks items i j up clear));
  fits = before.fits;
}
