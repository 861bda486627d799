-- Which rows differ from the one before, one row or one column more.
use Rattle.std.proofs.Common.{◌≡◌, ◌∙◌, if◌then◌else◌, None, Some, slice_get, ℕ, ◌+◌, ◌-◌, ◌<◌, ◌≤◌, ◌||◌, Bool, true, false, List, [], ◌∷◌, ◌++◌, ap, ap₂}
use Rattle.std.proofs.Common.{arith, get_or, inl, inr, length, refl, replicate, set, subst, sym, take, unwrap_or}
use Rattle.std.specs.Cmp.{IsTotalOrder}
use Rattle.std.specs.Ordering.{is_ne, ordering_reverse, ordering_then}
use Rattle.std.specs.declared.cmp.Ordering.{Ordering}
use Rattle.std.specs.declared.cmp.Ordering.TheVariants.{Equal, Greater, Less}
use Rattle.std.proofs.lemmas.Bool.{cases_lt}
use Rattle.std.proofs.lemmas.List.{get_or-replicate, get_or-set_other, get_or-set_same, length-replicate, length-set}
use Rattle.std.proofs.lemmas.List.{take_more}
use Rattle.std.proofs.lemmas.Option.{get_or_from_slice_get}
use Rattle.arrow_column.specs.Column.{ColumnWith, slots_of}
use Rattle.compute_sort.specs.Columns.{columns_order, order_at, values_order}
use Rattle.compute_sort.specs.Partition.{AreChanges, NotesChanges}
use Rattle.compute_sort.specs.Sort.{default_options, slot_order}
use Rattle.compute_sort.specs.declared.columns.SortColumn.{SortColumn}
use Rattle.compute_sort.specs.declared.options.SortOptions.{SortOptions}

-- the rows below n have been noted, and the others are as they were
pub record NotesUpTo (order : ℕ → ℕ → Ordering) (n : ℕ) (old new : List Bool) : Type 0 where
  pub count : length new ≡ length old
  pub noted : (i : ℕ) → 0 < i → i < n → get_or new i false ≡ (get_or old i false || is_ne (order (i - 1) i))
  pub kept : (i : ℕ) → n ≤ i → get_or new i false ≡ get_or old i false

module _ (order : ℕ → ℕ → Ordering) (old new : List Bool) where
  pub next-noted : (n : ℕ) (differs : Bool) → n < length old → differs ≡ is_ne (order (n - 1) n)
      → NotesUpTo order n old new → NotesUpTo order (n + 1) old (set new n (get_or new n false || differs))
  next-noted n differs within is so_far =
      let next : Bool = get_or new n false || differs in
      record {
        count = length-set new n next ∙ so_far.count;
        noted = λ i positive below. elim (cases_lt i n) [
          | inl before ↦
              get_or-set_other new n i next false (λ e. absurd (omega (arith, e))) ∙ so_far.noted i positive before
          | inr here ↦
              let same : i ≡ n = omega arith in
              ap (λ j. get_or (set new n next) j false) same
              ∙ get_or-set_same new n next false (omega (arith, so_far.count))
              ∙ ap₂ (λ b d. b || d) (so_far.kept n (omega arith)) is
              ∙ ap (λ j. get_or old j false || is_ne (order (j - 1) j)) (sym same)
        ];
        kept = λ i past.
            get_or-set_other new n i next false (λ e. absurd (omega (arith, e))) ∙ so_far.kept i (omega arith);
      }

  pub all-noted : (n : ℕ) → length old ≤ n → NotesUpTo order n old new → NotesChanges order old new
  all-noted n past so_far = record {
    count = so_far.count;
    each = λ i positive within. so_far.noted i positive (omega arith);
  }

reversed-differs : (o : Ordering) → is_ne (ordering_reverse o) ≡ is_ne o
reversed-differs Less = refl
reversed-differs Equal = refl
reversed-differs Greater = refl

-- valid slots differ as their values do
pub valid-differs : {A X : Type 0} (cmp : X → X → Ordering) → IsTotalOrder cmp → (column : ColumnWith A X)
    (options : SortOptions) (i j : ℕ) (x y : X) → slice_get (slots_of column) i ≡ Some (Some x)
    → slice_get (slots_of column) j ≡ Some (Some y) → is_ne (cmp x y) ≡ is_ne (order_at cmp column options i j)
valid-differs cmp total column options i j x y first second =
    by-direction options.descending
    ∙ sym (ap is_ne (ap₂ (slot_order options cmp) (get_or_from_slice_get (slots_of column) i (Some x) None first)
    (get_or_from_slice_get (slots_of column) j (Some y) None second)))
  where
    by-direction : (descending : Bool) → is_ne (cmp x y) ≡ is_ne (if descending then cmp y x else cmp x y)
    by-direction false = refl
    by-direction true = sym (ap is_ne (total.antisymm y x) ∙ reversed-differs (cmp x y))

then-differs : (a b : Ordering) → is_ne (ordering_then a b) ≡ (is_ne a || is_ne b)
then-differs Less b = refl
then-differs Equal b = refl
then-differs Greater b = refl

either-of_three : (a b c : Bool) → (a || (b || c)) ≡ ((a || b) || c)
either-of_three true b c = refl
either-of_three false b c = refl

or-false : (b : Bool) → (b || false) ≡ (false || b)
or-false true = refl
or-false false = refl

-- rows differ in the columns or in one more
differs-more : (columns : List SortColumn) (column : SortColumn) (i j : ℕ)
    → is_ne (columns_order (columns ++ column ∷ []) i j) ≡ (is_ne (columns_order columns i j)
    || is_ne (values_order column.values (unwrap_or column.options default_options) i j))
differs-more [] column i j =
    let order : Ordering = values_order column.values (unwrap_or column.options default_options) i j in
    then-differs order Equal ∙ or-false (is_ne order)
differs-more (first ∷ columns) column i j =
    let order : Ordering = values_order first.values (unwrap_or first.options default_options) i j in
    let last : Ordering = values_order column.values (unwrap_or column.options default_options) i j in
    then-differs order (columns_order (columns ++ column ∷ []) i j)
    ∙ ap (λ b. is_ne order || b) (differs-more columns column i j)
    ∙ either-of_three (is_ne order) (is_ne (columns_order columns i j)) (is_ne last)
    ∙ ap (λ b. b || is_ne last) (sym (then-differs order (columns_order columns i j)))

pub no-changes : (n : ℕ) → AreChanges (columns_order []) n (replicate n false)
no-changes n = record {
  count = length-replicate n false;
  each = λ i positive within. get_or-replicate n i false false within;
}

pub more-changes : (columns : List SortColumn) (k n : ℕ) (column : SortColumn) (old new : List Bool)
    → k < length columns → column ≡ get_or columns k column → AreChanges (columns_order (take k columns)) n old
    → NotesChanges (values_order column.values (unwrap_or column.options default_options)) old new
    → AreChanges (columns_order (take (k + 1) columns)) n new
more-changes columns k n column old new within is so_far notes =
    let more : take (k + 1) columns ≡ take k columns ++ column ∷ [] =
    take_more columns k column within ∙ ap (λ c. take k columns ++ c ∷ []) (sym is) in
    subst (λ cs. AreChanges (columns_order cs) n new) (sym more) (record {
      count = notes.count ∙ so_far.count;
      each = λ i positive below.
          notes.each i positive (omega (arith, so_far.count))
          ∙ ap (λ b. b || is_ne (values_order column.values (unwrap_or column.options default_options) (i - 1) i))
          (so_far.each i positive below)
          ∙ sym (differs-more (take k columns) column (i - 1) i);
    })
