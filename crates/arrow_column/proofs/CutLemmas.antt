-- Lemmas about a cut of a column behind the rows of another.
use Rattle.std.proofs.Common.{◌≡◌, ℕ, Bool, List, ◌++◌, length, take, drop, Option, option_map, refl, sym, ap}
use Rattle.std.proofs.Common.{ap₂, ◌∙◌, arith}
use Rattle.arrow_types.specs.Types.{LogicalType}
use Rattle.arrow_types.proofs.CallerLemmas.{length-cut, map-piece}
use Rattle.arrow_memory.specs.Rows.{FitsMask, Row}
use Rattle.arrow_column.specs.Column.{ColumnWith, FitsCut, column_with, cut_with, joined, stored_values}
use Rattle.arrow_column.specs.Masks.{joined_mask}
use Rattle.arrow_column.proofs.RowLemmas.{cut-column, joined-column, length-rows, stored-column}

-- the parts of a column, and of another of which n rows from place a on are cut
module _ {A B S : Type 0} (around : B → List S → ℕ → ℕ → B) (t u : LogicalType) (o : A) (q : B)
    (values others : List S) (mask other : Option (List Bool)) (column : ColumnWith A S) (array : ColumnWith B S)
    (a n : ℕ) (fits : FitsMask values mask) (is : column_with t o values mask ≡ column)
    (fit : FitsMask others other) (are : column_with u q others other ≡ array) where
  stored-cut : stored_values (cut_with around array a n) ≡ take n (drop a others)
  stored-cut = map-piece (λ (row : Row S). row.0) array.rows a n
      ∙ ap (λ all. take n (drop a all)) (stored-column u q others other array fit are)

  -- a test of the parts is one of the columns
  pub same-join : (test : A → List S → List S → Bool)
      → test column.around (stored_values column) (stored_values (cut_with around array a n))
      ≡ test o values (take n (drop a others))
  same-join test =
      ap₂ (λ b xs. test b xs (stored_values (cut_with around array a n))) (ap (λ whole. whole.around) (sym is))
      (stored-column t o values mask column fits is)
      ∙ ap (test o values) stored-cut

  -- the rows of both, by the parts that grew
  pub joined-cut : (p : A) (ws : List S) (ns : Option (List Bool)) (m : ℕ) → FitsCut array a n
      → ws ≡ values ++ take n (drop a others) → m ≡ length values
      → ns ≡ joined_mask mask m (option_map (λ marks. take n (drop a marks)) other) n → p ≡ o
      → column_with t p ws ns ≡ joined column (cut_with around array a n)
  joined-cut p ws ns m inside grown count marks same =
      let long : length array.rows ≡ length others = ap (λ whole. length whole.rows) (sym are)
      ∙ length-rows others other fit in
      joined-column t u o p (around q others a n) values ws (take n (drop a others)) mask ns
      (option_map (λ marks. take n (drop a marks)) other) m n fits grown count
      (sym (length-cut others a n (omega (arith, inside.0, long)) (omega (arith, inside.1, long)))) marks same
      ∙ ap₂ joined is (cut-column around u q (around q others a n) others (take n (drop a others)) other
      (option_map (λ marks. take n (drop a marks)) other) a n fit refl refl refl
      ∙ ap (λ whole. cut_with around whole a n) are)
