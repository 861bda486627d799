-- How growths that may overflow end.
use Rattle.std.specs.Prelude.{◌≡◌, ℕ, ◌+◌, ◌≤◌, Bool, false, List, ◌++◌, length, take, drop, Result, OnOk, IfOk}
use Rattle.arrow_types.specs.declared.error.Error.{Error}
use Rattle.arrow_types.specs.Failures.{FailureKeeps}
use Rattle.arrow_column.specs.Column.{ColumnWith, column_overflows, joined, refused_growth, stored_values}

-- a growth that succeeds did not overflow, and this is what it made of the value
abbrev pub Grows : {A V : Type 0} → Result A Error → Bool → V → V → Type 0
Grows result overflows new grown = OnOk result ((overflows ≡ false) × (new ≡ grown))

-- a growth fails if it overflows, or else only if an allocation fails, and the value is then as it was
abbrev pub GrowthKeeps : {A V : Type 0} → Result A Error → Bool → V → V → Type 0
GrowthKeeps result overflows old new = FailureKeeps result (refused_growth overflows) old new

-- a column that grows by the rows of another did not overflow
abbrev pub JoinGrows : {R A B S : Type 0} → Result R Error → (A → List S → List S → Bool) → ColumnWith A S
    → ColumnWith B S → ColumnWith A S → Type 0
JoinGrows result overflows old added new =
    Grows result (column_overflows overflows old (stored_values added)) new (joined old added)

-- a growth by the rows of another column fails if the column overflows, or else only if an allocation fails, and the
-- column is then as it was
abbrev pub JoinKeeps : {R A B S : Type 0} → Result R Error → (A → List S → List S → Bool) → ColumnWith A S
    → ColumnWith B S → ColumnWith A S → Type 0
JoinKeeps result overflows old added new =
    GrowthKeeps result (column_overflows overflows old (stored_values added)) old new

-- stored values that grow, by a test of what lies around them, of these and of what is appended
module _ {V A S X : Type 0} (stored : V → List S) (around : V → A) (overflows : A → List S → X → Bool) where
  -- a growth that succeeds did not overflow, and appended these values
  abbrev pub StoredGrow : {R : Type 0} → Result R Error → V → V → X → List S → Type 0
  StoredGrow result old new more added =
      Grows result (overflows (around old) (stored old) more) (stored new) (stored old ++ added)

  -- a growth that succeeds did not overflow, appended these values, and returns their number
  abbrev pub StoredGrowBy : Result ℕ Error → V → V → X → List S → Type 0
  StoredGrowBy result old new more added =
      IfOk result (λ count. (overflows (around old) (stored old) more ≡ false) × (count ≡ length added)
      × (stored new ≡ stored old ++ added))

  -- a growth fails if the values overflow, or else only if an allocation fails, and they are then as they were
  abbrev pub StoredKept : {R : Type 0} → Result R Error → V → V → X → Type 0
  StoredKept result old new more =
      GrowthKeeps result (overflows (around old) (stored old) more) (stored old) (stored new)

-- stored values that grow by others
module _ {V A S : Type 0} (stored : V → List S) (around : V → A) (overflows : A → List S → List S → Bool) where
  -- a growth that succeeds did not overflow, and appended the other values
  abbrev pub StoredJoin : {R : Type 0} → Result R Error → V → V → List S → Type 0
  StoredJoin result old new added = StoredGrow stored around overflows result old new added added

-- what lies around a cut of a cut is what lies around one cut
abbrev pub AroundCutTwice : {A S : Type 0} → (A → List S → ℕ → ℕ → A) → Type 0
AroundCutTwice {A} {S} cut_around = (before : A) (values : List S) (a n b m : ℕ) → b + m ≤ n
    → cut_around (cut_around before values a n) (take n (drop a values)) b m ≡ cut_around before values (a + b) m
