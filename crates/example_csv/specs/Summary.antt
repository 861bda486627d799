-- A summary of a table: a row for each column.
use Rattle.std.specs.Prelude.{◌≡◌, ℕ, ℤ, pos, ◌-◌, ◌^◌, min, Bool, true, false, ⊤, ◌⊎◌, List, [], ◌∷◌, codes}
use Rattle.std.specs.Prelude.{length, map}
use Rattle.std.specs.Prelude.{Option, Some, None}
use Rattle.std.specs.Cmp.Lexicographic.{slice_cmp}
use Rattle.std.specs.Fmt.{signed_decimal}
use Rattle.std.specs.List.{AllZip}
use Rattle.std.specs.Ordering.{bool_cmp, int_cmp, nat_cmp}
use Rattle.std.specs.declared.cmp.Ordering.{Ordering}
use Rattle.dethrugn.specs.Types.{out_of_memory, overflow, refusal}
use Rattle.example_record_batch.specs.declared.any.AnyArray.{AnyArray}
use Rattle.example_record_batch.specs.declared.any.AnyArray.TheVariants.{Binary, Boolean, Int64, Utf8}
use Rattle.example_record_batch.specs.AnyArrays.{Cell, cells_of, nulls_of, number, slot_count, text}
use Rattle.example_record_batch.specs.Batches.{Batch, Named}
use Rattle.dethrugn.specs.Aggregates.{IsGreatest, IsLeast, valid_values}
use Rattle.example_csv.specs.declared.error.Error.{Error}
use Rattle.example_csv.specs.declared.error.Error.TheVariants.{Arrow, OutOfMemory}
use Rattle.example_csv.specs.Text.{truth_text}

-- the name of the type of a column
abbrev pub type_name : AnyArray → List ℕ
type_name (Int64 column) = codes "i64"
type_name (Boolean column) = codes "bool"
type_name (Binary column) = codes "bytes"
type_name (Utf8 column) = codes "text"

-- a count as an i64, or the greatest i64 if it is greater
abbrev pub count_number : ℕ → ℤ
count_number n = pos (min n (2 ^ 63 - 1))

-- the text of an extreme value, or none of no value
abbrev pub IsTextOf : {A : Type 0} → (List A → A → Type 0) → (A → List ℕ) → List A → Option (List ℕ) → Type 0
IsTextOf IsExtreme text_of values None = values ≡ []
IsTextOf IsExtreme text_of values (Some shown) = (x : _) × IsExtreme values x × (shown ≡ text_of x)

-- the text of the least value of a column, if a slot is valid and its type has an order
abbrev pub IsLeastOf : AnyArray → Option (List ℕ) → Type 0
IsLeastOf (Int64 column) least = IsTextOf (IsLeast int_cmp) signed_decimal (valid_values column) least
IsLeastOf (Boolean column) least = IsTextOf (IsLeast bool_cmp) truth_text (valid_values column) least
IsLeastOf (Utf8 column) least = IsTextOf (IsLeast (slice_cmp nat_cmp)) (λ shown. shown) (valid_values column) least
IsLeastOf (Binary column) least = least ≡ None

abbrev pub IsGreatestOf : AnyArray → Option (List ℕ) → Type 0
IsGreatestOf (Int64 column) greatest = IsTextOf (IsGreatest int_cmp) signed_decimal (valid_values column) greatest
IsGreatestOf (Boolean column) greatest = IsTextOf (IsGreatest bool_cmp) truth_text (valid_values column) greatest
IsGreatestOf (Utf8 column) greatest = IsTextOf (IsGreatest (slice_cmp nat_cmp)) (λ shown. shown)
    (valid_values column) greatest
IsGreatestOf (Binary column) greatest = greatest ≡ None

-- the text of the least value of each column, in order
abbrev pub AreLeast : List Named → List (Option (List ℕ)) → Type 0
AreLeast columns least = AllZip (λ column text. IsLeastOf column.array text) columns least

abbrev pub AreGreatest : List Named → List (Option (List ℕ)) → Type 0
AreGreatest columns greatest = AllZip (λ column text. IsGreatestOf column.array text) columns greatest

-- the names and cells of the columns
abbrev pub contents_of : Batch → List (List ℕ × List Cell)
contents_of batch = map (λ column. (column.name, cells_of column.array)) batch.columns

-- the summary of a table
abbrev pub IsSummary : Batch → Batch → Type 0
IsSummary batch summary =
    (summary.rows ≡ length batch.columns) × (least : List (Option (List ℕ))) × (greatest : List (Option (List ℕ)))
    × AreLeast batch.columns least × AreGreatest batch.columns greatest
    × (contents_of summary ≡ (codes "column", map (λ column. text (Some column.name)) batch.columns)
    ∷ (codes "type", map (λ column. text (Some (type_name column.array))) batch.columns)
    ∷ (codes "rows", map (λ column. number (Some (count_number (slot_count column.array)))) batch.columns)
    ∷ (codes "nulls", map (λ column. number (Some (count_number (nulls_of column.array)))) batch.columns)
    ∷ (codes "least", map text least) ∷ (codes "greatest", map text greatest) ∷ [])

-- an error of making it: a column has more bytes than its offsets can count, or out of memory
abbrev pub CannotSummarize : Error → Type 0
CannotSummarize (Arrow e) = (refusal e ≡ out_of_memory) ⊎ (refusal e ≡ overflow)
CannotSummarize OutOfMemory = ⊤
CannotSummarize _ = ⊥

-- a cell for each column, with a count of its array
abbrev pub count_cells : (AnyArray → ℕ) → List Named → List Cell
count_cells count columns = map (λ column. number (Some (count_number (count column.array)))) columns

-- the cells of an array are the texts of the least value of each column
abbrev pub HasLeast : List Named → AnyArray → Type 0
HasLeast columns array = (least : List (Option (List ℕ))) × AreLeast columns least
    × (cells_of array ≡ map text least)

abbrev pub HasGreatest : List Named → AnyArray → Type 0
HasGreatest columns array = (greatest : List (Option (List ℕ))) × AreGreatest columns greatest
    × (cells_of array ≡ map text greatest)

-- a column of this name
abbrev pub new_column : List ℕ → AnyArray → Named
new_column name array = record { name = name; array = array }
