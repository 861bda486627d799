-- The rows of a table in the order of a column.
use Rattle.std.specs.Prelude.{◌≡◌, ◌-◌, ℕ, Bool, true, false, List, Option, Some, None, Ok, codes, length, nat_eq, string_bytes, take}
use Rattle.std.specs.Prelude.{if◌then◌else◌}
use Rattle.std.specs.List.{ends_with}
use Rattle.dethrugn.specs.Sort.{TakesSorted}
use Rattle.example_record_batch.specs.declared.any.AnyArray.{AnyArray}
use Rattle.example_record_batch.specs.Batches.{Batch}
use Rattle.example_record_batch.specs.Taking.{any_order, batch_taken}
use Rattle.example_csv.specs.declared.error.Error.{Error}
use Rattle.example_csv.specs.declared.sort.SortKey.{SortKey}
use Rattle.example_csv.specs.Fields.{without_suffix}
use Rattle.example_csv.specs.Selecting.{Explains, named_array}

-- the name of the column that a key names, and whether the greatest value comes first
abbrev pub sort_key : List ℕ → List ℕ × Bool
sort_key text = if ends_with nat_eq text (codes ":desc") then (without_suffix 5 text, true)
    else if ends_with nat_eq text (codes ":asc") then (without_suffix 4 text, false)
    else (text, false)

-- the rows are those of a batch in the order of an array of as many slots: nulls first, and equal rows in their order
abbrev pub SortsRows : AnyArray → Bool → Batch → Batch → Type 0
SortsRows array descending batch sorted =
    TakesSorted (any_order array descending true) batch.rows None (batch_taken batch) sorted

-- the rows are those of a batch in the order of the column that a key names, or as they are if there is no key
abbrev pub IsSortedBy : Option SortKey → Batch → Batch → Type 0
IsSortedBy None batch sorted = sorted ≡ batch
IsSortedBy (Some key) batch sorted = (array : AnyArray) × (named_array batch (string_bytes key.column) ≡ Ok array)
    × SortsRows array key.descending batch sorted

-- why rows are not sorted: no column has the name of the key, or an allocation failed
abbrev pub CannotSort : Option SortKey → Batch → Error → Type 0
CannotSort None batch e = ⊥
CannotSort (Some key) batch e = Explains (named_array batch (string_bytes key.column)) e
