-- The rows of a table by groups of equal slots of a column.
use Rattle.std.specs.Prelude.{⊤, ◌≡◌, ◌⊎◌, ◌∷◌, ◌++◌, ℕ, List, Option, Some, None, Result, Ok, Err, codes, if◌then◌else◌, length}
use Rattle.std.specs.Prelude.{false, option_map, slice_get, string_bytes, take, unwrap_or}
use Rattle.std.specs.List.{AllZip}
use Rattle.example_record_batch.specs.declared.any.AnyArray.{AnyArray}
use Rattle.example_record_batch.specs.declared.any.group.Aggregate.{Aggregate}
use Rattle.example_record_batch.specs.declared.any.group.Aggregate.TheVariants.{Sum, Min, Max}
use Rattle.example_record_batch.specs.AnyArrays.{cell_at, slot_count, validity_of}
use Rattle.example_record_batch.specs.Batches.{Batch, Named}
use Rattle.example_record_batch.specs.Grouping.{AnyGrouping, IsAggregate, has_aggregate, overflowing_group}
use Rattle.example_record_batch.specs.Taking.{any_taken}
use Rattle.example_csv.specs.declared.error.Error.{Error}
use Rattle.example_csv.specs.declared.error.Error.TheVariants as error
use Rattle.example_csv.specs.declared.error.SumOverflow.{SumOverflow}
use Rattle.example_csv.specs.declared.group.Aggregation.{Aggregation}
use Rattle.example_csv.specs.declared.group.GroupBy.{GroupBy}
use Rattle.example_csv.specs.Selecting.{Explains, Reason, and_then, named_array, not_numbers}
use Rattle.example_csv.specs.Summary.{new_column}
use Rattle.example_csv.specs.Text.{cell_text}

-- the name of an aggregate
abbrev pub aggregate_word : Aggregate → List ℕ
aggregate_word Sum = codes "sum"
aggregate_word Min = codes "min"
aggregate_word Max = codes "max"

-- the name of its column, as `sum(price)`
abbrev pub aggregate_name : Aggregation → List ℕ
aggregate_name asked = aggregate_word asked.aggregate ++ codes "(" ++ string_bytes asked.column ++ codes ")"

-- the array itself if it has an aggregate, which only a sum of another column than of numbers has not
abbrev pub with_aggregate : Aggregation → AnyArray → Result AnyArray Reason
with_aggregate asked array =
    if has_aggregate asked.aggregate array then Ok array else Err (not_numbers (string_bytes asked.column))

-- the column that an aggregate is of
abbrev pub aggregated_array : Batch → Aggregation → Result AnyArray Reason
aggregated_array batch asked = and_then (with_aggregate asked) (named_array batch (string_bytes asked.column))

-- a column is the aggregate of the slots of each group of rows, under its name
abbrev pub IsAggregated : Batch → List ℕ → ℕ → Aggregation → Named → Type 0
IsAggregated batch numbers groups asked made = (array : AnyArray) × (aggregated_array batch asked ≡ Ok array)
    × (made.name ≡ aggregate_name asked) × IsAggregate asked.aggregate array numbers groups made.array

-- the same of groups with a key each, which are the slots of this column
abbrev pub AggregatesKeys : Batch → List ℕ → Named → Aggregation → Named → Type 0
AggregatesKeys batch numbers keys asked made = IsAggregated batch numbers (slot_count keys.array) asked made

-- columns are those of the keys, with a slot for each group, and of each aggregate, in order
abbrev pub HasAggregates : Batch → List ℕ → Named → List Aggregation → List Named → Type 0
HasAggregates batch numbers keys asked columns = (made : List Named)
    × AllZip (IsAggregated batch numbers (slot_count keys.array)) asked made × (columns ≡ keys ∷ made)

-- the column of the keys of groups, which are their first slots
abbrev pub group_keys : GroupBy → AnyArray → List ℕ → Named
group_keys by array first = new_column (string_bytes by.column) (any_taken array first)

-- a row for each group of equal slots of an array, in the order of their first slots: the key, and then the aggregates
pub record IsGroupedTable (array : AnyArray) (by : GroupBy) (batch grouped : Batch) : Type 0 where
  pub first : List ℕ
  pub numbers : List ℕ
  pub groups : AnyGrouping array first numbers
  pub rows : grouped.rows ≡ length first
  pub columns : HasAggregates batch numbers (group_keys by array first) by.aggregations.items grouped.columns

-- the rows of a batch are grouped by a column, or as they are if there is none
abbrev pub IsGroupedBy : Option GroupBy → Batch → Batch → Type 0
IsGroupedBy None batch grouped = grouped ≡ batch
IsGroupedBy (Some by) batch grouped = (array : AnyArray) × (named_array batch (string_bytes by.column) ≡ Ok array)
    × IsGroupedTable array by batch grouped

-- the text of the key of a group; none for a null
abbrev pub key_text : AnyArray → ℕ → Option (List ℕ)
key_text keys g = if unwrap_or (slice_get (validity_of keys) g) false then Some (cell_text (cell_at keys g)) else None

-- an overflow names the column that is summed, and the first group whose sum does not fit: the column of the keys, and
-- the text of the group's key
pub record NamesOverflow (array : AnyArray) (numbers : List ℕ) (keys : Named) (column : List ℕ) (overflow : SumOverflow)
    : Type 0 where
  pub group : ℕ
  pub first : overflowing_group array numbers (slot_count keys.array) ≡ Some group
  pub column_is : string_bytes overflow.column ≡ column
  pub by_is : string_bytes overflow.by ≡ keys.name
  pub key_is : option_map string_bytes overflow.key ≡ key_text keys.array group

-- why there is no aggregate: the sum of a group does not fit, and the error names the column and the first such group;
-- or no column has its name, a sum is not of numbers, or an allocation failed. `Arrow Overflow` is not among these
-- errors
abbrev pub CannotAggregate : Batch → List ℕ → Named → Aggregation → Error → Type 0
CannotAggregate batch numbers keys asked (error.SumOverflow overflow) = (array : AnyArray)
    × (aggregated_array batch asked ≡ Ok array) × (asked.aggregate ≡ Sum)
    × NamesOverflow array numbers keys (string_bytes asked.column) overflow
CannotAggregate batch numbers keys asked e = Explains (aggregated_array batch asked) e

-- why there are not all aggregates: why there is not the first that is missing, or an allocation failed
abbrev pub CannotAggregateAll : Batch → List ℕ → Named → List Aggregation → Error → Type 0
CannotAggregateAll batch numbers keys asked error.OutOfMemory = ⊤
CannotAggregateAll batch numbers keys asked e = (i : ℕ) × (one : Aggregation) × (slice_get asked i ≡ Some one)
    × (made : List Named) × AllZip (IsAggregated batch numbers (slot_count keys.array)) (take i asked) made
    × CannotAggregate batch numbers keys one e

-- why rows are not grouped: no column has the name, an allocation failed, or that is why there are not all aggregates
abbrev pub CannotGroup : Option GroupBy → Batch → Error → Type 0
CannotGroup None batch e = ⊥
CannotGroup (Some by) batch e = Explains (named_array batch (string_bytes by.column)) e
    ⊎ ((array : AnyArray) × (named_array batch (string_bytes by.column) ≡ Ok array)
    × (first : List ℕ) × (numbers : List ℕ) × AnyGrouping array first numbers
    × CannotAggregateAll batch numbers (group_keys by array first) by.aggregations.items e)
