-- Concatenations of arrays and of batches, and how they fail.
use Rattle.std.specs.Prelude.{⊤, ◌≡◌, ◌⊎◌, ℕ, ◌<◌, ◌≤◌, ◌^◌, List, [], ◌∷◌, All, codes, filter_map, flat_map}
use Rattle.std.specs.Prelude.{length, map, Option, option_map, slice_get, Some, sum_by}
use Rattle.std.specs.List.{concat}
use Rattle.dethrugn.specs.Validation.{IsFirstFailure, Passes, Tests, accept, test}
use Rattle.dethrugn.specs.Around.{nothing_around}
use Rattle.dethrugn.specs.Column.{ColumnWith, stored_values}
use Rattle.dethrugn.specs.PhysicalType.{PhysicalType}
use Rattle.dethrugn.specs.Selection.{Concatenates}
use Rattle.dethrugn.specs.Types.{Refusal, out_of_memory, out_of_spec, overflow}
use Rattle.example_record_batch.specs.declared.any.AnyArray.{AnyArray}
use Rattle.example_record_batch.specs.declared.any.AnyArray.TheVariants.{Int64, Boolean, Binary, Utf8}
use Rattle.example_record_batch.specs.declared.batch.Field.{Field}
use Rattle.example_record_batch.specs.AnyArrays.{array_kind}
use Rattle.example_record_batch.specs.Batches.{Batch, Named, named}
use Rattle.example_record_batch.specs.Schemas.{fields_schema, schema_of}

-- the arrays are all of this kind
abbrev pub HaveKind : List AnyArray → PhysicalType → Type 0
HaveKind arrays kind = All (λ array. array_kind array ≡ kind) arrays

-- the arrays are all of one kind
abbrev pub HaveOneKind : List AnyArray → Type 0
HaveOneKind arrays = (kind : PhysicalType) × HaveKind arrays kind

-- a column is the concatenation of the columns of arrays, which are all of one variant; nothing lies around its items
abbrev pub Joins : {A S : Type 0} → (ColumnWith A S → AnyArray) → A → List AnyArray → ColumnWith A S → Type 0
Joins {A} {S} variant nothing arrays made =
    (columns : List (ColumnWith A S)) × (map variant columns ≡ arrays) × Concatenates nothing columns made

-- an array is the concatenation of others
abbrev pub IsConcatArray : List AnyArray → AnyArray → Type 0
IsConcatArray arrays (Int64 made) = Joins Int64 tt arrays made
IsConcatArray arrays (Boolean made) = Joins Boolean tt arrays made
IsConcatArray arrays (Binary made) = Joins Binary nothing_around arrays made
IsConcatArray arrays (Utf8 made) = Joins Utf8 nothing_around arrays made

-- the bytes of all items of an array of bytes or text
abbrev pub item_bytes : AnyArray → List ℕ
item_bytes (Int64 column) = []
item_bytes (Boolean column) = []
item_bytes (Binary column) = concat (stored_values column)
item_bytes (Utf8 column) = concat (stored_values column)

-- the items together have more bytes than the greatest offset
abbrev pub TooManyBytes : List AnyArray → Type 0
TooManyBytes arrays = 2147483647 < length (flat_map item_bytes arrays)

-- how a concatenation of arrays fails
abbrev pub ArraysFail : List AnyArray → Refusal → Type 0
ArraysFail arrays overflow = TooManyBytes arrays
ArraysFail arrays out_of_memory = ⊤
ArraysFail arrays (out_of_spec rule) = ⊥

-- the column at index k of a batch
abbrev pub array_at : ℕ → Batch → Option AnyArray
array_at k batch = option_map (λ column. column.array) (slice_get batch.columns k)

-- the columns at index k of several batches
abbrev pub arrays_at : List Batch → ℕ → List AnyArray
arrays_at batches k = filter_map (array_at k) batches

-- a batch is the concatenation of others: it has all their rows, their schema, and at each index the concatenation of
-- their columns
pub record IsConcat (batches : List Batch) (made : Batch) : Type 0 where
  pub rows : made.rows ≡ sum_by (λ batch. batch.rows) batches
  pub schema : All (λ batch. schema_of batch ≡ schema_of made) batches
  pub arrays : (k : ℕ) (array : AnyArray) → array_at k made ≡ Some array → IsConcatArray (arrays_at batches k) array

-- all batches have the schema of the first
abbrev pub HaveOneSchema : List Batch → Type 0
HaveOneSchema [] = ⊤
HaveOneSchema (first ∷ others) = All (λ batch. schema_of batch ≡ schema_of first) others

-- the tests of batches to concatenate, in order
abbrev pub concat_tests : List Batch → Tests
concat_tests batches =
    test (0 < length batches) (out_of_spec (codes "concat requires at least one batch"))
    (test (HaveOneSchema batches) (out_of_spec (codes "all batches must have the same schema")) accept)

-- there are more rows than can be counted
abbrev pub TooManyRows : List Batch → Type 0
TooManyRows batches = 2 ^ 64 ≤ sum_by (λ batch. batch.rows) batches

-- how a concatenation of batches fails: by the first test that fails, or else because there are too many rows or bytes,
-- or because an allocation fails
abbrev pub ConcatFails : List Batch → Refusal → Type 0
ConcatFails batches (out_of_spec rule) = IsFirstFailure (concat_tests batches) (out_of_spec rule)
ConcatFails batches overflow =
    Passes (concat_tests batches) × (TooManyRows batches ⊎ ((k : ℕ) × TooManyBytes (arrays_at batches k)))
ConcatFails batches out_of_memory = Passes (concat_tests batches)

-- The steps of a concatenation of batches.

-- the kind of each column
abbrev pub named_kind : Named → PhysicalType
named_kind column = array_kind column.array

abbrev pub kinds_of : Batch → List PhysicalType
kinds_of batch = map named_kind batch.columns

abbrev pub fields_kinds : List Field → List PhysicalType
fields_kinds fields = map named_kind (map named fields)

-- columns are the concatenations of the columns of batches, under the names of the fields
pub record AreConcats (batches : List Batch) (fields made : List Field) : Type 0 where
  pub schema : fields_schema made ≡ fields_schema fields
  pub arrays : (k : ℕ) (field : Field) → slice_get made k ≡ Some field → IsConcatArray (arrays_at batches k) field.array

-- how the concatenation of the columns of batches fails
abbrev pub ColumnsFail : List Batch → Refusal → Type 0
ColumnsFail batches overflow = (k : ℕ) × TooManyBytes (arrays_at batches k)
ColumnsFail batches out_of_memory = ⊤
ColumnsFail batches (out_of_spec rule) = ⊥
