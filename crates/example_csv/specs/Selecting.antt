-- The rows and columns of a table that options select.
use Rattle.std.specs.Prelude.{◌≡◌, ℕ, Bool, min, ⊤, List, find, is_none, map, string_bytes, String, Vec, Option}
use Rattle.std.specs.Prelude.{Some, None, option_map, Result, Ok, Err}
use Rattle.std.specs.List.{filter_map}
use Rattle.std.specs.declared.alloc.Global.{Global}
use Rattle.dethrugn.specs.Column.{Column}
use Rattle.dethrugn.specs.Types.{refusal, out_of_memory}
use Rattle.example_record_batch.specs.declared.any.AnyArray.{AnyArray}
use Rattle.example_record_batch.specs.declared.any.AnyArray.TheVariants.{Boolean}
use Rattle.example_record_batch.specs.Batches.{Batch, Named, batch_cut, batch_filtered, column_of}
use Rattle.example_csv.specs.declared.error.Error.{Error}
use Rattle.example_csv.specs.declared.error.Error.TheVariants.{Arrow, NotNumbers, NotTruth, OutOfMemory, UnknownColumn}
use Rattle.example_csv.specs.declared.options.Options.{Options}

-- the texts of strings
abbrev pub strings_bytes : Vec (String Global) Global → List (List ℕ)
strings_bytes strings = map string_bytes strings.items

-- why nothing is selected: the table has no column of this name, or not of booleans, or not of numbers
pub data Reason : Type 0 where
  unknown : List ℕ → Reason
  not_truth : List ℕ → Reason
  not_numbers : List ℕ → Reason

-- what is made of a value, if there is one
abbrev pub and_then : {A B : Type 0} → (A → Result B Reason) → Result A Reason → Result B Reason
and_then f (Ok x) = f x
and_then f (Err reason) = Err reason

-- a column that is found, or else the reason that no column has this name
abbrev pub found_array : List ℕ → Option AnyArray → Result AnyArray Reason
found_array name (Some array) = Ok array
found_array name None = Err (unknown name)

-- the column of this name
abbrev pub named_array : Batch → List ℕ → Result AnyArray Reason
named_array batch name = found_array name (column_of batch name)

-- the column of booleans of this name
abbrev pub truth_column : List ℕ → Option AnyArray → Result (Column Bool) Reason
truth_column name (Some (Boolean column)) = Ok column
truth_column name (Some _) = Err (not_truth name)
truth_column name None = Err (unknown name)

-- the rows where the column of this name is valid and true
abbrev pub rows_where : Option (List ℕ) → Batch → Result Batch Reason
rows_where None batch = Ok batch
rows_where (Some name) batch =
    and_then (λ column. Ok (batch_filtered batch column)) (truth_column name (column_of batch name))

-- the first of the names that no column has
abbrev pub unknown_name : Batch → List (List ℕ) → Option (List ℕ)
unknown_name batch names = find (λ name. is_none (column_of batch name)) names

-- the column of a name
abbrev pub column_named : Batch → List ℕ → Option Named
column_named batch name = option_map (λ array. record { name = name; array = array }) (column_of batch name)

-- a table of other columns of as many rows, if no name is unknown
abbrev pub with_columns : Batch → Option (List ℕ) → List Named → Result Batch Reason
with_columns batch None columns = Ok (record batch { columns = columns })
with_columns batch (Some name) columns = Err (unknown name)

-- the columns of these names, in this order
abbrev pub in_columns : Option (List (List ℕ)) → Batch → Result Batch Reason
in_columns None batch = Ok batch
in_columns (Some names) batch = with_columns batch (unknown_name batch names) (filter_map (column_named batch) names)

-- at most the first n rows
abbrev pub first_rows : Option ℕ → Batch → Batch
first_rows None batch = batch
first_rows (Some n) batch = batch_cut batch 0 (min batch.rows n)

-- the rows that `--where` keeps
abbrev pub kept_rows : Options → Batch → Result Batch Reason
kept_rows options batch = rows_where (option_map string_bytes options.filter) batch

-- the columns that options name, and at most the first rows
abbrev pub shown_part : Options → Batch → Result Batch Reason
shown_part options batch =
    and_then (λ shown. Ok (first_rows options.head shown)) (in_columns (option_map strings_bytes options.columns) batch)

-- an error is the reason why nothing is made, or out of memory
abbrev pub Explains : {A : Type 0} → Result A Reason → Error → Type 0
Explains r (UnknownColumn name) = r ≡ Err (unknown (string_bytes name))
Explains r (NotTruth name) = r ≡ Err (not_truth (string_bytes name))
Explains r (NotNumbers name) = r ≡ Err (not_numbers (string_bytes name))
Explains r (Arrow e) = refusal e ≡ out_of_memory
Explains r OutOfMemory = ⊤
Explains r _ = ⊥
