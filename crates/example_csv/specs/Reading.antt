-- Tables of CSV.
use Rattle.std.specs.Prelude.{◌≡◌, ◌≢◌, ℕ, ◌+◌, ◌^◌, ◌<◌, ◌≤◌, ⊤, false, List, [], ◌∷◌, ◌++◌, Some, None, length, map}
use Rattle.std.specs.Prelude.{slice_get, slice_index_or, string_bytes}
use Rattle.std.specs.List.{concat}
use Rattle.csv.specs.Reading.{AreRecords, Reached, Ready, default_config, error_kind, expected_len, is_flexible}
use Rattle.csv.specs.Reading.{reader_config, reader_state, reader_trim, strip_bom}
use Rattle.csv.specs.Records.{AllText}
use Rattle.csv.specs.declared.error.ErrorKind.{ErrorKind}
use Rattle.csv.specs.declared.error.ErrorKind.TheVariants as csv_error
use Rattle.csv.specs.declared.parser.State.{State}
use Rattle.csv.specs.declared.parser.State.TheVariants as state
use Rattle.csv.specs.declared.reader.Reader.{Reader}
use Rattle.csv.specs.declared.reader.Trim.TheVariants as trim
use Rattle.dethrugn.specs.Error.TheVariants as arrow
use Rattle.example_record_batch.specs.Batches.{Batch, Named}
use Rattle.example_csv.specs.declared.error.Error.{Error}
use Rattle.example_csv.specs.declared.error.Error.TheVariants as error
use Rattle.example_csv.specs.declared.kind.Kind.{Kind}
use Rattle.example_csv.specs.declared.read.NamedBuilder.{NamedBuilder}
use Rattle.example_csv.specs.Builders.{CannotPush, IsArrayOf, built_cells, built_kind, column_kind, declared_of, text_length}
use Rattle.example_csv.specs.Fields.{header_of, field_cell}

-- the records of a CSV text, the header row among them
abbrev pub AreRecordsOf : List ℕ → List (List (List ℕ)) → Type 0
AreRecordsOf text records = AreRecords default_config state.StartRecord (strip_bom text) records

-- a reader of CSV without a header row of its own, which has read nothing
pub record HasReadNothing {R : Type 0} (reader : Reader R) : Type 0 where
  pub trim : reader_trim reader ≡ trim.None
  pub ready : Ready reader
  pub config : reader_config reader ≡ default_config
  pub flexible : is_flexible reader ≡ false
  pub expected : expected_len reader ≡ None
  pub state : reader_state reader ≡ state.StartRecord

-- the field at a place of each row
abbrev pub column_fields : List (List (List ℕ)) → ℕ → List (List ℕ)
column_fields rows i = map (λ row. slice_index_or row i []) rows

-- the column of a header field and the fields below it
pub record IsColumnOf (header : List ℕ) (fields : List (List ℕ)) (column : Named) : Type 0 where
  pub name : column.name ≡ (header_of header).0
  pub array : IsArrayOf (column_kind (header_of header).1 fields) fields column.array

-- the table of a header row and rows of fields
pub record IsTableOf (headers : List (List ℕ)) (rows : List (List (List ℕ))) (table : Batch) : Type 0 where
  pub height : table.rows ≡ length rows
  pub width : length table.columns ≡ length headers
  pub each : (i : ℕ) (d : Named) → i < length headers
      → IsColumnOf (slice_index_or headers i []) (column_fields rows i) (slice_index_or table.columns i d)

-- a text begins with these records
abbrev pub BeginsWith : List ℕ → List (List (List ℕ)) → Type 0
BeginsWith text records = (at : State) × (rest : List ℕ)
    × Reached default_config state.StartRecord (strip_bom text) records at rest

-- why CSV cannot be read: the device or an allocation failed, a record has another length than the first, or is no text
abbrev pub IsCsvError : List ℕ → ErrorKind → Type 0
IsCsvError text (csv_error.Io e) = ⊤
IsCsvError text csv_error.OutOfMemory = ⊤
IsCsvError text (csv_error.UnequalLengths at expected len) = (names : List (List ℕ)) × (rows : List (List (List ℕ)))
    × (row : List (List ℕ)) × BeginsWith text ((names ∷ rows) ++ row ∷ [])
    × (expected ≡ length names) × (len ≡ length row) × (expected ≢ len)
IsCsvError text (csv_error.Utf8 at why) = (rows : List (List (List ℕ))) × (row : List (List ℕ))
    × BeginsWith text (rows ++ row ∷ []) × ¬ (AllText row)
IsCsvError text (csv_error.Serialize why) = ⊥
IsCsvError text (csv_error.Deserialize at why) = ⊥

-- the field at this column, from 1, is not of the type that the column declares
abbrev pub IsBadField : List (List ℕ) → List (List ℕ) → ℕ → Kind → Type 0
IsBadField names row column wanted = (i : ℕ) × (i < length names) × (column ≡ i + 1)
    × ((header_of (slice_index_or names i [])).1 ≡ Some wanted) × (field_cell wanted (slice_index_or row i []) ≡ None)

-- the text of a column is longer than offsets of i32 can count
abbrev pub IsLongColumn : List (List (List ℕ)) → Type 0
IsLongColumn rows = (i : ℕ) × (2 ^ 31 ≤ length (concat (column_fields rows i)))

-- why a text is refused
abbrev pub IsRefused : List ℕ → Error → Type 0
IsRefused text (error.Csv e) = IsCsvError text (error_kind e)
IsRefused text error.NoHeader = AreRecordsOf text []
IsRefused text (error.Field byte column wanted) = (names : List (List ℕ)) × (rows : List (List (List ℕ)))
    × (row : List (List ℕ)) × BeginsWith text ((names ∷ rows) ++ row ∷ []) × IsBadField names row column wanted
IsRefused text (error.Arrow arrow.Overflow) = (names : List (List ℕ)) × (rows : List (List (List ℕ)))
    × BeginsWith text (names ∷ rows) × IsLongColumn rows
IsRefused text (error.Arrow arrow.OutOfMemory) = ⊤
IsRefused text (error.Arrow (arrow.OutOfSpec why)) = ⊥
IsRefused text error.OutOfMemory = ⊤
IsRefused text (error.Io e) = ⊥
IsRefused text (error.UnknownColumn name) = ⊥
IsRefused text (error.NotTruth name) = ⊥
IsRefused text (error.NotNumbers name) = ⊥
IsRefused text (error.SumOverflow overflow) = ⊥

-- a growing column has the name and the type of a header field, and the cells that the fields below it read as
pub record IsBuiltOf (header : List ℕ) (fields : List (List ℕ)) (column : NamedBuilder) : Type 0 where
  pub name : string_bytes column.name ≡ (header_of header).0
  pub declared : declared_of column.builder ≡ (header_of header).1
  pub cells : map Some (built_cells column.builder) ≡ map (field_cell (built_kind column.builder)) fields
  pub bytes : text_length column.builder ≤ length (concat fields)

-- growing columns of a header row and rows of fields
pub record AreBuiltOf (headers : List (List ℕ)) (rows : List (List (List ℕ))) (columns : List NamedBuilder) : Type 0
  where
    pub width : length columns ≡ length headers
    pub each : (i : ℕ) (d : NamedBuilder) → i < length headers
        → IsBuiltOf (slice_index_or headers i []) (column_fields rows i) (slice_index_or columns i d)

-- why a row is not appended: a field of it is not
abbrev pub CannotPushRow : List NamedBuilder → List (List ℕ) → Error → Type 0
CannotPushRow columns row e = (i : ℕ) × (column : NamedBuilder) × (slice_get columns i ≡ Some column)
    × CannotPush column.builder (slice_index_or row i []) (i + 1) e

-- the table of a CSV text
abbrev pub IsTableOfText : List ℕ → Batch → Type 0
IsTableOfText text table = (headers : List (List ℕ)) × (rows : List (List (List ℕ)))
    × AreRecordsOf text (headers ∷ rows) × IsTableOf headers rows table

-- growing columns grew by a row of fields
abbrev pub AppendsRow : List NamedBuilder → List (List ℕ) → List NamedBuilder → Type 0
AppendsRow old row new = (headers : List (List ℕ)) (rows : List (List (List ℕ))) → AreBuiltOf headers rows old
    → AreBuiltOf headers (rows ++ row ∷ []) new

-- a fact of the header row and the rows of fields of growing columns
abbrev pub ForBuilt : List NamedBuilder → ℕ → (List (List ℕ) → List (List (List ℕ)) → Type 0) → Type 0
ForBuilt columns height P = (headers : List (List ℕ)) (rows : List (List (List ℕ))) → AreBuiltOf headers rows columns
    → height ≡ length rows → P headers rows
