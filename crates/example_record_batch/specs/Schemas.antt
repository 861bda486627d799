-- Schemas: the name and the data type of each column of a batch, and their text.
use Rattle.std.specs.Prelude.{List, [], ◌∷◌, ◌++◌, ℕ, codes, map}
use Rattle.dethrugn.specs.Types.{LogicalType}
use Rattle.dethrugn.specs.TypeText.{type_text}
use Rattle.example_record_batch.specs.declared.batch.Field.{Field}
use Rattle.example_record_batch.specs.AnyArrays.{array_type}
use Rattle.example_record_batch.specs.Batches.{Batch, Named, named}

-- the name of a column and its data type
pub record NamedType : Type 0 where
  pub name : List ℕ
  pub data_type : LogicalType

abbrev pub named_type : Named → NamedType
named_type column = record { name = column.name; data_type = array_type column.array }

-- the schema of a batch
abbrev pub schema_of : Batch → List NamedType
schema_of batch = map named_type batch.columns

-- the schema of a batch of fields
abbrev pub fields_schema : List Field → List NamedType
fields_schema fields = map named_type (map named fields)

-- the text of a column's type: its name, a colon, and its data type
abbrev pub column_line : NamedType → List ℕ
column_line column = column.name ++ (codes ": " ++ (type_text column.data_type ++ codes "\n"))

-- the text of a schema: a line for each column
abbrev pub schema_text : List NamedType → List ℕ
schema_text [] = []
schema_text (column ∷ columns) = column_line column ++ schema_text columns
