-- Lemmas about the text of a schema.
use Rattle.std.proofs.Common.{◌≡◌, ℕ, ◌+◌, ◌<◌, List, [], ◌∷◌, ◌++◌, length, take, get_or, Some}
use Rattle.std.proofs.Common.{refl, ap, sym, ◌∙◌, append_assoc, append-nil}
use Rattle.std.specs.Prelude.{Ok, string_bytes}
use Rattle.std.specs.Fmt.{DisplaysOnOk, HasWritten, IsPlainFormatter}
use Rattle.std.specs.declared.fmt.Formatter.{Formatter}
use Rattle.std.proofs.Output.{has_written_append, has_written_of_eq}
use Rattle.std.proofs.lemmas.List.{take_more}
use Rattle.dethrugn.specs.Types.{LogicalType}
use Rattle.example_record_batch.specs.AnyArrays.{array_type}
use Rattle.example_record_batch.specs.Batches.{named}
use Rattle.example_record_batch.specs.Schemas.{NamedType, fields_schema, column_line, named_type, schema_text}
use Rattle.example_record_batch.specs.declared.batch.Field.{Field}
use Rattle.example_record_batch.proofs.ConcatLemmas.{schema-more}

-- the text of a schema with one more column
text-more : (columns : List NamedType) (column : NamedType)
    → schema_text (columns ++ column ∷ []) ≡ schema_text columns ++ column_line column
text-more [] column = append-nil (column_line column)
text-more (first ∷ columns) column =
    ap (λ text. column_line first ++ text) (text-more columns column)
    ∙ sym (append_assoc (column_line first) (schema_text columns) (column_line column))

module _ {W : Type 0} (took : W → List ℕ → W → Type 0) (f g h : Formatter W) where
  -- one more line is written
  pub shows-more : (fields : List Field) (i : ℕ) (field : Field) (t : LogicalType) → i < length fields
      → field ≡ get_or fields i field → t ≡ array_type field.array
      → (IsPlainFormatter f → HasWritten took f (schema_text (fields_schema (take i fields))) g)
      → DisplaysOnOk took g (Ok tt) (Some (column_line (record { name = string_bytes field.name; data_type = t }))) h
      → IsPlainFormatter f → HasWritten took f (schema_text (fields_schema (take (i + 1) fields))) h
  shows-more fields i field t low is type first second plain =
      let more = take_more fields i field low ∙ ap (λ x. take i fields ++ x ∷ []) (sym is) in
      let before = schema_text (fields_schema (take i fields)) in
      let line = column_line (record { name = string_bytes field.name; data_type = t }) in
      let whole : before ++ line ≡ schema_text (fields_schema (take (i + 1) fields)) =
      ap (λ t. schema_text (fields_schema (take i fields))
      ++ column_line (record { name = string_bytes field.name; data_type = t })) type
      ∙ sym (ap (λ xs. schema_text (fields_schema xs)) more ∙ ap schema_text (schema-more (take i fields) field)
      ∙ text-more (fields_schema (take i fields)) (named_type (named field))) in
      let written = first plain in
      has_written_of_eq _ _ _ _ _ whole (has_written_append _ _ _ _ _ _ written (second written.plain refl))
