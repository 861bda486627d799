-- Lemmas about growing columns.
use Rattle.std.proofs.Common.{◌≡◌, ℕ, ℤ, ◌+◌, ◌≤◌, ◌==◌, Bool, true, false, List, [], ◌∷◌, ◌++◌, Option, Some, None}
use Rattle.std.proofs.Common.{refl, sym, ap, ◌∙◌, arith, length, map}
use Rattle.std.specs.Prelude.{is_some, option_map}
use Rattle.std.specs.List.{list_all}
use Rattle.std.proofs.lemmas.List.{map-append}
use Rattle.dethrugn.specs.Column.{Column, append_slot, slots_of, stored_values}
use Rattle.dethrugn.specs.ByteColumn.{ByteColumn}
use Rattle.dethrugn.proofs.CallerLemmas.Column.{one-slot}
use Rattle.dethrugn.proofs.CallerLemmas.Kernels.{more-bytes}
use Rattle.example_record_batch.specs.AnyArrays.{Cell, number, text, truth}
use Rattle.example_csv.specs.declared.kind.Kind.TheVariants as kind
use Rattle.example_csv.specs.declared.builder.Builder.TheVariants as builder
use Rattle.example_csv.specs.Builders.{GrowsBy, IsArrayOf, byte_count}
use Rattle.example_csv.specs.Fields.{parsed_number, field_cell, slot_as, field_text, truth_of}

-- one slot more is one cell more
cells-more : {X : Type 0} (cell : X → Cell) (old new : List X) (slot : X) → new ≡ old ++ slot ∷ []
    → map Some (map cell new) ≡ map Some (map cell old) ++ Some (cell slot) ∷ []
cells-more cell old new slot e =
    ap (λ slots. map Some (map cell slots)) e
    ∙ ap (map Some) (map-append cell old (slot ∷ []))
    ∙ map-append Some (map cell old) (cell slot ∷ [])

pub grows-int64 : (old new : Column ℤ) (field : List ℕ) (slot : Option ℤ) (zero : ℤ)
    → slot_as parsed_number (field_text field) ≡ Some slot → new ≡ append_slot zero old slot
    → GrowsBy (builder.Int64 old) (builder.Int64 new) field
grows-int64 old new field slot zero read e = record {
  declared = refl;
  cells = cells-more number (slots_of old) (slots_of new) slot (ap slots_of e ∙ one-slot zero old slot)
      ∙ ap (λ cell. map Some (map number (slots_of old)) ++ option_map number cell ∷ []) (sym read);
  bytes = omega arith;
}

pub grows-boolean : (old new : Column Bool) (field : List ℕ) (slot : Option Bool)
    → slot_as truth_of (field_text field) ≡ Some slot → new ≡ append_slot false old slot
    → GrowsBy (builder.Boolean old) (builder.Boolean new) field
grows-boolean old new field slot read e = record {
  declared = refl;
  cells = cells-more truth (slots_of old) (slots_of new) slot (ap slots_of e ∙ one-slot false old slot)
      ∙ ap (λ cell. map Some (map truth (slots_of old)) ++ option_map truth cell ∷ []) (sym read);
  bytes = omega arith;
}

-- a null stores no byte, and any other text its own
bytes-more : (old : ByteColumn) (field : List ℕ)
    → byte_count (append_slot [] old (field_text field)) ≤ byte_count old + length field
bytes-more old [] = let more = more-bytes old.rows [] false in omega (arith, more)
bytes-more old (b ∷ rest) = let more = more-bytes old.rows (b ∷ rest) true in omega (arith, more)

text-cells : (old new : ByteColumn) (field : List ℕ) → new ≡ append_slot [] old (field_text field)
    → map Some (map text (slots_of new)) ≡ map Some (map text (slots_of old)) ++ field_cell kind.Utf8 field ∷ []
text-cells old new field e =
    cells-more text (slots_of old) (slots_of new) (field_text field) (ap slots_of e ∙ one-slot [] old (field_text field))

pub grows-text : (old new : ByteColumn) (field : List ℕ) → new ≡ append_slot [] old (field_text field)
    → GrowsBy (builder.Utf8 old) (builder.Utf8 new) field
grows-text old new field e = record {
  declared = refl;
  cells = text-cells old new field e;
  bytes = rw e (bytes-more old field);
}

pub grows-undeclared : (old new : ByteColumn) (field : List ℕ) → new ≡ append_slot [] old (field_text field)
    → GrowsBy (builder.Undeclared old) (builder.Undeclared new) field
grows-undeclared old new field e = record {
  declared = refl;
  cells = text-cells old new field e;
  bytes = rw e (bytes-more old field);
}

-- the slots of a column of text are the texts of the fields that its cells read as
pub texts-of : (slots : List (Option (List ℕ))) (fields : List (List ℕ))
    → map Some (map text slots) ≡ map (field_cell kind.Utf8) fields → slots ≡ map field_text fields
texts-of [] [] e = refl
texts-of [] (field ∷ fields) e = cc
texts-of (slot ∷ slots) [] e = cc
texts-of (slot ∷ slots) (field ∷ fields) e =
    let first : slot ≡ field_text field = cc in
    let rest : map Some (map text slots) ≡ map (field_cell kind.Utf8) fields = cc in
    ap (λ s. s ∷ slots) first ∙ ap (λ ss. field_text field ∷ ss) (texts-of slots fields rest)
