-- What header fields and fields mean.
use Rattle.std.specs.Prelude.{ℕ, ℤ, pos, negsuc, ◌-◌, ◌^◌, ◌&&◌, Bool, true, false, List, [], ◌∷◌, Option, Some, None, option_map}
use Rattle.std.specs.Prelude.{◌≡◌, MatchOption, map, codes, is_none, is_some, length, take, if◌then◌else◌, nat_eq, nat_lt}
use Rattle.std.specs.Fmt.{signed_decimal}
use Rattle.std.specs.List.{ends_with, list_all}
use Rattle.std.specs.Str.{bytes_eq}
use Rattle.std.specs.Str.Parse.{signed_digits_value}
use Rattle.example_record_batch.specs.AnyArrays.{Cell, number, text, truth}
use Rattle.example_csv.specs.declared.kind.Kind.{Kind}
use Rattle.example_csv.specs.declared.kind.Kind.TheVariants as kind

-- whether a number is one of 64 bits
abbrev pub is_i64 : ℤ → Bool
is_i64 (pos n) = nat_lt n (2 ^ 63)
is_i64 (negsuc n) = nat_lt n (2 ^ 63)

-- the number of 64 bits that prints as this text, if there is one
abbrev pub parsed_number : List ℕ → Option ℤ
parsed_number field = let value = signed_digits_value 10 field in
    if is_i64 value && bytes_eq (signed_decimal value) field then Some value else None

-- the boolean that prints as this text, if there is one
abbrev pub truth_of : List ℕ → Option Bool
truth_of field = if bytes_eq field (codes "true") then Some true
    else if bytes_eq field (codes "false") then Some false else None

-- the text of a field: an empty field is a null
abbrev pub field_text : List ℕ → Option (List ℕ)
field_text [] = None
field_text (b ∷ rest) = Some (b ∷ rest)

-- what a text means, where a null stays one; none if it means nothing
abbrev pub slot_as : {X : Type 0} → (List ℕ → Option X) → Option (List ℕ) → Option (Option X)
slot_as meaning None = Some None
slot_as meaning (Some field) = option_map Some (meaning field)

-- the cell that a field of a column of a type field_cell as; none if it is not of that type
abbrev pub field_cell : Kind → List ℕ → Option Cell
field_cell kind.Int64 field = option_map number (slot_as parsed_number (field_text field))
field_cell kind.Boolean field = option_map truth (slot_as truth_of (field_text field))
field_cell kind.Utf8 field = Some (text (field_text field))

-- whether each of these fields is of a type
abbrev pub all_read : Kind → List (List ℕ) → Bool
all_read kind fields = list_all (λ field. is_some (field_cell kind field)) fields

-- the type that the fields of a column have: text if all are empty
abbrev pub found_kind : List (List ℕ) → Kind
found_kind fields = if list_all (λ field. is_none (field_text field)) fields then kind.Utf8
    else if all_read kind.Int64 fields then kind.Int64
    else if all_read kind.Boolean fields then kind.Boolean
    else kind.Utf8

-- a header field without its last bytes
abbrev pub without_suffix : ℕ → List ℕ → List ℕ
without_suffix n header = take (length header - n) header

-- the name that a header field gives to its column, and the type that it declares, if it does
abbrev pub header_of : List ℕ → List ℕ × Option Kind
header_of header = if ends_with nat_eq header (codes ":i64") then (without_suffix 4 header, Some kind.Int64)
    else if ends_with nat_eq header (codes ":bool") then (without_suffix 5 header, Some kind.Boolean)
    else if ends_with nat_eq header (codes ":text") then (without_suffix 5 header, Some kind.Utf8)
    else (header, None)

-- a column was found whose slots are what these texts mean, unless one of them means nothing
abbrev pub FindsSlots : {X V : Type 0} → (List ℕ → Option X) → (V → List (Option X)) → List (Option (List ℕ)) → Option V
    → Type 0
FindsSlots meaning slots texts found = MatchOption found (list_all (λ slot. is_some (slot_as meaning slot)) texts ≡ false)
    (λ column. map Some (slots column) ≡ map (slot_as meaning) texts)
