-- What the code of a command that fills an entry answers by its result, and what it leaves in the entry.
use Rattle.std.specs.Prelude.{◌≡◌, ⊤, ℕ, ℤ, Bool, not, ◌&&◌, ◌||◌, List, [], ◌∷◌, map, Option, Some, None, option_map}
use Rattle.std.specs.Prelude.{is_none, Result, Ok, Err, IfSome, IfOk, MatchOption}
use Rattle.arrow_types.specs.Types.{Refusal, refusal, out_of_spec, logical_type}
use Rattle.arrow_types.specs.declared.data_type.DataType.{DataType}
use Rattle.arrow_types.specs.declared.error.Error.{Error}
use Rattle.arrow_types.specs.declared.error.Error.TheVariants as error
use Rattle.arrow_types.specs.declared.physical_type.PhysicalType.{PhysicalType}
use Rattle.arrow_column.specs.Column.{Column}
use Rattle.arrow_bytes.specs.Column.{ByteColumn}
use Rattle.arrow_memory.specs.Marks.{bits_past_bytes}
use Rattle.arrow_memory.specs.Offsets.{first_fault}
use Rattle.arrow_check.specs.Reading.{Cost}
use Rattle.arrow_entry.specs.declared.entry.Entry.{Entry}
use Rattle.arrow_entry.specs.Entry.{value_of, value_in, state_of, native_value, boolean_value, bytes_value, EntriesStep}
use Rattle.arrow_model.specs.declared.command.Bits.{Bits}
use Rattle.arrow_model.specs.declared.command.Parts.{Parts}
use Rattle.arrow_model.specs.declared.kind.Kind.{Kind}
use Rattle.arrow_model.specs.Answer.{Answer, done, not_met, refused, answer_of}
use Rattle.arrow_model.specs.Kind.{Group, frozen, with_nulls, values_alone, ValueKind, native, boolean, var_binary, Shape}
use Rattle.arrow_model.specs.Kind.{shape, shaped, is_native, is_boolean, is_var_binary, is_values_alone}
use Rattle.arrow_model.specs.Parts.{BitsFit, PartsTransition, PartsCost, wrong_type_of}
use Rattle.arrow_model.specs.Request.{Packed, RawValues, Source, packed, packed_bits, cut_pieces, make, source_of}
use Rattle.arrow_model.specs.Request.{given_by, parts_request}
use Rattle.arrow_model.specs.Request as ask
use Rattle.arrow_model.specs.Run.{CostsAtMost}
use Rattle.arrow_model.specs.Step.{AtEntry, IntoEmpty, Makes}
use Rattle.arrow_model.specs.Transition.{Transition}
use Rattle.arrow_model.specs.Value.{Value, State, Types, NativeMembers, OffsetMembers, types_of, layout}

-- the answer of a command that makes an entry: `None` where its condition fails
abbrev pub made_answer : {T O : Type 0} → Result (Option (Entry T O)) Error → Answer T
made_answer (Ok (Some made)) = done
made_answer (Ok None) = not_met
made_answer (Err e) = refused (refusal e)

-- what then stands in the entry, which was empty
abbrev pub made_entry : {T O : Type 0} → Result (Option (Entry T O)) Error → Option (Value T)
made_entry (Ok (Some made)) = Some (value_of made)
made_entry (Ok None) = None
made_entry (Err e) = None

-- the transition holds of what was made
abbrev pub MadeBy : {T O : Type 0} → Result (Option (Entry T O)) Error → Transition T → Type 0
MadeBy result transition = transition (made_answer result) (made_entry result)

-- the same of a call whose condition is known to hold, and of an array or a builder of one kind, which is
-- seen as a value
module _ {T A : Type 0} where
  abbrev pub built_answer : Result A Error → Answer T
  built_answer (Ok made) = done
  built_answer (Err e) = refused (refusal e)

  abbrev pub built_value : (A → Value T) → Result A Error → Option (Value T)
  built_value value (Ok made) = Some (value made)
  built_value value (Err e) = None

  abbrev pub BuiltBy : (A → Value T) → Result A Error → Transition T → Type 0
  BuiltBy value result transition = transition (built_answer result) (built_value value result)

-- an entry is made that is this value
abbrev pub IfMade : {T O : Type 0} → Result (Entry T O) Error → Value T → Type 0
IfMade result v = IfOk result (λ made. value_of made ≡ v)

-- what is made of the entries is put into the one of this number, which has to be empty
abbrev pub PutsAt : {T O : Type 0} → ℕ → (State T → Transition T) → List (Option (Entry T O)) → Answer T
    → List (Option (Entry T O)) → Type 0
PutsAt e transition old answer new =
    AtEntry (state_of old) e (IntoEmpty (transition (state_of old))) answer (state_of new)

-- raw parts fit a kind: the raw values are of its value kind, and a builder of values alone has no mask
abbrev pub pieces_fit : Shape → Option Bits → Bool
pieces_fit s mask = is_var_binary s && (not (is_values_alone s) || is_none mask)

abbrev pub raw_fits : {T : Type 0} → Shape → Option Bits → RawValues T → Bool
raw_fits s mask (ask.values xs) = is_native s
raw_fits s mask (packed p) = is_boolean s
raw_fits s mask (cut_pieces numbers bytes) = pieces_fit s mask

abbrev pub parts_fit : {T O : Type 0} → (O → ℤ) → Parts T O → Bool
parts_fit number parts = raw_fits (shape parts.kind) parts.mask (given_by number parts.raw)

-- what comes of a source for a kind; of raw parts, which name theirs; of these put into an entry, which has to be empty,
-- or into the one of this number; and of parts of a kind that is given
module _ {T O : Type 0} (natives : NativeMembers T) (offset : OffsetMembers O) where
  abbrev pub MakesKind : Kind → Source T → Transition T
  MakesKind kind = Makes (types_of natives offset) (shape kind)

  abbrev pub MakesParts : Parts T O → Transition T
  MakesParts parts = MakesKind parts.kind (source_of offset.number parts)

  abbrev pub PutsParts : Parts T O → Option (Entry T O) → Answer T → Option (Entry T O) → Type 0
  PutsParts parts old answer new = IntoEmpty (MakesParts parts) (value_in old) answer (value_in new)

  abbrev pub PartsStep : ℕ → Parts T O → List (Option (Entry T O)) → Answer T → List (Option (Entry T O)) → Type 0
  PartsStep e parts = EntriesStep natives offset (parts_request offset.number e parts)

  module _ (t : DataType) (mask : Option Bits) where
    abbrev pub FromParts : Shape → RawValues T → Transition T
    FromParts s = PartsTransition (types_of natives offset) s (logical_type t) (option_map packed_bits mask)

    abbrev pub FromPieces : Shape → List O → List ℕ → Transition T
    FromPieces s offsets bytes = FromParts s (cut_pieces (map offset.number offsets) bytes)

    abbrev pub NativeFromParts : Group → List T → Result (Column T) Error → Type 0
    NativeFromParts group values result =
        BuiltBy (native_value group) result (FromParts (shaped group native) (ask.values values))

    abbrev pub BooleanFromParts : Group → Bits → Result (Column Bool) Error → Type 0
    BooleanFromParts group values result =
        BuiltBy (boolean_value group) result (FromParts (shaped group boolean) (packed (packed_bits values)))

    abbrev pub BytesFromParts : Group → Bool → List O → List ℕ → Result ByteColumn Error → Type 0
    BytesFromParts group is_text offsets bytes result =
        BuiltBy (bytes_value group is_text) result (FromPieces (shaped group (var_binary is_text)) offsets bytes)

-- what the test of text among raw parts costs
module _ {T O : Type 0} (natives : NativeMembers T) (offset : OffsetMembers O) where
  abbrev pub PiecesCost : Shape → Option Bits → List O → List ℕ → Answer T → Cost → Cost → Type 0
  PiecesCost s mask offsets bytes = PartsCost s (option_map packed_bits mask) (map offset.number offsets) bytes

  abbrev pub PiecesCostAtMost : Shape → DataType → Option Bits → List O → List ℕ → Cost → Cost → Type 0
  PiecesCostAtMost s t mask offsets bytes =
      let raw : RawValues T = cut_pieces (map offset.number offsets) bytes in
      CostsAtMost (make 0 s (ask.parts (logical_type t) raw (option_map packed_bits mask)) ∷ [])

  abbrev pub BytesCost : Group → Bool → Option Bits → List O → List ℕ → Result ByteColumn Error → Cost → Cost → Type 0
  BytesCost group is_text mask offsets bytes result =
      PiecesCost (shaped group (var_binary is_text)) mask offsets bytes (built_answer result)

  abbrev pub BytesCostAtMost : Group → Bool → DataType → Option Bits → List O → List ℕ → Cost → Cost → Type 0
  BytesCostAtMost group is_text = PiecesCostAtMost (shaped group (var_binary is_text))

-- why a call was refused, unless for memory
abbrev pub UnlessMemory : Error → Type 0 → Type 0
UnlessMemory (error.OutOfSpec text) P = P
UnlessMemory error.Overflow P = P
UnlessMemory error.OutOfMemory P = ⊤

-- bits, where there are any, are refused since they are past their bytes, unless for memory
abbrev pub RejectedBits : Option Packed → Error → Type 0
RejectedBits bits e = UnlessMemory e ((IfSome bits BitsFit → ⊥) × (refusal e ≡ bits_past_bytes))

-- offsets are refused since they are at fault, unless for memory
abbrev pub RejectedOffsets : List ℤ → Error → Type 0
RejectedOffsets numbers e = UnlessMemory e (MatchOption (first_fault numbers) ⊥ (λ fault. refusal e ≡ out_of_spec fault))

-- vectors are refused since the offsets are at fault, or else the mask's bits are past their bytes, unless for memory
abbrev pub RejectedParts : Option Packed → List ℤ → Error → Type 0
RejectedParts mask numbers e =
    UnlessMemory e
    (MatchOption (first_fault numbers) ((IfSome mask BitsFit → ⊥) × (refusal e ≡ bits_past_bytes))
    (λ fault. refusal e ≡ out_of_spec fault))

-- the physical type of a kind, and its refusal of another type, are those of its value kind in the model
abbrev pub IsKindOf : {T : Type 0} → Types T → ValueKind → Bool → PhysicalType → Refusal → Type 0
IsKindOf c sort is_frozen physical wrong = (physical ≡ layout c sort) × (wrong ≡ wrong_type_of sort is_frozen)

-- the group of builder in which the values of a kind are made
abbrev pub builder_group : Group → Group
builder_group frozen = with_nulls
builder_group with_nulls = with_nulls
builder_group values_alone = values_alone

abbrev pub builder_shape : Shape → Shape
builder_shape s = shaped (builder_group s.group) s.value_kind
