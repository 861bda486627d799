-- The lines of the program's input: how each is read, and which request it makes.
use Rattle.std.specs.Prelude.{ℕ, ◌+◌, Bool, not, ◌&&◌, ◌||◌, ◌==◌, nat_le, codes, if◌then◌else◌, List, [], ◌∷◌}
use Rattle.std.specs.Prelude.{◌++◌, ℤ, pos, Option, Some, None, option_and_then, option_map, bytes_eq, is_some}
use Rattle.std.specs.Prelude.{filter, filter_map, length, position}
use Rattle.arrow_types.specs.declared.primitive_type.PrimitiveType.TheVariants.{Int64}
use Rattle.arrow_model.specs.Both.{BothRequest, narrow, wide, widen, narrow_to, narrow_types, wide_types}
use Rattle.arrow_model.specs.Value.{Types, default_type, types}
use Rattle.arrow_model.specs.Kind.{shape}
use Rattle.arrow_model.specs.Request as ask
use Rattle.arrow_model.specs.Request.{Request, make, at, clone_to, extend_from, equal, filter_to, take_to}
use Rattle.arrow_model.specs.Request.{check_indexes}
use Rattle.arrow_syntax.specs.Fields.{parse_kind, parse_type, parse_item, parse_slot, parse_mask, parse_turn}
use Rattle.arrow_syntax.specs.Fields.{parse_change, parse_parts}
use Rattle.arrow_syntax.specs.Readers.{Reader, lookup, no_words, only, each, ◌▸◌, next, map_read}
use Rattle.arrow_syntax.specs.Words.{line_feed, lines_of, space, words_of, is_passed_over, is_printable}
use Rattle.arrow_syntax.specs.Words.{parse_usize, parse_i64, parse_i32}

-- a line: its name, and the request that a number behind the name and then further words make; the number is most
-- often that of an entry
abbrev pub Line : Type 0
Line = List ℕ × (ℕ → Reader (Request ℤ))

-- ---- lines that make a value in an empty entry

abbrev pub new_line : ℕ → Reader (Request ℤ)
new_line e = map_read (only parse_kind) (λ kind. make e (shape kind) ask.nothing)

-- with the default type of the kind among these types
abbrev pub null_line : Types ℤ → ℕ → Reader (Request ℤ)
null_line c e =
    map_read (parse_kind ▸ only parse_usize) (λ (kind, n).
    make e (shape kind) (ask.nulls (default_type c (shape kind).value_kind) n))

-- over offsets that are read so
abbrev pub parts_line : (List ℕ → Option ℤ) → ℕ → Reader (Request ℤ)
parts_line offset e = map_read (parse_parts offset) (λ (s, (t, (mask, raw))). make e s (ask.parts t raw mask))

abbrev pub slots_line : ℕ → Reader (Request ℤ)
slots_line e = map_read (parse_kind ▸ each parse_slot) (λ (kind, slots). make e (shape kind) (ask.slots slots))

abbrev pub items_line : ℕ → Reader (Request ℤ)
items_line e = map_read (parse_kind ▸ each parse_item) (λ (kind, items). make e (shape kind) (ask.items items))

unfoldable pub create_lines : Types ℤ → (List ℕ → Option ℤ) → List Line
create_lines c offset =
    (codes "new", new_line)
    ∷ (codes "null", null_line c)
    ∷ (codes "parts", parts_line offset)
    ∷ (codes "slots", slots_line)
    ∷ (codes "items", items_line)
    ∷ []

-- ---- lines that read a value

abbrev pub len_line : ℕ → Reader (Request ℤ)
len_line e = no_words (at e ask.len)

abbrev pub value_line : ℕ → Reader (Request ℤ)
value_line e = map_read (only parse_usize) (λ i. at e (ask.value i))

abbrev pub get_line : ℕ → Reader (Request ℤ)
get_line e = map_read (only parse_usize) (λ i. at e (ask.get i))

abbrev pub is_null_line : ℕ → Reader (Request ℤ)
is_null_line e = map_read (only parse_usize) (λ i. at e (ask.is_null i))

abbrev pub nulls_line : ℕ → Reader (Request ℤ)
nulls_line e = no_words (at e ask.null_count)

abbrev pub list_line : ℕ → Reader (Request ℤ)
list_line e = no_words (at e ask.all_slots)

abbrev pub turns_line : ℕ → Reader (Request ℤ)
turns_line e = map_read (each parse_turn) (λ turns. at e (ask.turns turns))

abbrev pub type_line : ℕ → Reader (Request ℤ)
type_line e = no_words (at e ask.type_of)

abbrev pub held_line : ℕ → Reader (Request ℤ)
held_line e = no_words (at e ask.held)

abbrev pub bytes_line : ℕ → Reader (Request ℤ)
bytes_line e = no_words (at e ask.bytes)

abbrev pub offsets_line : ℕ → Reader (Request ℤ)
offsets_line e = no_words (at e ask.offsets)

unfoldable pub read_lines : List Line
read_lines =
    (codes "len", len_line)
    ∷ (codes "value", value_line)
    ∷ (codes "get", get_line)
    ∷ (codes "isnull", is_null_line)
    ∷ (codes "nulls", nulls_line)
    ∷ (codes "list", list_line)
    ∷ (codes "turns", turns_line)
    ∷ (codes "type", type_line)
    ∷ (codes "held", held_line)
    ∷ (codes "bytes", bytes_line)
    ∷ (codes "offsets", offsets_line)
    ∷ []

-- ---- lines that cut, copy and change a value

abbrev pub slice_line : ℕ → Reader (Request ℤ)
slice_line e = map_read (parse_usize ▸ only parse_usize) (λ (a, n). at e (ask.slice a n))

abbrev pub clone_line : ℕ → Reader (Request ℤ)
clone_line e = map_read (only parse_usize) (λ f. clone_to e f)

abbrev pub drop_line : ℕ → Reader (Request ℤ)
drop_line e = no_words (at e ask.empty)

abbrev pub mask_line : ℕ → Reader (Request ℤ)
mask_line e = map_read (only parse_mask) (λ mask. at e (ask.set_mask mask))

abbrev pub apply_mask_line : ℕ → Reader (Request ℤ)
apply_mask_line e = map_read parse_change (λ change. at e (ask.apply_mask change))

abbrev pub values_line : ℕ → Reader (Request ℤ)
values_line e = map_read (each parse_item) (λ items. at e (ask.set_values items))

abbrev pub apply_values_line : ℕ → Reader (Request ℤ)
apply_values_line e = map_read parse_change (λ change. at e (ask.apply_values change))

abbrev pub set_line : ℕ → Reader (Request ℤ)
set_line e = map_read (parse_usize ▸ only parse_slot) (λ (i, slot). at e (ask.set i slot))

abbrev pub write_line : ℕ → Reader (Request ℤ)
write_line e = map_read (parse_usize ▸ only parse_item) (λ (i, item). at e (ask.write i item))

unfoldable pub change_lines : List Line
change_lines =
    (codes "slice", slice_line)
    ∷ (codes "clone", clone_line)
    ∷ (codes "drop", drop_line)
    ∷ (codes "mask", mask_line)
    ∷ (codes "applymask", apply_mask_line)
    ∷ (codes "values", values_line)
    ∷ (codes "applyvalues", apply_values_line)
    ∷ (codes "set", set_line)
    ∷ (codes "write", write_line)
    ∷ []

-- ---- lines that make a builder grow or shrink

abbrev pub push_line : ℕ → Reader (Request ℤ)
push_line e = map_read (only parse_slot) (λ slot. at e (ask.push slot))

abbrev pub push_null_line : ℕ → Reader (Request ℤ)
push_null_line e = no_words (at e ask.push_null)

abbrev pub pop_line : ℕ → Reader (Request ℤ)
pop_line e = no_words (at e ask.pop)

abbrev pub extend_line : ℕ → Reader (Request ℤ)
extend_line e = map_read (each parse_slot) (λ slots. at e (ask.extend slots))

abbrev pub extend_values_line : ℕ → Reader (Request ℤ)
extend_values_line e = map_read (each parse_item) (λ items. at e (ask.extend_values items))

abbrev pub constant_line : ℕ → Reader (Request ℤ)
constant_line e = map_read (parse_usize ▸ only parse_slot) (λ (n, slot). at e (ask.extend_constant n slot))

abbrev pub self_line : ℕ → Reader (Request ℤ)
self_line e = map_read (only parse_usize) (λ f. extend_from e f)

abbrev pub reserve_line : ℕ → Reader (Request ℤ)
reserve_line e = map_read (parse_usize ▸ only parse_usize) (λ _. at e ask.reserve)

abbrev pub shrink_line : ℕ → Reader (Request ℤ)
shrink_line e = no_words (at e ask.shrink)

unfoldable pub grow_lines : List Line
grow_lines =
    (codes "push", push_line)
    ∷ (codes "pushnull", push_null_line)
    ∷ (codes "pop", pop_line)
    ∷ (codes "extend", extend_line)
    ∷ (codes "extendvalues", extend_values_line)
    ∷ (codes "constant", constant_line)
    ∷ (codes "self", self_line)
    ∷ (codes "reserve", reserve_line)
    ∷ (codes "shrink", shrink_line)
    ∷ []

-- ---- lines that convert a value, and lines about two values, about three, and about none

abbrev pub freeze_line : ℕ → Reader (Request ℤ)
freeze_line e = no_words (at e ask.freeze)

abbrev pub thaw_line : ℕ → Reader (Request ℤ)
thaw_line e = no_words (at e ask.thaw)

abbrev pub nullable_line : ℕ → Reader (Request ℤ)
nullable_line e = no_words (at e ask.nullable)

abbrev pub to_line : ℕ → Reader (Request ℤ)
to_line e = map_read (only parse_type) (λ t. at e (ask.to t))

abbrev pub equal_line : ℕ → Reader (Request ℤ)
equal_line e = map_read (only parse_usize) (λ f. equal e f)

abbrev pub filter_line : ℕ → Reader (Request ℤ)
filter_line e = map_read (parse_usize ▸ only parse_usize) (λ (f, g). filter_to e f g)

abbrev pub take_line : ℕ → Reader (Request ℤ)
take_line e = map_read (parse_usize ▸ each parse_i64) (λ (g, keys). take_to e keys g)

-- the number is a length
abbrev pub indexes_line : ℕ → Reader (Request ℤ)
indexes_line n = map_read (each parse_i64) (λ keys. check_indexes keys n)

unfoldable pub convert_lines : List Line
convert_lines =
    (codes "freeze", freeze_line)
    ∷ (codes "thaw", thaw_line)
    ∷ (codes "nullable", nullable_line)
    ∷ (codes "to", to_line)
    ∷ (codes "equal", equal_line)
    ∷ (codes "filter", filter_line)
    ∷ (codes "take", take_line)
    ∷ (codes "indexes", indexes_line)
    ∷ []

-- all lines of one table; the native values are integers of 64 bits
abbrev pub lines : Types ℤ → (List ℕ → Option ℤ) → List Line
lines c offset = create_lines c offset ++ (read_lines ++ (change_lines ++ (grow_lines ++ convert_lines)))

-- the types of a table whose offsets are at most this
abbrev pub types_over : ℕ → Bool → Types ℤ
types_over most is_large = types (pos 0) Int64 most is_large

-- the lines of such a table
abbrev pub lines_over : ℕ → Bool → (List ℕ → Option ℤ) → List Line
lines_over most is_large = lines (types_over most is_large)

-- the lines of the narrow table
unfoldable pub lines_of_narrow_table : List Line
lines_of_narrow_table = lines (narrow_types (pos 0) Int64) parse_i32

-- the lines of the wide table
unfoldable pub lines_of_wide_table : List Line
lines_of_wide_table = lines (wide_types (pos 0) Int64) parse_i64

-- the lines whose names have a length for which p holds
abbrev pub with_length : (ℕ → Bool) → List Line → List Line
with_length p = filter (λ line. p (length line.0))

-- the request of the line of this name, made by the number and the words behind it
unfoldable pub numbered_request : List Line → List ℕ → ℕ → Reader (Request ℤ)
numbered_request known name number words = option_and_then (λ reader. reader number words) (lookup known name)

-- the request of the line of this name, made by the words behind it
unfoldable pub named_request : List Line → List ℕ → Reader (Request ℤ)
named_request known name = next parse_usize (numbered_request known name)

-- the request of the line that these words are
unfoldable pub request_of : List Line → Reader (Request ℤ)
request_of known [] = None
request_of known (name ∷ words) = named_request known name words

-- the lines that copy a value from one table into the other
abbrev pub widen_line : Reader (BothRequest ℤ)
widen_line = map_read (parse_usize ▸ only parse_usize) (λ (e, f). widen e f)

abbrev pub narrow_line : Reader (BothRequest ℤ)
narrow_line = map_read (parse_usize ▸ only parse_usize) (λ (e, f). narrow_to e f)

-- a line of the wide table, behind `wide`
abbrev pub on_wide : Reader (BothRequest ℤ)
on_wide words = option_map wide (request_of lines_of_wide_table words)

-- a line of the narrow table, by its name and the words behind it
abbrev pub on_narrow : List ℕ → Reader (BothRequest ℤ)
on_narrow name words = option_map narrow (named_request lines_of_narrow_table name words)

-- the request of the line that these words are, on the two tables
unfoldable pub parsed_request : Reader (BothRequest ℤ)
parsed_request [] = None
parsed_request (name ∷ words) =
    if bytes_eq name (codes "wide") then on_wide words else (
    if bytes_eq name (codes "widen") then widen_line words else (
    if bytes_eq name (codes "narrow") then narrow_line words else on_narrow name words))

-- a byte that a line may have, or a line feed
abbrev pub is_of_lines : ℕ → Bool
is_of_lines b = (nat_le space b && nat_le b 126) || b == line_feed

-- the request of a line, if it is a command
abbrev pub request_in : List ℕ → Option (BothRequest ℤ)
request_in line = if is_printable line then parsed_request (words_of line) else None

-- whether a line is neither passed over nor a command
abbrev pub is_bad : List ℕ → Bool
is_bad line = not (is_passed_over line) && not (is_some (request_in line))

-- the request of a line, unless it is passed over
abbrev pub line_request : List ℕ → Option (BothRequest ℤ)
line_request line = if is_passed_over line then None else request_in line

-- an input, parsed: its requests, or the number of its first bad line, counted from 1
pub data ParsedInput : Type 0 where
  requests : List (BothRequest ℤ) → ParsedInput
  bad_line : ℕ → ParsedInput

-- the same, by the index of the first bad line
abbrev pub parsed_at : Option ℕ → List (BothRequest ℤ) → ParsedInput
parsed_at None asked = requests asked
parsed_at (Some place) asked = bad_line (place + 1)

-- the requests of an input in order, or the number of its first bad line
unfoldable pub commands_of : List ℕ → ParsedInput
commands_of input = parsed_at (position is_bad (lines_of input)) (filter_map line_request (lines_of input))
