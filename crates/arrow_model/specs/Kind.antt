-- The kinds of entry: what they are, and what they store.
use Rattle.std.specs.Prelude.{◌≡◌, Bool, true, false, not, ◌&&◌, ◌||◌}
use Rattle.arrow_model.specs.declared.kind.Kind.{Kind}
use Rattle.arrow_model.specs.declared.kind.Kind.TheVariants as kind

-- a frozen array, a builder with nulls, or a builder of values alone
pub data Group : Type 0 where
  frozen with_nulls values_alone : Group

-- what the slots store: native values, booleans, or bytes, which have to be text or may be any
pub data ValueKind : Type 0 where
  native boolean : ValueKind
  var_binary : (is_text : Bool) → ValueKind

-- a kind is both
pub record Shape : Type 0 where
  pub group : Group
  pub value_kind : ValueKind

abbrev pub shaped : Group → ValueKind → Shape
shaped group sort = record { group = group; value_kind = sort }

abbrev pub shape : Kind → Shape
shape kind.Primitive = shaped frozen native
shape kind.Boolean = shaped frozen boolean
shape kind.Binary = shaped frozen (var_binary false)
shape kind.Utf8 = shaped frozen (var_binary true)
shape kind.MutablePrimitive = shaped with_nulls native
shape kind.MutableBoolean = shaped with_nulls boolean
shape kind.MutableBinary = shaped with_nulls (var_binary false)
shape kind.MutableUtf8 = shaped with_nulls (var_binary true)
shape kind.BinaryValues = shaped values_alone (var_binary false)
shape kind.Utf8Values = shaped values_alone (var_binary true)

-- whether two groups are the same, and whether two value kinds are
abbrev pub same_group : Group → Group → Bool
same_group frozen frozen = true
same_group with_nulls with_nulls = true
same_group values_alone values_alone = true
same_group _ _ = false

abbrev pub same_value_kind : ValueKind → ValueKind → Bool
same_value_kind native native = true
same_value_kind boolean boolean = true
same_value_kind (var_binary true) (var_binary true) = true
same_value_kind (var_binary false) (var_binary false) = true
same_value_kind _ _ = false

abbrev pub same_kind : Shape → Shape → Bool
same_kind s t = same_group s.group t.group && same_value_kind s.value_kind t.value_kind

-- kinds that commands are for
abbrev pub any_kind : Shape → Bool
any_kind s = true

abbrev pub is_frozen : Shape → Bool
is_frozen s = same_group s.group frozen

abbrev pub is_nullable : Shape → Bool
is_nullable s = same_group s.group with_nulls

abbrev pub is_values_alone : Shape → Bool
is_values_alone s = same_group s.group values_alone

abbrev pub is_builder : Shape → Bool
is_builder s = is_nullable s || is_values_alone s

abbrev pub is_native : Shape → Bool
is_native s = same_value_kind s.value_kind native

abbrev pub is_boolean : Shape → Bool
is_boolean s = same_value_kind s.value_kind boolean

abbrev pub is_var_binary : Shape → Bool
is_var_binary s = not (is_native s || is_boolean s)

abbrev pub is_text : Shape → Bool
is_text s = same_value_kind s.value_kind (var_binary true)

-- kinds whose stored values are read one by one; whose mask is replaced; and whose mask is changed
abbrev pub reads_values : Shape → Bool
reads_values s = is_frozen s || (is_values_alone s || (is_nullable s && is_text s))

abbrev pub sets_mask : Shape → Bool
sets_mask s = is_frozen s || (is_nullable s && not (is_boolean s))

abbrev pub applies_mask : Shape → Bool
applies_mask s = is_frozen s || (is_nullable s && is_var_binary s)

-- a kind that there is: only bytes and texts have builders of values alone
abbrev pub IsKind : Shape → Type 0
IsKind s = is_values_alone s ≡ true → is_var_binary s ≡ true
