-- How the transition of tests follows from what a call says of them, and what the test of texts costs.
use Rattle.std.proofs.Common.{◌≡◌, ◌∙◌, ℕ, ℤ, Bool, true, false, not, ◌||◌, is_none, List, [], map, option_map}
use Rattle.std.proofs.Common.{unsigned_abs, unwrap_or, IfSome, IfOk, IfErr, Option, Some, None, Result, Ok, Err, refl}
use Rattle.std.proofs.Common.{sym, ap, subst, subst₂, inl, inr}
use Rattle.std.specs.Prelude.{⊤}
use Rattle.arrow_types.specs.Types.{LogicalType, Refusal, refusal, out_of_spec, out_of_memory}
use Rattle.arrow_types.specs.declared.error.Error.{Error}
use Rattle.arrow_types.specs.declared.error.Error.TheVariants as error
use Rattle.arrow_types.specs.declared.physical_type.PhysicalType.{PhysicalType}
use Rattle.arrow_column.specs.Validation.{Tests, accept, test, Passes, IsFirstFailure}
use Rattle.arrow_column.specs.Column.{Column, column_of_parts}
use Rattle.arrow_memory.specs.Marks.{bits_past_bytes}
use Rattle.arrow_memory.specs.Offsets.{first_fault}
use Rattle.arrow_check.specs.Pieces.{items_of}
use Rattle.arrow_check.specs.Reading.{Cost}
use Rattle.arrow_bytes.specs.Column.{ByteColumn, byte_column}
use Rattle.arrow_bytes.specs.Kinds.{BuilderCosts, Costs}
use Rattle.arrow_bytes.specs.Pieces.{around_of, nothing_around}
use Rattle.arrow_primitive.specs.Fits as primitive
use Rattle.arrow_model.specs.declared.command.Bits.{Bits}
use Rattle.arrow_model.specs.declared.kind.Kind.{Kind}
use Rattle.arrow_model.specs.declared.kind.Kind.TheVariants as kind
use Rattle.arrow_model.specs.Answer.{not_met, is_memory, is_not_met}
use Rattle.arrow_entry.specs.Entry.{native_value, boolean_value, bytes_value}
use Rattle.arrow_model.specs.Value.{Value, Types, layout}
use Rattle.arrow_model.specs.Item.{value, bit, bytes_item}
use Rattle.arrow_model.specs.Kind.{Group, frozen, with_nulls, values_alone, native, boolean, var_binary, shape, shaped}
use Rattle.arrow_model.specs.Kind.{is_frozen, is_var_binary, is_text, is_values_alone}
use Rattle.arrow_model.specs.Request.{Packed, make, packed, parts, cut_pieces}
use Rattle.arrow_model.specs.Request as given
use Rattle.arrow_model.specs.Parts.{BitsFit, PartsCost, PartsTransition, accepted, bits_test, boolean_tests, marks_in}
use Rattle.arrow_model.specs.Parts.{offsets_test, pieces_tests, wrong_type_of}
use Rattle.arrow_model.specs.Transition.{memory}
use Rattle.arrow_creation.specs.Outcome.{BuiltBy, IsKindOf, built_answer, pieces_fit}
use Rattle.arrow_entry.proofs.CallerLemmas.{parts-seen}

-- a call says that what it made passed all tests, or else which is the first that failed
pub record Says {A : Type 0} (tests : Tests) (column : A) (result : Result A Error) : Type 0 where
  pub ok : IfOk result (λ a. Passes tests × (a ≡ column))
  pub err : IfErr result (λ e. IsFirstFailure tests (refusal e))

-- a test before these that is passed
pub after : {A : Type 0} (P : Type 0) (why : Refusal) (tests : Tests) (column : A) (result : Result A Error) → P
    → Says tests column result → Says (test P why tests) column result
after P why tests column (Ok a) p says = record { ok = ((p, says.ok.0), says.ok.1); err = tt }
after P why tests column (Err e) p says = record { ok = tt; err = (λ no. absurd (no p), λ _. says.err) }

module _ {T : Type 0} (v : Value T) (tests : Tests) where
  -- then the transition of these tests holds
  pub said-transition : {A : Type 0} (shown : A → Value T) (column : A) (result : Result A Error) → shown column ≡ v
      → Says tests column result → BuiltBy shown result (memory None (accepted tests v))
  said-transition shown column (Ok a) is says = inl (says.ok.0, (refl, ap Some (ap shown says.ok.1 ∙ is)))
  said-transition shown column (Err (error.OutOfSpec text)) is says = inr (out_of_spec text.now, says.err, (refl, refl))
  said-transition shown column (Err error.Overflow) is says = inr (refusal error.Overflow, says.err, (refl, refl))
  said-transition shown column (Err error.OutOfMemory) is says = refl

-- native values and booleans of parts: what `try_new` says of the tests makes their transition
module _ {T : Type 0} (c : Types T) (group : Group) (t : LogicalType) (mask : Option Packed)
    (marks : Option (List Bool)) (fit : IfSome mask BitsFit) (is-marks : marks ≡ option_map marks_in mask) where
  pub values-made : (xs values : List T) (result : Result (Column T) Error) → values ≡ xs
      → Says (primitive.parts_tests c.primitive t values marks) (column_of_parts t values marks) result
      → BuiltBy (native_value group) result (PartsTransition c (shaped group native) t mask (given.values xs))
  values-made xs values result is-values says =
      let tests = primitive.parts_tests c.primitive t values marks in
      let v : Value T = native_value group (column_of_parts t values marks) in
      let whole : BuiltBy (native_value group) result (memory None (accepted (bits_test mask tests) v)) =
      said-transition v (bits_test mask tests) (native_value group) (column_of_parts t values marks) result refl
      (after (IfSome mask BitsFit) bits_past_bytes tests (column_of_parts t values marks) result fit says) in
      rw (← is-values, ← is-marks, ← parts-seen {T = T} (λ _. nothing_around) value t tt values marks) whole

  pub bits-made : (p : Packed) (values : List Bool) (result : Result (Column Bool) Error) → BitsFit p
      → values ≡ marks_in p → Says (boolean_tests group t values marks) (column_of_parts t values marks) result
      → BuiltBy (boolean_value group) result (PartsTransition c (shaped group boolean) t mask (packed p))
  bits-made p values result fits is-values says =
      let tests = boolean_tests group t values marks in
      let column = column_of_parts t values marks in
      let v : Value T = boolean_value group column in
      let whole : BuiltBy (boolean_value group) result
      (memory None (accepted (bits_test (Some p) (bits_test mask tests)) v)) =
      said-transition v (bits_test (Some p) (bits_test mask tests)) (boolean_value group) column result refl
      (after (IfSome (Some p) BitsFit) bits_past_bytes (bits_test mask tests) column result fits
      (after (IfSome mask BitsFit) bits_past_bytes tests column result fit says)) in
      rw (← is-values, ← is-marks, ← parts-seen {T = T} (λ _. nothing_around) bit t tt values marks) whole

-- of what is cut out of bytes it is known which kind it is
pieces-sort : (group : Group) (text : Bool) → is_var_binary (shaped group (var_binary text)) ≡ true
pieces-sort group true = refl
pieces-sort group false = refl

text-sort : (group : Group) (text : Bool) → is_text (shaped group (var_binary text)) ≡ text
text-sort group true = refl
text-sort group false = refl

-- no test fails since an allocation fails
abbrev NoMemory : Tests → Type 0
NoMemory accept = ⊤
NoMemory (test P why tests) = (why ≡ out_of_memory → ⊥) × NoMemory tests

never : (tests : Tests) → NoMemory tests → IsFirstFailure tests out_of_memory → ⊥
never accept other fails = fails
never (test P why tests) other fails = other.0 (sym (fails.0 (λ p. never tests other.1 (fails.1 p))))

not-memory : (T : Type 0) {A : Type 0} (tests : Tests) (column : A) (result : Result A Error) → NoMemory tests
    → Says tests column result → is_memory (built_answer {T = T} result) ≡ false
not-memory T tests column (Ok a) other says = refl
not-memory T tests column (Err (error.OutOfSpec text)) other says = refl
not-memory T tests column (Err error.Overflow) other says = refl
not-memory T tests column (Err error.OutOfMemory) other says = absurd (never tests other says.err)

wrong-other : (text is_frozen : Bool) → wrong_type_of (var_binary text) is_frozen ≡ out_of_memory → ⊥
wrong-other true true e = cc
wrong-other true false e = cc
wrong-other false true e = cc
wrong-other false false e = cc

spec-other : (text : List ℕ) → out_of_spec text ≡ out_of_memory → ⊥
spec-other text e = cc

pieces-other : {T : Type 0} (c : Types T) (group : Group) (text : Bool) (t : LogicalType) (offsets bytes : List ℕ)
    (marks : Option (List Bool)) → NoMemory (pieces_tests c group text t offsets bytes marks)
pieces-other c frozen text t offsets bytes marks =
    (spec-other _, (spec-other _, (spec-other _, (wrong-other text true, tt))))
pieces-other c with_nulls text t offsets bytes marks =
    (spec-other _, (spec-other _, (wrong-other text false, (spec-other _, tt))))
pieces-other c values_alone text t offsets bytes marks = (spec-other _, (spec-other _, (wrong-other text false, tt)))

met : (T : Type 0) {A : Type 0} (result : Result A Error) → is_not_met (built_answer {T = T} result) ≡ false
met T (Ok a) = refl
met T (Err e) = refl

-- bytes and texts of parts: what `try_new_counted` says of the tests makes their transition, and its answer is not want of
-- memory
module _ {T : Type 0} (c : Types T) (group : Group) (text : Bool) (t : LogicalType) (mask : Option Packed)
    (marks : Option (List Bool)) (numbers : List ℤ) (raw_bytes offsets bytes : List ℕ)
    (fit : IfSome mask BitsFit) (is-marks : marks ≡ option_map marks_in mask) (legal : first_fault numbers ≡ None)
    (is-offsets : offsets ≡ map unsigned_abs numbers) (is-bytes : bytes ≡ raw_bytes)
    (result : Result ByteColumn Error) (says : Says (pieces_tests c group text t offsets bytes marks)
    (byte_column t offsets bytes marks) result) where
  pub pieces-made : (not (is_values_alone (shaped group (var_binary text))) || is_none mask) ≡ true
      → BuiltBy (bytes_value group text) result
      (PartsTransition c (shaped group (var_binary text)) t mask (cut_pieces numbers raw_bytes))
  pieces-made unmasked =
      let tests = pieces_tests c group text t offsets bytes marks in
      let column = byte_column t offsets bytes marks in
      let v : Value T = bytes_value group text column in
      let whole : BuiltBy (bytes_value group text) result
      (memory None (accepted (offsets_test numbers (bits_test mask tests)) v)) =
      said-transition v (offsets_test numbers (bits_test mask tests)) (bytes_value group text) column result refl
      (after (first_fault numbers ≡ None) (out_of_spec (unwrap_or (first_fault numbers) [])) (bits_test mask tests)
      column result legal
      (after (IfSome mask BitsFit) bits_past_bytes tests column result fit says)) in
      rw (
        pieces-sort group text,
        unmasked,
        text-sort group text,
        ← is-offsets,
        ← is-bytes,
        ← is-marks,
        ← parts-seen {T = T} (λ around. around) (bytes_item text) t (around_of offsets bytes) (items_of offsets bytes)
            marks,
      ) whole

  is-tested : is_memory (built_answer {T = T} result) ≡ false
  is-tested = not-memory T (pieces_tests c group text t offsets bytes marks) (byte_column t offsets bytes marks)
      result (pieces-other c group text t offsets bytes marks) says

  pub array-cost : {old new : Cost} → is_frozen (shaped group (var_binary text)) ≡ true
      → Costs text offsets bytes old new
      → PartsCost {T = T} (shaped group (var_binary text)) mask numbers raw_bytes (built_answer result) old new
  array-cost {old} {new} array costs =
      let of-text = subst (λ b. Costs b offsets bytes old new) (sym (text-sort group text)) costs in
      let of-parts = subst (λ n. Costs (is_text (shaped group (var_binary text))) n bytes old new) is-offsets of-text in
      let of-raw = subst (λ b. Costs (is_text (shaped group (var_binary text))) (map unsigned_abs numbers) b old new)
      is-bytes of-parts in
      (λ _. rw array of-raw, λ not. absurd (not (met T result, is-tested, legal, fit)))

  pub builder-cost : {old new : Cost} → is_frozen (shaped group (var_binary text)) ≡ false
      → BuilderCosts text offsets bytes old new
      → PartsCost {T = T} (shaped group (var_binary text)) mask numbers raw_bytes (built_answer result) old new
  builder-cost {old} {new} grows costs =
      let of-text = subst (λ b. BuilderCosts b offsets bytes old new) (sym (text-sort group text)) costs in
      let of-parts = subst (λ n. BuilderCosts (is_text (shaped group (var_binary text))) n bytes old new) is-offsets
      of-text in
      let of-raw = subst (λ b. BuilderCosts (is_text (shaped group (var_binary text))) (map unsigned_abs numbers) b old
      new) is-bytes of-parts in
      (λ _. rw grows of-raw, λ not. absurd (not (met T result, is-tested, legal, fit)))

-- what is said of a kind's own layout and refusal is said of those that the table knows
pub of-kind : {T A : Type 0} (c : Types T) (text array : Bool) (lies : PhysicalType) (wrong : Refusal)
    (tests : PhysicalType → Refusal → Tests) (column : A) (result : Result A Error)
    → IsKindOf c (var_binary text) array lies wrong → Says (tests lies wrong) column result
    → Says (tests (layout c (var_binary text)) (wrong_type_of (var_binary text) array)) column result
of-kind c text array lies wrong tests column result of-sort says =
    subst₂ (λ (lies : PhysicalType) (wrong : Refusal). Says (tests lies wrong) column result) of-sort.0 of-sort.1 says

-- other kinds than those of bytes and text are not made of offsets and bytes
pub unfit-pieces : (k : Kind) (mask : Option Bits)
    → (k ≡ kind.Binary → ⊥) → (k ≡ kind.Utf8 → ⊥) → (k ≡ kind.MutableBinary → ⊥) → (k ≡ kind.MutableUtf8 → ⊥)
    → (k ≡ kind.BinaryValues → ⊥) → (k ≡ kind.Utf8Values → ⊥) → false ≡ pieces_fit (shape k) mask
unfit-pieces kind.Primitive mask a b d e f g = refl
unfit-pieces kind.Boolean mask a b d e f g = refl
unfit-pieces kind.MutablePrimitive mask a b d e f g = refl
unfit-pieces kind.MutableBoolean mask a b d e f g = refl
unfit-pieces kind.Binary mask a b d e f g = absurd (a refl)
unfit-pieces kind.Utf8 mask a b d e f g = absurd (b refl)
unfit-pieces kind.MutableBinary mask a b d e f g = absurd (d refl)
unfit-pieces kind.MutableUtf8 mask a b d e f g = absurd (e refl)
unfit-pieces kind.BinaryValues mask a b d e f g = absurd (f refl)
unfit-pieces kind.Utf8Values mask a b d e f g = absurd (g refl)

-- of other kinds than those of bytes and text the condition fails
pub unmet-pieces : {T : Type 0} (c : Types T) (k : Kind) (t : LogicalType) (mask : Option Packed) (numbers : List ℤ)
    (raw_bytes : List ℕ)
    → (k ≡ kind.Binary → ⊥) → (k ≡ kind.Utf8 → ⊥) → (k ≡ kind.MutableBinary → ⊥) → (k ≡ kind.MutableUtf8 → ⊥)
    → (k ≡ kind.BinaryValues → ⊥) → (k ≡ kind.Utf8Values → ⊥)
    → PartsTransition c (shape k) t mask (cut_pieces numbers raw_bytes) not_met None
unmet-pieces c kind.Primitive t mask numbers raw_bytes a b d e f g = (refl, refl)
unmet-pieces c kind.Boolean t mask numbers raw_bytes a b d e f g = (refl, refl)
unmet-pieces c kind.MutablePrimitive t mask numbers raw_bytes a b d e f g = (refl, refl)
unmet-pieces c kind.MutableBoolean t mask numbers raw_bytes a b d e f g = (refl, refl)
unmet-pieces c kind.Binary t mask numbers raw_bytes a b d e f g = absurd (a refl)
unmet-pieces c kind.Utf8 t mask numbers raw_bytes a b d e f g = absurd (b refl)
unmet-pieces c kind.MutableBinary t mask numbers raw_bytes a b d e f g = absurd (d refl)
unmet-pieces c kind.MutableUtf8 t mask numbers raw_bytes a b d e f g = absurd (e refl)
unmet-pieces c kind.BinaryValues t mask numbers raw_bytes a b d e f g = absurd (f refl)
unmet-pieces c kind.Utf8Values t mask numbers raw_bytes a b d e f g = absurd (g refl)
