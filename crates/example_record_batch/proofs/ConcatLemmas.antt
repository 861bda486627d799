-- Lemmas about concatenations of arrays and of batches.
use Rattle.std.proofs.Common.{◌≡◌, ℕ, zero, suc, ◌+◌, ◌<◌, Bool, true, false, List, [], ◌∷◌, ◌++◌, length, map, take}
use Rattle.std.proofs.Common.{inl, inr, slice_get, get_or, Some, refl, ap, subst, ◌∙◌, sym, arith}
use Rattle.std.specs.Prelude.{All, IsTrue, flat_map, option_map, sum_by}
use Rattle.std.specs.List.{concat, cons_option, filter_map}
use Rattle.std.proofs.lemmas.Bool.{cases_lt, ltb-true}
use Rattle.std.proofs.lemmas.List.{length-append, length-map, length-take-le, map-append, take_more}
use Rattle.std.proofs.lemmas.Option.{get_or_from_slice_get, none-some, same_Some, slice_get-get_or, slice_get-map}
use Rattle.std.proofs.lemmas.Option.{slice_get_read, slice_get_within}
use Rattle.std.proofs.lemmas.Slice.Eq.{bytes_eq-Decides}
use Rattle.std.specs.Prelude.{string_bytes}
use Rattle.std.specs.String.{string_eq}
use Rattle.dethrugn.specs.TypeEquality.{same_type, same_type-Decides}
use Rattle.std.proofs.lemmas.List.Concat.{length-flat_map}
use Rattle.std.proofs.lemmas.List.Elements.{All-cons, All-head, All-nil, All-tail, All-weaker, filter_map-append}
use Rattle.std.proofs.lemmas.List.Folds.{concat-append}
use Rattle.std.proofs.lemmas.List.Sums.{sum_by-cons}
use Rattle.dethrugn.specs.Validation.{Passes}
use Rattle.dethrugn.specs.Types.{LogicalType, Refusal, out_of_memory, out_of_spec, overflow, refusal}
use Rattle.dethrugn.specs.Error.{Error}
use Rattle.dethrugn.specs.Column.{ColumnWith, refused_growth, stored_values}
use Rattle.dethrugn.specs.ByteColumn.{ByteColumn}
use Rattle.dethrugn.specs.Selection.{Concatenates, concat_overflows}
use Rattle.dethrugn.proofs.CallerLemmas.Types.{all-at}
use Rattle.example_record_batch.specs.declared.any.AnyArray.{AnyArray}
use Rattle.example_record_batch.specs.declared.any.AnyArray.TheVariants.{Int64, Boolean, Binary, Utf8}
use Rattle.example_record_batch.specs.declared.batch.Field.{Field}
use Rattle.example_record_batch.specs.AnyArrays.{cells_of, array_kind, slot_count, array_type}
use Rattle.example_record_batch.specs.Batches.{Batch, HaveRows, IsBatch, Named, batch_of, named}
use Rattle.example_record_batch.specs.Schemas.{NamedType, fields_schema, named_type, schema_of}
use Rattle.example_record_batch.specs.Concatenation.{AreConcats, ArraysFail, ColumnsFail, ConcatFails, HaveKind}
use Rattle.example_record_batch.specs.Concatenation.{IsConcat, IsConcatArray, array_at, arrays_at, concat_tests}
use Rattle.example_record_batch.specs.Concatenation.{fields_kinds, item_bytes, kinds_of, named_kind}
use Rattle.example_record_batch.proofs.IndexLemmas.{get-left, get-map-some, get-right}
use Rattle.example_record_batch.proofs.LawLemmas.{cell-count, cells-concat}

-- the data type of a concatenation
joined-type : {A S : Type 0} (array : ColumnWith A S → AnyArray)
    → ((column : ColumnWith A S) → array_type (array column) ≡ column.data_type)
    → (nothing : A) (columns : List (ColumnWith A S)) (arrays : List AnyArray) (made : ColumnWith A S) (t : LogicalType)
    → map array columns ≡ arrays → Concatenates nothing columns made → All (λ array. array_type array ≡ t) arrays
    → made.data_type ≡ t
joined-type array types nothing [] arrays made t e h each = absurd h
joined-type array types nothing (first ∷ others) arrays made t e h each =
    ap (λ column. column.data_type) h ∙ sym (types first)
    ∙ All-head (λ array. array_type array ≡ t) (array first) (map array others) (subst (All
    (λ array. array_type array ≡ t)) (sym e) each)

pub type-concat : (arrays : List AnyArray) (made : AnyArray) (t : LogicalType) → IsConcatArray arrays made
    → All (λ array. array_type array ≡ t) arrays → array_type made ≡ t
type-concat arrays (Int64 made) t h = joined-type Int64 (λ column. refl) tt h.0 arrays made t h.1 h.2
type-concat arrays (Boolean made) t h = joined-type Boolean (λ column. refl) tt h.0 arrays made t h.1 h.2
type-concat arrays (Binary made) t h = joined-type Binary (λ column. refl) _ h.0 arrays made t h.1 h.2
type-concat arrays (Utf8 made) t h = joined-type Utf8 (λ column. refl) _ h.0 arrays made t h.1 h.2

-- the number of its slots
pub count-concat : (arrays : List AnyArray) (made : AnyArray) → IsConcatArray arrays made
    → slot_count made ≡ sum_by (λ array. length (cells_of array)) arrays
count-concat arrays made h =
    sym (cell-count made) ∙ ap length (cells-concat arrays made h) ∙ length-flat_map cells_of arrays

-- the bytes of the items of several arrays
joined-bytes : (array : ByteColumn → AnyArray)
    → ((column : ByteColumn) → item_bytes (array column) ≡ concat (stored_values column)) → (columns : List ByteColumn)
    → concat (flat_map stored_values columns) ≡ flat_map item_bytes (map array columns)
joined-bytes array bytes [] = refl
joined-bytes array bytes (column ∷ columns) =
    concat-append (stored_values column) (flat_map stored_values columns)
    ∙ (λ i. sym (bytes column) i ++ joined-bytes array bytes columns i)

-- how a concatenation of bytes or text fails
pub bytes-fail : (array : ByteColumn → AnyArray)
    → ((column : ByteColumn) → item_bytes (array column) ≡ concat (stored_values column))
    → (columns : List ByteColumn) (arrays : List AnyArray) (e : Error) → map array columns ≡ arrays
    → e ≡ refused_growth (concat_overflows 2147483647 columns) → ArraysFail arrays (refusal e)
bytes-fail array bytes columns arrays e same why = subst (λ e. ArraysFail arrays (refusal e)) (sym why)
    (by-test (concat_overflows 2147483647 columns) refl)
  where
    by-test : (b : Bool) → concat_overflows 2147483647 columns ≡ b → ArraysFail arrays (refusal (refused_growth b))
    by-test true h =
        subst (λ items. 2147483647 < length items) (joined-bytes array bytes columns ∙ ap (flat_map item_bytes) same)
        (ltb-true 2147483647 (length (concat (flat_map stored_values columns))) h)
    by-test false h = tt

-- what the columns at index k of batches of one schema have in common
pub at-each : {X Y : Type 0} (f : Named → X) (g : AnyArray → Y) (h : X → Y)
    → ((column : Named) → g column.array ≡ h (f column))
    → (xs : List X) (k : ℕ) (x : X) → slice_get xs k ≡ Some x → (batches : List Batch)
    → All (λ batch. map f batch.columns ≡ xs) batches → All (λ array. g array ≡ h x) (arrays_at batches k)
at-each f g h same xs k x at [] each = All-nil (λ array. g array ≡ h x)
at-each f g h same xs k x at (batch ∷ batches) each =
    let rest = at-each f g h same xs k x at batches (All-tail (λ batch. map f batch.columns ≡ xs) batch batches each) in
    let columns = All-head (λ batch. map f batch.columns ≡ xs) batch batches each in
    let w = get-map-some f batch.columns k x (ap (λ ys. slice_get ys k) columns ∙ at) in
    rw w.1 (All-cons (λ array. g array ≡ h x) w.0.array (arrays_at batches k) (same w.0 ∙ ap h (sym w.2)) rest)

-- there is one for each batch, and together they have a slot for each row
pub count-each : {X : Type 0} (f : Named → X) (xs : List X) (k : ℕ) (x : X) → slice_get xs k ≡ Some x
    → (batches : List Batch) → All (λ batch. map f batch.columns ≡ xs) batches
    → length (arrays_at batches k) ≡ length batches
count-each f xs k x at [] each = refl
count-each f xs k x at (batch ∷ batches) each =
    let rest = count-each f xs k x at batches (All-tail (λ batch. map f batch.columns ≡ xs) batch batches each) in
    let columns = All-head (λ batch. map f batch.columns ≡ xs) batch batches each in
    let w = get-map-some f batch.columns k x (ap (λ ys. slice_get ys k) columns ∙ at) in
    rw w.1 (ap suc rest)

pub slots-each : {X : Type 0} (f : Named → X) (xs : List X) (k : ℕ) (x : X) → slice_get xs k ≡ Some x
    → (batches : List Batch) → All (λ batch. map f batch.columns ≡ xs) batches → All IsBatch batches
    → sum_by (λ array. length (cells_of array)) (arrays_at batches k) ≡ sum_by (λ batch. batch.rows) batches
slots-each f xs k x at [] each are = refl
slots-each f xs k x at (batch ∷ batches) each are =
    let rest = slots-each f xs k x at batches (All-tail (λ batch. map f batch.columns ≡ xs) batch batches each)
    (All-tail IsBatch batch batches are) in
    let columns = All-head (λ batch. map f batch.columns ≡ xs) batch batches each in
    let w = get-map-some f batch.columns k x (ap (λ ys. slice_get ys k) columns ∙ at) in
    let long = all-at (λ column. slot_count column.array ≡ batch.rows) batch.columns k w.0
    (All-head IsBatch batch batches are) w.1 in
    rw (
      w.1,
      sum_by-cons (λ array. length (cells_of array)) w.0.array (arrays_at batches k),
      sum_by-cons
          (λ batch. batch.rows) batch batches,
    ) (λ i. (cell-count w.0.array ∙ long) i + rest i)

-- the schema of fields, by index and of one more field
pub get-schema : (fields : List Field) (k : ℕ) (field : Field) → slice_get fields k ≡ Some field
    → slice_get (fields_schema fields) k ≡ Some (named_type (named field))
get-schema fields k field e =
    slice_get-map named_type (map named fields) k
    ∙ ap (option_map named_type) (slice_get-map named fields k ∙ ap (option_map named) e)

pub schema-more : (fields : List Field) (field : Field)
    → fields_schema (fields ++ field ∷ []) ≡ fields_schema fields ++ named_type (named field) ∷ []
schema-more fields field =
    ap (map named_type) (map-append named fields (field ∷ []))
    ∙ map-append named_type (map named fields) (named field ∷ [])

schema-count : (fields : List Field) → length (fields_schema fields) ≡ length fields
schema-count fields = length-map (map named fields) named_type ∙ length-map fields named

pub get-kinds : (fields : List Field) (k : ℕ) (field : Field) → slice_get fields k ≡ Some field
    → slice_get (fields_kinds fields) k ≡ Some (named_kind (named field))
get-kinds fields k field e =
    slice_get-map named_kind (map named fields) k
    ∙ ap (option_map named_kind) (slice_get-map named fields k ∙ ap (option_map named) e)

-- what a test of names and data types decides
pub same-named : (field other : Field) (b : Bool) (s t : LogicalType) → true ≡ string_eq field.name other.name
    → b ≡ same_type s t → s ≡ array_type field.array → t ≡ array_type other.array
    → (IsTrue b → named_type (named field) ≡ named_type (named other))
    × (named_type (named field) ≡ named_type (named other) → IsTrue b)
same-named field other b s t names types first second = (
  λ h.
      let same_names : string_bytes field.name ≡ string_bytes other.name =
      (bytes_eq-Decides (string_bytes field.name) (string_bytes other.name)).0 (sym names) in
      let same_types : array_type field.array ≡ array_type other.array =
      sym first ∙ (same_type-Decides s t).0 (sym types ∙ h) ∙ second in
      λ i. record { name = same_names i; data_type = same_types i },
  λ e. types ∙ (same_type-Decides s t).1 (first ∙ ap (λ column. column.data_type) e ∙ sym second),
)

-- the column at index k of one more batch
pub field-at : (batch : Batch) (fields : List Field) (rows k : ℕ) (field : Field) → batch_of fields rows ≡ batch
    → k < length batch.columns → field ≡ get_or fields k field → array_at k batch ≡ Some field.array
field-at batch fields rows k field e wide is =
    let columns = ap (λ batch. batch.columns) e in
    let low : k < length fields = omega (arith, wide, ap length columns, length-map fields named) in
    ap (λ columns. option_map (λ column. column.array) (slice_get columns k)) (sym columns)
    ∙ ap (option_map (λ column. column.array)) (slice_get-map named fields k ∙ ap (option_map named) (slice_get_read
    fields (length fields) k field refl low is))

pub arrays-more : (batches : List Batch) (k i : ℕ) (batch : Batch) (old new : List AnyArray) (array copy : AnyArray)
    → i < length batches → batch ≡ get_or batches i batch → array_at k batch ≡ Some array
    → old ≡ arrays_at (take i batches) k → new ≡ old ++ copy ∷ [] → copy ≡ array
    → new ≡ arrays_at (take (i + 1) batches) k
arrays-more batches k i batch old new array copy low is at before push same =
    push ∙ (λ j. before j ++ same j ∷ [])
    ∙ sym (ap (filter_map (array_at k)) (take_more batches i batch low ∙ ap (λ x. take i batches ++ x ∷ []) (sym is))
    ∙ filter_map-append (array_at k) (take i batches) (batch ∷ [])
    ∙ ap (λ o. arrays_at (take i batches) k ++ cons_option o []) at)

-- what the columns at index k of batches with the schema and the kinds of fields have in common with the field
module _ (batches : List Batch) (fields : List Field) (k : ℕ) (field : Field) (low : k < length fields)
    (is : field ≡ get_or fields k field) where
  pub at-k : slice_get fields k ≡ Some field
  at-k = slice_get_read fields (length fields) k field refl low is

  pub some-at : All (λ batch. schema_of batch ≡ fields_schema fields) batches → 0 < length batches
      → 0 < length (arrays_at batches k)
  some-at schema some =
      let count = count-each named_type (fields_schema fields) k (named_type (named field))
      (get-schema fields k field at-k) batches schema in
      omega (arith, count)

  pub kind-at : All (λ batch. kinds_of batch ≡ fields_kinds fields) batches
      → HaveKind (arrays_at batches k) (array_kind field.array)
  kind-at kinds =
      at-each named_kind array_kind (λ kind. kind) (λ column. refl) (fields_kinds fields) k (named_kind (named field))
      (get-kinds fields k field at-k) batches kinds

  pub type-at : All (λ batch. schema_of batch ≡ fields_schema fields) batches
      → All (λ array. array_type array ≡ array_type field.array) (arrays_at batches k)
  type-at schema =
      at-each named_type array_type (λ column. column.data_type) (λ column. refl) (fields_schema fields) k
      (named_type (named field)) (get-schema fields k field at-k) batches schema

-- one more column is concatenated
pub concat-more : (batches : List Batch) (fields made : List Field) (k : ℕ) (field new : Field)
    → AreConcats batches (take k fields) made → slice_get fields k ≡ Some field
    → string_bytes new.name ≡ string_bytes field.name
    → All (λ array. array_type array ≡ array_type field.array) (arrays_at batches k)
    → IsConcatArray (arrays_at batches k) new.array
    → AreConcats batches (take (k + 1) fields) (made ++ new ∷ [])
concat-more batches fields made k field new are at names types joined = record {
  schema = schema-more made new ∙ (λ i. are.schema i ++ same_type i ∷ [])
      ∙ sym (ap fields_schema more ∙ schema-more (take k fields) field);
  arrays = arrays;
}
  where
    same_type : named_type (named new) ≡ named_type (named field)
    same_type =
        let same_data_type = type-concat (arrays_at batches k) new.array (array_type field.array) joined types in
        λ i. record { name = names i; data_type = same_data_type i }

    within : k < length fields
    within = slice_get_within fields k field at

    more : take (k + 1) fields ≡ take k fields ++ field ∷ []
    more = take_more fields k field within
        ∙ ap (λ f. take k fields ++ f ∷ []) (get_or_from_slice_get fields k field field at)

    count : length made ≡ k
    count = sym (schema-count made) ∙ ap length are.schema ∙ schema-count (take k fields)
        ∙ length-take-le k fields (omega (arith, within))

    arrays : (j : ℕ) (f : Field) → slice_get (made ++ new ∷ []) j ≡ Some f → IsConcatArray (arrays_at batches j) f.array
    arrays j f p = elim (cases_lt j (length made)) [
      | inl low ↦ are.arrays j f (sym (get-left made (new ∷ []) j low) ∙ p)
      | inr high ↦
          let end : j ≡ k = omega (
            arith,
            high,
            count,
            slice_get_within (made ++ new ∷ []) j f p,
            length-append made
                (new ∷ []),
          ) in
          let last : j ≡ length made + 0 = omega (arith, end, count) in
          let same = same_Some new f (sym (get-right made (new ∷ []) 0)
          ∙ ap (slice_get (made ++ new ∷ [])) (sym last) ∙ p) in
          subst (λ n. IsConcatArray (arrays_at batches n) f.array) (sym end)
          (subst (λ x. IsConcatArray (arrays_at batches k) x.array) same joined)
    ]

-- the columns at the end of the loop
array-of : (made : List Field) (k : ℕ) (array : AnyArray)
    → option_map (λ column. column.array) (slice_get (map named made) k) ≡ Some array
    → (field : Field) × (slice_get made k ≡ Some field) × (field.array ≡ array)
array-of [] k array e = absurd (none-some array e)
array-of (field ∷ made) zero array e = (field, refl, same_Some field.array array e)
array-of (field ∷ made) (suc k) array e = array-of made k array e

pub concat-batch : (batches : List Batch) (fields made : List Field) (len : ℕ)
    → All (λ batch. schema_of batch ≡ fields_schema fields) batches → AreConcats batches fields made
    → len ≡ sum_by (λ batch. batch.rows) batches → IsConcat batches (batch_of made len)
concat-batch batches fields made len schemas are rows = record {
  rows = rows;
  schema =
      All-weaker (λ batch. schema_of batch ≡ fields_schema fields) (λ batch. schema_of batch ≡ fields_schema made)
      (λ batch e. e ∙ sym are.schema) batches schemas;
  arrays = λ k array p. let w = array-of made k array p in
      subst (IsConcatArray (arrays_at batches k)) w.2 (are.arrays k w.0 w.1);
}

pub concat-have-rows : (batches : List Batch) (fields made : List Field) (len : ℕ)
    → All (λ batch. schema_of batch ≡ fields_schema fields) batches → AreConcats batches fields made
    → len ≡ sum_by (λ batch. batch.rows) batches → All IsBatch batches → HaveRows made len
concat-have-rows batches fields made len schemas are rows each = λ k d l.
    let p = slice_get-get_or made k d l in
    let field = get_or made k d in
    let at = ap (λ ys. slice_get ys k) (sym are.schema) ∙ get-schema made k field p in
    count-concat (arrays_at batches k) field.array (are.arrays k field p)
    ∙ slots-each named_type (fields_schema fields) k (named_type (named field)) at batches schemas each ∙ sym rows

-- batches of one schema pass the tests
pub passes : (batches : List Batch) (schema : List NamedType) → 0 < length batches
    → All (λ batch. schema_of batch ≡ schema) batches → Passes (concat_tests batches)
passes [] schema some each = absurd (omega arith)
passes (first ∷ others) schema some each =
    let same = All-head (λ batch. schema_of batch ≡ schema) first others each in (
      some,
      (
        All-weaker (λ batch. schema_of batch ≡ schema) (λ batch. schema_of batch ≡ schema_of first)
            (λ batch e. e ∙ sym same) others (All-tail (λ batch. schema_of batch ≡ schema) first others each),
        tt,
      ),
    )

pub columns-fail : (batches : List Batch) (r : Refusal) → Passes (concat_tests batches) → ColumnsFail batches r
    → ConcatFails batches r
columns-fail batches overflow passed why = (passed, inr why)
columns-fail batches out_of_memory passed why = passed
columns-fail batches (out_of_spec rule) passed why = absurd why
