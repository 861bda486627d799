-- Lemmas about reading a table.
use Rattle.std.proofs.Common.{Bor, ◌≡◌, ◌≢◌, ℕ, zero, suc, ◌+◌, ◌^◌, ◌≤◌, ◌<◌, true, List, [], ◌∷◌, ◌++◌, Option, Some, None, refl, sym, ap}
use Rattle.std.proofs.Common.{Result, Ok, Err}
use Rattle.std.proofs.Common.{◌∙◌, add-one, arith, drop, get_or, inl, inr, length, map, set, slice_get, subst, take}
use Rattle.std.specs.Prelude.{IfErr, IfSome, IsErrAnd, option_map, string_bytes, unwrap_or}
use Rattle.std.specs.List.{concat}
use Rattle.std.proofs.Math.ListN.{drop_of_length-le, get_or-eq_default}
use Rattle.std.proofs.Math.Seq.{get_or-append_seam, take-length}
use Rattle.std.proofs.lemmas.Bool.{cases_order}
use Rattle.std.proofs.lemmas.List.{append-nil, drop_more, get_or-map, get_or_append_left, length-append, length-map}
use Rattle.std.proofs.lemmas.List.{get_or-set_other, get_or_default, map-append}
use Rattle.std.proofs.lemmas.Grind.{get_or-set_at}
use Rattle.std.proofs.lemmas.Option.{get_or_from_slice_get, slice_get_within}
use Rattle.std.proofs.lemmas.List.Folds.{concat-append}
use Rattle.csv.specs.declared.parser.Config.{Config}
use Rattle.csv.specs.Machine.{Read, next_record}
use Rattle.csv.specs.Reading.{ExplainsRead, NextIs, Reached, ReadsNext, TookRecord, default_config, pending_of, source_of}
use Rattle.csv.specs.Reading.{strip_bom}
use Rattle.csv.specs.Records.{field_at}
use Rattle.csv.specs.declared.error.ErrorKind.{ErrorKind}
use Rattle.csv.specs.declared.error.ErrorKind.TheVariants as csv_error
use Rattle.csv.specs.declared.parser.State.{State}
use Rattle.csv.specs.declared.parser.State.TheVariants as st
use Rattle.csv.specs.declared.reader.Reader.{Reader}
use Rattle.csv.proofs.ReadFacts.{reached-more}
use Rattle.csv.proofs.RecordFacts.{field-get, field-there}
use Rattle.example_record_batch.specs.AnyArrays.{Cell, bytes, cells_of, slot_count, text}
use Rattle.example_record_batch.specs.declared.any.AnyArray.TheVariants as array
use Rattle.example_record_batch.specs.Batches.{HaveRows, batch_of, named}
use Rattle.example_record_batch.specs.declared.batch.Field.{Field}
use Rattle.dethrugn.specs.Error.TheVariants as arrow
use Rattle.example_record_batch.proofs.CallerLemmas.{cell-count}
use Rattle.example_csv.specs.declared.builder.Builder.{Builder}
use Rattle.example_csv.specs.declared.error.Error.{Error}
use Rattle.example_csv.specs.declared.error.Error.TheVariants as error
use Rattle.example_csv.specs.declared.kind.Kind.TheVariants as kind
use Rattle.example_csv.specs.declared.read.NamedBuilder.{NamedBuilder}
use Rattle.example_csv.specs.Builders.{GrowsBy, built_kind, column_kind, text_length}
use Rattle.example_csv.specs.Fields.{header_of, field_cell}
use Rattle.example_csv.specs.Reading.{AreBuiltOf, BeginsWith, CannotPushRow, IsBuiltOf, IsColumnOf, IsCsvError}
use Rattle.example_csv.specs.Reading.{IsRefused, IsTableOf, column_fields}

-- a growing column grew by a field and has its name
abbrev pub GrowsNamed : NamedBuilder → NamedBuilder → List ℕ → Type 0
GrowsNamed old new field = (new.name ≡ old.name) × GrowsBy old.builder new.builder field

-- whatever a growing column is built of, a column of a table is made of
abbrev pub Freezes : NamedBuilder → Field → Type 0
Freezes column field = (header : List ℕ) (fields : List (List ℕ)) → IsBuiltOf header fields column
    → IsColumnOf header fields (named field)

-- one field more in a column
built-more : (header : List ℕ) (fields : List (List ℕ)) (old new : NamedBuilder) (field : List ℕ)
    → IsBuiltOf header fields old → GrowsNamed old new field → IsBuiltOf header (fields ++ field ∷ []) new
built-more header fields old new field built grown = record {
  name = ap string_bytes grown.0 ∙ built.name;
  declared = grown.1.declared ∙ built.declared;
  cells = grown.1.cells
      ∙ ap (λ cells. cells ++ field_cell (built_kind old.builder) field ∷ []) built.cells
      ∙ sym (map-append (field_cell (built_kind old.builder)) fields (field ∷ []))
      ∙ ap (λ declared. map (field_cell (unwrap_or declared kind.Utf8)) (fields ++ field ∷ [])) (sym grown.1.declared);
  bytes =
      let more : length (concat (fields ++ field ∷ [])) ≡ length (concat fields) + length field =
      ap length (concat-append fields (field ∷ []))
      ∙ length-append (concat fields) (field ++ [])
      ∙ ap (λ bytes. length (concat fields) + length bytes) (append-nil field) in
      omega (arith, more, grown.1.bytes, built.bytes);
}

-- one row more in all columns
pub all-built-more : (headers : List (List ℕ)) (rows : List (List (List ℕ))) (old new : List NamedBuilder)
    (row : List (List ℕ)) → length new ≡ length old
    → ((k : ℕ) (d : NamedBuilder) → k < length old → GrowsNamed (get_or old k d) (get_or new k d) (get_or row k []))
    → AreBuiltOf headers rows old → AreBuiltOf headers (rows ++ row ∷ []) new
all-built-more headers rows old new row same grown built = record {
  width = same ∙ built.width;
  each = λ i d h. subst
      (λ fields. IsBuiltOf (get_or headers i []) fields (get_or new i d))
      (sym (map-append (λ (r : List (List ℕ)). get_or r i []) rows (row ∷ [])))
      (built-more (get_or headers i []) (column_fields rows i) (get_or old i d) (get_or new i d) (get_or row i [])
      (built.each i d h) (grown i d (omega (arith, built.width))));
}

-- one column more
pub one-built-more : (headers : List (List ℕ)) (columns : List NamedBuilder) (header : List ℕ) (column : NamedBuilder)
    → AreBuiltOf headers [] columns → IsBuiltOf header [] column
    → AreBuiltOf (headers ++ header ∷ []) [] (columns ++ column ∷ [])
one-built-more headers columns header column built one = record {
  width = length-append columns (column ∷ []) ∙ ap (λ n. n + 1) built.width
      ∙ sym (length-append headers (header ∷ []));
  each = λ i d h. elim (cases_order i (length headers)) [
    | inl at ↦
        let at_column : i ≡ length columns = at ∙ sym built.width in
        let first : get_or (headers ++ header ∷ []) i [] ≡ header =
        rw at (get_or-append_seam headers header [] []) in
        let second : get_or (columns ++ column ∷ []) i d ≡ column =
        rw at_column (get_or-append_seam columns column [] d) in
        rw (first, second) one
    | inr apart ↦ elim apart [
      | inl before ↦
          let before_column : i < length columns = omega (arith, built.width) in
          rw (
            get_or_append_left headers (header ∷ []) [] i before,
            get_or_append_left columns (column ∷ []) d i before_column,
          ) (built.each i d before)
      | inr behind ↦ absurd (omega (arith, length-append headers (header ∷ [])))
    ]
  ];
}

-- the field that a header row has next
take-field : (fields : List (List ℕ)) (i : ℕ) (field : List ℕ) → Some field ≡ field_at fields i
    → (i < length fields) × (take (i + 1) fields ≡ take i fields ++ field ∷ [])
unfolding field_at
take-field [] i field e = cc
take-field (f ∷ fields) zero field e =
    let same : field ≡ f = cc in
    (omega arith, ap (λ x. x ∷ []) (sym same))
take-field (f ∷ fields) (suc i) field e =
    let more = take-field fields i field e in
    (omega (arith, more.0), simp add-one (ap (λ rest. f ∷ rest) (sym (simp add-one) ∙ more.1)))

-- one header field more
pub headers-more : (fields : List (List ℕ)) (columns grown : List NamedBuilder) (header : List ℕ) (column : NamedBuilder)
    → Some header ≡ field_at fields (length columns) → AreBuiltOf (take (length columns) fields) [] columns
    → IsBuiltOf header [] column → grown ≡ columns ++ column ∷ []
    → (length grown ≡ length columns + 1) × (length grown ≤ length fields)
    × AreBuiltOf (take (length grown) fields) [] grown
headers-more fields columns grown header column at built one e =
    let next = take-field fields (length columns) header at in
    let more : length grown ≡ length columns + 1 = ap length e ∙ length-append columns (column ∷ []) in (
      more,
      omega (arith, more, next.0),
      rw (more, next.1, e) (one-built-more (take (length columns) fields) columns header
          column built one),
    )

-- all header fields
pub headers-done : (fields : List (List ℕ)) (columns : List NamedBuilder) → length columns ≤ length fields
    → None ≡ field_at fields (length columns) → AreBuiltOf (take (length columns) fields) [] columns
    → AreBuiltOf fields [] columns
headers-done fields columns within at built = elim (cases_order (length columns) (length fields)) [
  | inl same ↦ subst (λ names. AreBuiltOf names [] columns) (ap (λ n. take n fields) same ∙ take-length fields) built
  | inr apart ↦ elim apart [
    | inl before ↦ absurd (field-there fields (length columns) before (sym at))
    | inr behind ↦ absurd (omega (arith, within))
  ]
]

-- an item of a list that has one
item : {X : Type 0} (xs : List X) (i : ℕ) → i < length xs → X
item [] i h = absurd (omega arith)
item (x ∷ xs) i h = x

drop-head : {X : Type 0} (xs ys : List X) (n : ℕ) (x : X) → drop n xs ≡ x ∷ ys
    → (n < length xs) × ((d : X) → get_or xs n d ≡ x) × (drop (n + 1) xs ≡ ys)
drop-head xs ys n x e = elim (cases_order n (length xs)) [
  | inl same ↦ let none : drop n xs ≡ [] = drop_of_length-le xs (omega arith) in cc
  | inr apart ↦ elim apart [
    | inl before ↦ (
      before,
      λ d. let parts = drop_more xs n d before in cc,
      let parts = drop_more xs n x before in cc,
    )
    | inr behind ↦ let none : drop n xs ≡ [] = drop_of_length-le xs (omega arith) in cc
  ]
]

-- one column more is frozen
pub frozen-more : (columns rest left : List NamedBuilder) (fields grown : List Field) (column : NamedBuilder)
    (field : Field) → rest ≡ drop (length fields) columns → rest ≡ column ∷ left → grown ≡ fields ++ field ∷ []
    → Freezes column field
    → ((i : ℕ) (d : NamedBuilder) (e : Field) → i < length fields → Freezes (get_or columns i d) (get_or fields i e))
    → (left ≡ drop (length grown) columns) × (length grown ≡ length fields + 1) × (length grown ≤ length columns)
    × ((i : ℕ) (d : NamedBuilder) (e : Field) → i < length grown → Freezes (get_or columns i d) (get_or grown i e))
frozen-more columns rest left fields grown column field at next e one each =
    let head = drop-head columns left (length fields) column (sym at ∙ next) in
    let more : length grown ≡ length fields + 1 = ap length e ∙ length-append fields (field ∷ []) in
    (rw more (sym head.2), more, omega (arith, more, head.0), λ i d f h. rw e (here i d f (omega (arith, more, h)) head.1))
  where
    here : (i : ℕ) (d : NamedBuilder) (f : Field) → i < length fields + 1
        → ((d : NamedBuilder) → get_or columns (length fields) d ≡ column)
        → Freezes (get_or columns i d) (get_or (fields ++ field ∷ []) i f)
    here i d f h is = elim (cases_order i (length fields)) [
      | inl same ↦
          let last : get_or (fields ++ field ∷ []) i f ≡ field = rw same (get_or-append_seam fields field [] f) in
          let this : get_or columns i d ≡ column = rw same (is d) in
          rw (last, this) one
      | inr apart ↦ elim apart [
        | inl before ↦ rw (get_or_append_left fields (field ∷ []) f i before) (each i d f before)
        | inr behind ↦ absurd (omega arith)
      ]
    ]

count-of : (header : List ℕ) (rows : List (List (List ℕ))) (i : ℕ) (field : Field)
    → IsColumnOf header (column_fields rows i) (named field) → slot_count field.array ≡ length rows
count-of header rows i field column =
    sym (cell-count field.array)
    ∙ sym (length-map (cells_of field.array) (λ (cell : Cell). Some cell))
    ∙ ap length column.array.cells
    ∙ length-map (column_fields rows i) (field_cell (column_kind (header_of header).1 (column_fields rows i)))
    ∙ length-map rows (λ (row : List (List ℕ)). get_or row i [])

-- the table of columns that are frozen
module _ (headers : List (List ℕ)) (rows : List (List (List ℕ))) (columns : List NamedBuilder) (fields : List Field)
    (built : AreBuiltOf headers rows columns) (same : length fields ≡ length columns)
    (each : (i : ℕ) (d : NamedBuilder) (e : Field) → i < length fields
    → Freezes (get_or columns i d) (get_or fields i e)) where
  column-at : (i : ℕ) (e : Field) → i < length fields
      → IsColumnOf (get_or headers i []) (column_fields rows i) (named (get_or fields i e))
  column-at i e h =
      let within : i < length columns = omega (arith, same, h) in
      each i (item columns i within) e h (get_or headers i []) (column_fields rows i)
      (built.each i (item columns i within) (omega (arith, same, h, built.width)))

  pub have-rows : HaveRows fields (length rows)
  have-rows k e h = count-of (get_or headers k []) rows k (get_or fields k e) (column-at k e h)

  pub is-table : IsTableOf headers rows (batch_of fields (length rows))
  is-table = record {
    height = refl;
    width = length-map fields named ∙ same ∙ built.width;
    each = λ i d h.
        let within : i < length fields = omega (arith, same, h, built.width) in
        let e = item fields i within in
        subst (IsColumnOf (get_or headers i []) (column_fields rows i)) (sym (get_or-map named fields i e d within))
        (column-at i e within);
  }

-- ---- what is appended to columns

-- the field that a row has at a place, or else an empty one
pub field-or : (fields : List (List ℕ)) (i : ℕ) (found : Option (Bor (List ℕ))) (field d : Bor (List ℕ))
    → option_map (λ f. f.now) found ≡ field_at fields i → field ≡ unwrap_or found d → d.now ≡ []
    → field.now ≡ get_or fields i []
field-or fields i (Some f) field d at is none = ap (λ f. f.now) is ∙ sym (field-get fields i f.now (sym at))
field-or fields i None field d at is none = elim (cases_order i (length fields)) [
  | inl same ↦ ap (λ f. f.now) is ∙ none ∙ sym (get_or-eq_default fields [] (omega arith))
  | inr apart ↦ elim apart [
    | inl before ↦ absurd (field-there fields i before (sym at))
    | inr behind ↦ ap (λ f. f.now) is ∙ none ∙ sym (get_or-eq_default fields [] (omega arith))
  ]
]

-- one column more grew
module _ (old items : List NamedBuilder) (row : List (List ℕ)) (i : ℕ) (new : Builder) (e : NamedBuilder)
    (within : i < length items)
    (grown : (k : ℕ) (d : NamedBuilder) → k < i → GrowsNamed (get_or old k d) (get_or items k d) (get_or row k []))
    (left : (k : ℕ) (d : NamedBuilder) → i ≤ k → get_or items k d ≡ get_or old k d)
    (grows : GrowsBy (get_or items i e).builder new (get_or row i [])) where
  pub grown-more : (k : ℕ) (d : NamedBuilder) → k < i + 1 → GrowsNamed (get_or old k d)
      (get_or (set items i (record { name = (get_or items i e).name; builder = new })) k d) (get_or row k [])
  grown-more k d h = elim (cases_order k i) [
    | inl same ↦
        let now = get_or-set_at items i k (record { name = (get_or items i e).name; builder = new }) d same within in
        let here : get_or items i e ≡ get_or old k d =
        get_or_default items i e d within ∙ ap (λ n. get_or items n d) (sym same) ∙ left k d (omega arith) in
        rw (now, ← here, same) (refl, grows)
    | inr apart ↦ elim apart [
      | inl before ↦
          let other : k ≢ i = omega arith in
          rw (get_or-set_other items i k (record { name = (get_or items i e).name; builder = new }) d other)
          (grown k d before)
      | inr behind ↦ absurd (omega arith)
    ]
  ]

  pub left-more : (k : ℕ) (d : NamedBuilder) → i + 1 ≤ k
      → get_or (set items i (record { name = (get_or items i e).name; builder = new })) k d ≡ get_or old k d
  left-more k d h =
      let other : k ≢ i = omega arith in
      get_or-set_other items i k (record { name = (get_or items i e).name; builder = new }) d other
      ∙ left k d (omega arith)

pub take-front : {X : Type 0} (xs ys : List X) (n : ℕ) → n ≡ length xs → take n (xs ++ ys) ≡ xs
take-front {X = X} xs ys n e = ap (λ m. take m (xs ++ ys)) e ∙ go xs
  where
    go : (xs : List X) → take (length xs) (xs ++ ys) ≡ xs
    go [] = refl
    go (x ∷ xs) = ap (λ rest. x ∷ rest) (go xs)

-- ---- how a function fails by another's error

pub weaken-err : {A E : Type 0} (r : Result A E) (P Q : E → Type 0) → IsErrAnd r P → ((e : E) → P e → Q e) → IfErr r Q
weaken-err (Ok x) P Q h f = absurd h
weaken-err (Err e) P Q h f = f e h

pub if-some : {X : Type 0} (o : Option X) (P : X → Type 0) → ((x : X) → o ≡ Some x → P x) → IfSome o P
if-some None P f = tt
if-some (Some x) P f = f x refl

-- ---- why a text is refused

-- a record that was read and not given is one more record of the text
took-more : (cfg : Config) (s0 a b : State) (xs y : List ℕ) (rows : List (List (List ℕ))) (f : List (List ℕ))
    (k : Option (List ℕ)) → ReadsNext cfg a (Some y) k true f b → Reached cfg s0 xs rows a y
    → (s : State) × (z : List ℕ) × Reached cfg s0 xs (rows ++ f ∷ []) s z
took-more cfg s0 a b xs y rows f None r h = absurd r
took-more cfg s0 a b xs y rows f (Some z) r h = next (next_record cfg a [] [] y) refl r
  where
    next : (o : Option Read) → next_record cfg a [] [] y ≡ o → NextIs o true f b z
        → (s : State) × (w : List ℕ) × Reached cfg s0 xs (rows ++ f ∷ []) s w
    next None e n = cc n
    next (Some p) e n = (p.1, p.2, rw n.1 (reached-more cfg s0 a xs y rows p h e))

module _ {R : Type 0} (rem : R → Option (List ℕ)) (a b : Reader R) (text y : List ℕ)
    (config : a.config ≡ default_config) (source : source_of rem a ≡ Some y) where
  took-next : (records : List (List (List ℕ))) (f : List (List ℕ)) → TookRecord rem a b f
      → Reached default_config st.StartRecord (strip_bom text) records a.state y → BeginsWith text (records ++ f ∷ [])
  took-next records f took reached =
      took-more default_config st.StartRecord a.state b.state (strip_bom text) y records f (pending_of (rem b.rdr) b)
      (rw (config, source) at took) reached

  -- the first record is not given
  pub first-error : (k : ErrorKind) → a.expected ≡ None
      → Reached default_config st.StartRecord (strip_bom text) [] a.state y → ExplainsRead rem a b true k
      → IsCsvError text k
  first-error (csv_error.Io e) expected reached why = tt
  first-error csv_error.OutOfMemory expected reached why = tt
  first-error (csv_error.UnequalLengths at n len) expected reached why =
      let some : ◌≡◌ {A = Option ℕ} None (Some n) = sym expected ∙ why.1 in cc some
  first-error (csv_error.Utf8 at e) expected reached why = ([], why.1, took-next [] why.1 why.2 reached, why.3)
  first-error (csv_error.Serialize e) expected reached why = absurd why
  first-error (csv_error.Deserialize at e) expected reached why = absurd why

  -- a record behind the header row is not given
  pub next-error : (names : List (List ℕ)) (rows : List (List (List ℕ))) (k : ErrorKind)
      → a.expected ≡ Some (length names)
      → Reached default_config st.StartRecord (strip_bom text) (names ∷ rows) a.state y → ExplainsRead rem a b true k
      → IsCsvError text k
  next-error names rows (csv_error.Io e) expected reached why = tt
  next-error names rows csv_error.OutOfMemory expected reached why = tt
  next-error names rows (csv_error.UnequalLengths at n len) expected reached why =
      let some : ◌≡◌ {A = Option ℕ} (Some n) (Some (length names)) = sym why.1 ∙ expected in
      let same : n ≡ length names = cc in
      (names, rows, why.3, took-next (names ∷ rows) why.3 why.4 reached, same, sym why.5, why.2)
  next-error names rows (csv_error.Utf8 at e) expected reached why =
      (names ∷ rows, why.1, took-next (names ∷ rows) why.1 why.2 reached, why.3)
  next-error names rows (csv_error.Serialize e) expected reached why = absurd why
  next-error names rows (csv_error.Deserialize at e) expected reached why = absurd why

-- a row that is not appended is refused
module _ (text : List ℕ) (headers : List (List ℕ)) (rows : List (List (List ℕ))) (columns : List NamedBuilder)
    (row : List (List ℕ)) (built : AreBuiltOf headers rows columns)
    (begins : BeginsWith text ((headers ∷ rows) ++ row ∷ [])) where
  column-built : (i : ℕ) (column : NamedBuilder) → slice_get columns i ≡ Some column
      → (i < length headers) × IsBuiltOf (get_or headers i []) (column_fields rows i) column
  column-built i column at =
      let within : i < length headers = omega (arith, slice_get_within columns i column at, built.width) in (
        within,
        subst (IsBuiltOf (get_or headers i []) (column_fields rows i))
            (get_or_from_slice_get columns i column column at) (built.each i column within),
      )

  long-column : (i : ℕ) (column : NamedBuilder) → slice_get columns i ≡ Some column
      → 2 ^ 31 ≤ text_length column.builder + length (get_or row i [])
      → 2 ^ 31 ≤ length (concat (column_fields (rows ++ row ∷ []) i))
  long-column i column at bound =
      let bytes = (column-built i column at).1.bytes in
      let more : length (concat (column_fields (rows ++ row ∷ []) i))
      ≡ length (concat (column_fields rows i)) + length (get_or row i []) =
      ap (λ fields. length (concat fields)) (map-append (λ (r : List (List ℕ)). get_or r i []) rows (row ∷ []))
      ∙ ap length (concat-append (column_fields rows i) (get_or row i [] ∷ []))
      ∙ length-append (concat (column_fields rows i)) (get_or row i [] ++ [])
      ∙ ap (λ field. length (concat (column_fields rows i)) + length field) (append-nil (get_or row i [])) in
      omega (arith, more, bytes, bound)

  pub row-refused : (e : Error) → CannotPushRow columns row e → IsRefused text e
  row-refused (error.Field line place wanted) (i, column, at, why) =
      let (within, one) = column-built i column at in
      (headers, rows, row, begins, (i, within, why.0, sym one.declared ∙ why.1, why.2))
  row-refused (error.Arrow arrow.Overflow) (i, column, at, why) =
      (headers, rows ++ row ∷ [], begins, (i, long-column i column at why))
  row-refused (error.Arrow arrow.OutOfMemory) (i, column, at, why) = tt
  row-refused (error.Arrow (arrow.OutOfSpec w)) (i, column, at, why) = cc why
  row-refused error.OutOfMemory (i, column, at, why) = tt
  row-refused (error.Csv e) (i, column, at, why) = absurd why
  row-refused error.NoHeader (i, column, at, why) = absurd why
  row-refused (error.Io e) (i, column, at, why) = absurd why
  row-refused (error.UnknownColumn name) (i, column, at, why) = absurd why
  row-refused (error.NotTruth name) (i, column, at, why) = absurd why
  row-refused (error.NotNumbers name) (i, column, at, why) = absurd why
  row-refused (error.SumOverflow overflow) (i, column, at, why) = absurd why
