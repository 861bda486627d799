-- Values that are made of others are values, too.
use Rattle.std.proofs.Common.{◌≡◌, ◌∙◌, ◌+◌, ℕ, zero, suc, Bool, true, false, not, ◌&&◌, ◌||◌, List, [], ◌∷◌, ◌++◌}
use Rattle.std.proofs.Common.{length, map, take, drop, is_some, is_none, Option, Some, None, option_map}
use Rattle.std.proofs.Common.{if◌then◌else◌, refl, sym, ap, ap₂, subst, true≢false, arith}
use Rattle.std.proofs.lemmas.List.Elements.{All-nil, All-cons, All-head, All-tail, All-append, All-take, All-drop}
use Rattle.std.proofs.lemmas.List.Elements.{All-map, All-replicate, All-weaker}
use Rattle.std.specs.Prelude.{All}
use Rattle.std.specs.List.{concat, list_all, zip}
use Rattle.std.proofs.lemmas.Bool.{and_parts}
use Rattle.arrow_types.specs.Types.{LogicalType, IsRightType, default_logical_type, physical_type}
use Rattle.arrow_types.specs.declared.primitive_type.PrimitiveType.{PrimitiveType}
use Rattle.arrow_types.specs.declared.primitive_type.PrimitiveType.TheVariants as primitive
use Rattle.arrow_types.specs.declared.physical_type.PhysicalType.TheVariants as physical
use Rattle.arrow_memory.specs.Offsets.{last_of}
use Rattle.arrow_memory.specs.Rows.{Row, rows_of}
use Rattle.arrow_column.specs.Validation.{Passes}
use Rattle.arrow_column.specs.Column.{all_valid, marks_of, stored_values}
use Rattle.arrow_bytes.specs.Kinds.{AreItems, binary_type, text_type, binary_layout, text_layout}
use Rattle.arrow_bytes.specs.Pieces.{Around, nothing_around, around_of}
use Rattle.arrow_check.specs.Pieces.{items_of}
use Rattle.arrow_check.specs.Utf8.{IsWellFormed}
use Rattle.arrow_model.specs.Change.{with_column, cut_value, frozen_value, thawed_value, empty_value, slots_start}
use Rattle.arrow_model.specs.Change.{null_in, grown}
use Rattle.arrow_model.specs.Value.{Value, Types, default_type, default_item, layout}
use Rattle.arrow_model.specs.Item.{Stored, value, bit, bytes_item, stored_bytes, fits, slot_fits, ListChange, fill, reversal}
use Rattle.arrow_model.specs.Item.{changed, change_fits}
use Rattle.arrow_model.specs.Kind.{Group, frozen, with_nulls, values_alone, ValueKind, native, boolean, var_binary}
use Rattle.arrow_model.specs.Kind.{Shape, shaped, same_value_kind, same_group, same_kind, is_builder, is_boolean}
use Rattle.arrow_model.specs.Kind.{is_native, is_frozen, is_nullable, is_var_binary, is_values_alone}
use Rattle.arrow_model.specs.Parts.{made, marks_in, pieces_tests}
use Rattle.arrow_model.specs.Request.{Packed}
use Rattle.arrow_model.specs.Item.{IsText, IsTextChange, IsTextSlot}
use Rattle.arrow_model.specs.Values.{IsStored, IsRow, IsAround, IsValue}
use Rattle.arrow_model.proofs.AllLemmas.{reverse-all}

-- ---- kinds

-- an array's kind is no builder's, and a builder with nulls holds no values alone
pub no-builder : (group : Group) (sort : ValueKind) → is_frozen (shaped group sort) ≡ true
    → is_builder (shaped group sort) ≡ true → ⊥
no-builder frozen sort so builder = true≢false (sym builder)
no-builder with_nulls sort so builder = true≢false (sym so)
no-builder values_alone sort so builder = true≢false (sym so)

pub frozen-nulls : (group : Group) (sort : ValueKind) → is_frozen (shaped group sort) ≡ true
    → is_values_alone (shaped group sort) ≡ false
frozen-nulls frozen sort so = refl
frozen-nulls with_nulls sort so = refl
frozen-nulls values_alone sort so = absurd (true≢false (sym so))

pub nullable-nulls : (group : Group) (sort : ValueKind) → is_nullable (shaped group sort) ≡ true
    → is_values_alone (shaped group sort) ≡ false
nullable-nulls frozen sort so = refl
nullable-nulls with_nulls sort so = refl
nullable-nulls values_alone sort so = absurd (true≢false (sym so))

pub alone-builder : (group : Group) (sort : ValueKind) → is_values_alone (shaped group sort) ≡ true
    → is_builder (shaped group sort) ≡ true
alone-builder frozen sort so = absurd (true≢false (sym so))
alone-builder with_nulls sort so = refl
alone-builder values_alone sort so = refl

pub masked-nulls : (group : Group) (sort : ValueKind) (other : Bool)
    → (is_frozen (shaped group sort) || (is_nullable (shaped group sort) && other)) ≡ true
    → is_values_alone (shaped group sort) ≡ false
masked-nulls frozen sort other so = refl
masked-nulls with_nulls sort other so = refl
masked-nulls values_alone sort other so = absurd (true≢false (sym so))

pub same-group : (a b : Group) → same_group a b ≡ true → a ≡ b
same-group frozen frozen e = refl
same-group with_nulls with_nulls e = refl
same-group values_alone values_alone e = refl
same-group frozen with_nulls e = absurd (true≢false (sym e))
same-group frozen values_alone e = absurd (true≢false (sym e))
same-group with_nulls frozen e = absurd (true≢false (sym e))
same-group with_nulls values_alone e = absurd (true≢false (sym e))
same-group values_alone frozen e = absurd (true≢false (sym e))
same-group values_alone with_nulls e = absurd (true≢false (sym e))

pub same-sort : (a b : ValueKind) → same_value_kind a b ≡ true → a ≡ b
same-sort native native e = refl
same-sort boolean boolean e = refl
same-sort (var_binary true) (var_binary true) e = refl
same-sort (var_binary false) (var_binary false) e = refl
same-sort native boolean e = absurd (true≢false (sym e))
same-sort native (var_binary true) e = absurd (true≢false (sym e))
same-sort native (var_binary false) e = absurd (true≢false (sym e))
same-sort boolean native e = absurd (true≢false (sym e))
same-sort boolean (var_binary true) e = absurd (true≢false (sym e))
same-sort boolean (var_binary false) e = absurd (true≢false (sym e))
same-sort (var_binary true) native e = absurd (true≢false (sym e))
same-sort (var_binary true) boolean e = absurd (true≢false (sym e))
same-sort (var_binary true) (var_binary false) e = absurd (true≢false (sym e))
same-sort (var_binary false) native e = absurd (true≢false (sym e))
same-sort (var_binary false) boolean e = absurd (true≢false (sym e))
same-sort (var_binary false) (var_binary true) e = absurd (true≢false (sym e))

-- ---- types

native-right : (p : PrimitiveType) → physical_type (default_logical_type p) ≡ physical.Primitive p
native-right primitive.Int8 = refl
native-right primitive.Int16 = refl
native-right primitive.Int32 = refl
native-right primitive.Int64 = refl
native-right primitive.Int128 = refl
native-right primitive.Int256 = refl
native-right primitive.UInt8 = refl
native-right primitive.UInt16 = refl
native-right primitive.UInt32 = refl
native-right primitive.UInt64 = refl
native-right primitive.DaysMs = refl
native-right primitive.MonthDayNano = refl

binary-right : (large : Bool) → physical_type (binary_type large) ≡ binary_layout large
binary-right true = refl
binary-right false = refl

text-right : (large : Bool) → physical_type (text_type large) ≡ text_layout large
text-right true = refl
text-right false = refl

pub default-right : {T : Type 0} (c : Types T) (sort : ValueKind) → IsRightType (layout c sort) (default_type c sort)
default-right c native = native-right c.primitive
default-right c boolean = refl
default-right c (var_binary false) = binary-right c.large
default-right c (var_binary true) = text-right c.large

-- ---- what slots store

pub default-stored : {T : Type 0} (c : Types T) (sort : ValueKind) → IsStored sort (default_item c sort)
default-stored c native = record { of_value_kind = refl; text = tt }
default-stored c boolean = record { of_value_kind = refl; text = tt }
default-stored c (var_binary false) = record { of_value_kind = refl; text = tt }
default-stored c (var_binary true) = record { of_value_kind = refl; text = ([], tt, refl) }

module _ {T : Type 0} (sort : ValueKind) where
  pub fits-stored : (xs : List (Stored T)) → list_all (fits sort) xs ≡ true → All IsText xs → All (IsStored sort) xs
  fits-stored [] fit text = All-nil (IsStored sort)
  fits-stored (x ∷ xs) fit text =
      All-cons (IsStored sort) x xs
      (record {
        of_value_kind = (and_parts (fits sort x) (list_all (fits sort) xs) fit).0;
        text = All-head IsText x xs
            text;
      })
      (fits-stored xs (and_parts (fits sort x) (list_all (fits sort) xs) fit).1 (All-tail IsText x xs text))

  -- items without bytes
  bare-bytes : is_var_binary (shaped frozen sort) ≡ false → (x : Stored T) → IsStored sort x → stored_bytes x ≡ []
  bare-bytes plain (value x) is = refl
  bare-bytes plain (bit b) is = refl
  bare-bytes plain (bytes_item text bytes) is = absurd (none sort text plain is.of_value_kind)
    where
      none : (sort : ValueKind) (text : Bool) → is_var_binary (shaped frozen sort) ≡ false
          → same_value_kind sort (var_binary text) ≡ true → ⊥
      none native true plain same = true≢false (sym same)
      none native false plain same = true≢false (sym same)
      none boolean true plain same = true≢false (sym same)
      none boolean false plain same = true≢false (sym same)
      none (var_binary true) text plain same = true≢false plain
      none (var_binary false) text plain same = true≢false plain

  -- ---- rows

  pub stored-rows : (held : Bool) (rows : List (Row (Stored T))) → All (IsRow sort held) rows
      → All (IsStored sort) (map (λ row. row.0) rows)
  stored-rows held rows all = All-map (IsStored sort) (λ (row : Row (Stored T)). row.0) rows
      (All-weaker (IsRow sort held) (λ row. IsStored sort row.0) (λ row is. is.stored) rows all)

  pub marked-rows : (held : Bool) (rows : List (Row (Stored T))) → All (IsRow sort held) rows → held ≡ false
      → All (λ (mark : Bool). mark ≡ true) (map (λ row. row.1) rows)
  marked-rows held rows all bare = All-map (λ (mark : Bool). mark ≡ true) (λ (row : Row (Stored T)). row.1) rows
      (All-weaker (IsRow sort held) (λ row. row.1 ≡ true) (λ row is. is.marked bare) rows all)

  pub held-rows : (held more : Bool) (rows : List (Row (Stored T))) → (more ≡ false → held ≡ false)
      → All (IsRow sort held) rows → All (IsRow sort more) rows
  held-rows held more rows still = All-weaker (IsRow sort held) (IsRow sort more)
      (λ row is. record { stored = is.stored; marked = λ bare. is.marked (still bare) }) rows

  pub zipped : (held : Bool) (xs : List (Stored T)) (marks : List Bool) → All (IsStored sort) xs
      → (held ≡ false → All (λ (mark : Bool). mark ≡ true) marks) → All (IsRow sort held) (zip xs marks)
  zipped held [] marks all marked = All-nil (IsRow sort held)
  zipped held (x ∷ xs) [] all marked = All-nil (IsRow sort held)
  zipped held (x ∷ xs) (mark ∷ marks) all marked =
      All-cons (IsRow sort held) (x, mark) (zip xs marks)
      (record {
        stored = All-head (IsStored sort) x xs all;
        marked = λ bare. All-head (λ (mark : Bool). mark ≡ true)
            mark marks (marked bare);
      })
      (zipped held xs marks (All-tail (IsStored sort) x xs all)
      (λ bare. All-tail (λ (mark : Bool). mark ≡ true) mark marks (marked bare)))

  pub valued : (held : Bool) (xs : List (Stored T)) → All (IsStored sort) xs
      → All (IsRow sort held) (map (λ x. (x, true)) xs)
  valued held xs all = All-map (IsRow sort held) (λ (x : Stored T). (x, true)) xs
      (All-weaker (IsStored sort) (λ x. IsRow sort held (x, true))
      (λ x is. record { stored = is; marked = λ bare. refl }) xs all)

  pub nulled : (xs : List (Stored T)) → All (IsStored sort) xs → All (IsRow sort true) (map (λ x. (x, false)) xs)
  nulled xs all = All-map (IsRow sort true) (λ (x : Stored T). (x, false)) xs
      (All-weaker (IsStored sort) (λ x. IsRow sort true (x, false))
      (λ x is. record { stored = is; marked = λ bare. absurd (true≢false bare) }) xs all)

  pub masked : (xs : List (Stored T)) (mask : Option (List Bool)) → All (IsStored sort) xs
      → All (IsRow sort (is_some mask)) (rows_of xs mask)
  masked xs None all = valued false xs all
  masked xs (Some marks) all = zipped true xs marks all (λ bare. absurd (true≢false bare))

  -- rows of which a mask is held exactly where one of them is null
  pub needless : (rows : List (Row (Stored T))) → All (λ row. IsStored sort row.0) rows
      → All (IsRow sort (not (list_all (λ (row : Row (Stored T)). row.1) rows))) rows
  needless rows all = each (not (list_all (λ (row : Row (Stored T)). row.1) rows)) rows
      (λ bare. not-false (list_all (λ (row : Row (Stored T)). row.1) rows) bare) all
    where
      not-false : (b : Bool) → not b ≡ false → b ≡ true
      not-false true e = refl
      not-false false e = absurd (true≢false e)

      each : (held : Bool) (rows : List (Row (Stored T)))
          → (held ≡ false → list_all (λ (row : Row (Stored T)). row.1) rows ≡ true)
          → All (λ row. IsStored sort row.0) rows → All (IsRow sort held) rows
      each held [] valid all = All-nil (IsRow sort held)
      each held (row ∷ rows) valid all =
          All-cons (IsRow sort held) row rows
          (record {
            stored = All-head (λ (row : Row (Stored T)). IsStored sort row.0) row rows all;
            marked = λ bare.
                (and_parts row.1 (list_all (λ (row : Row (Stored T)). row.1) rows) (valid bare)).0;
          })
          (each held rows (λ bare. (and_parts row.1 (list_all (λ (row : Row (Stored T)). row.1) rows) (valid bare)).1)
          (All-tail (λ (row : Row (Stored T)). IsStored sort row.0) row rows all))

  pub rows-stored : (held : Bool) (rows : List (Row (Stored T))) → All (IsRow sort held) rows
      → All (λ row. IsStored sort row.0) rows
  rows-stored held rows = All-weaker (IsRow sort held) (λ row. IsStored sort row.0) (λ row is. is.stored) rows

  pub changed-stored : (change : ListChange (Stored T)) (xs : List (Stored T)) → change_fits sort change ≡ true
      → IsTextChange change → All (IsStored sort) xs → All (IsStored sort) (changed change xs)
  changed-stored (fill x) xs fit text all = All-replicate (IsStored sort) (length xs) x
      (record { of_value_kind = fit; text = text })
  changed-stored reversal xs fit text all = reverse-all (IsStored sort) xs all

-- ---- what lies around

concat-none : (xs : List (List ℕ)) → All (λ (x : List ℕ). x ≡ []) xs → concat xs ≡ []
concat-none [] all = refl
concat-none (x ∷ xs) all = ap₂ (λ (a b : List ℕ). a
    ++ b) (All-head (λ (x : List ℕ). x ≡ []) x xs all) (concat-none xs (All-tail (λ (x : List ℕ). x ≡ []) x xs all))

around-again : (lead tail : List ℕ) → lead ≡ [] → tail ≡ []
    → (let it : Around = record { lead = lead; tail = tail } in it) ≡ nothing_around
around-again lead tail a b = ap₂ (λ (lead tail : List ℕ). let it : Around = record { lead = lead; tail = tail } in it)
    a b

pub nothing-around : (s : Shape) → IsAround s nothing_around
nothing-around s = record { plain = λ plain. refl; no_tail = λ builder. refl }

-- ---- values

module _ {T : Type 0} where
  -- slots that can be appended: a null only where there are nulls
  abbrev pub IsSlot : Shape → Option (Stored T) → Type 0
  IsSlot s None = is_values_alone s ≡ false
  IsSlot s (Some x) = IsStored s.value_kind x

  pub fits-slots : (s : Shape) (xs : List (Option (Stored T))) → is_values_alone s ≡ false
      → list_all (slot_fits s.value_kind) xs ≡ true → All IsTextSlot xs → All (IsSlot s) xs
  fits-slots s [] nulls fit text = All-nil (IsSlot s)
  fits-slots s (None ∷ xs) nulls fit text = All-cons (IsSlot s) None xs nulls
      (fits-slots s xs nulls fit (All-tail IsTextSlot None xs text))
  fits-slots s (Some x ∷ xs) nulls fit text =
      All-cons (IsSlot s) (Some x) xs
      (record {
        of_value_kind = (and_parts (fits s.value_kind x) (list_all (slot_fits s.value_kind) xs) fit).0;
        text
            = All-head IsTextSlot (Some x) xs text;
      })
      (fits-slots s xs nulls (and_parts (fits s.value_kind x) (list_all (slot_fits s.value_kind) xs) fit).1
      (All-tail IsTextSlot (Some x) xs text))

  pub items-slots : (s : Shape) (xs : List (Stored T)) → All (IsStored s.value_kind) xs → All (IsSlot s) (map Some xs)
  items-slots s xs all = All-map (IsSlot s) Some xs all

module _ {T : Type 0} (c : Types T) where
  pub empty-is : (s : Shape) → IsValue c (empty_value c s)
  empty-is s = record {
    right_type = default-right c s.value_kind;
    around = nothing-around s;
    rows = All-nil
        (IsRow s.value_kind false);
    unmasked = λ alone. refl;
  }

  none-yet : (sort : ValueKind) (masked : Bool)
      → All (IsRow {T = T} sort (is_some {T = List Bool} (if masked then Some [] else None)))
      (rows_of [] (if masked then Some [] else None))
  none-yet sort true = All-nil (IsRow sort true)
  none-yet sort false = All-nil (IsRow sort false)

  pub start-is : (s : Shape) → is_values_alone s ≡ false → IsValue c (slots_start c s)
  start-is s nulls = record {
    right_type = default-right c s.value_kind;
    around = nothing-around s;
    rows = none-yet s.value_kind (is_native s);
    unmasked = λ alone. absurd (true≢false (sym alone ∙ nulls));
  }

  module _ (v : Value T) (is : IsValue c v) where
    -- other rows of it
    pub rows-is : (held : Bool) (rows : List (Row (Stored T))) → All (IsRow v.shape.value_kind held) rows
        → (is_values_alone v.shape ≡ true → held ≡ false)
        → IsValue c (with_column v (record v.column { rows = rows; held = held }))
    rows-is held rows all unmasked = record
        { right_type = is.right_type; around = is.around; rows = all; unmasked = unmasked }

    pub stored-all : All (IsStored v.shape.value_kind) (stored_values v.column)
    stored-all = stored-rows v.shape.value_kind v.column.held v.column.rows is.rows

    pub with-stored-is : (xs : List (Stored T)) → All (IsStored v.shape.value_kind) xs
        → IsValue c (with_column v (record v.column { rows = zip xs (marks_of v.column) }))
    with-stored-is xs all = rows-is v.column.held (zip xs (marks_of v.column))
        (zipped v.shape.value_kind v.column.held xs (marks_of v.column) all
        (λ bare. marked-rows v.shape.value_kind v.column.held v.column.rows is.rows bare)) is.unmasked

    pub with-mask-is : (mask : Option (List Bool)) → is_values_alone v.shape ≡ false
        → IsValue c (with_column v
        (record v.column { rows = rows_of (stored_values v.column) mask; held = is_some mask }))
    with-mask-is mask nulls = rows-is (is_some mask) (rows_of (stored_values v.column) mask)
        (masked v.shape.value_kind (stored_values v.column) mask stored-all)
        (λ alone. absurd (true≢false (sym alone ∙ nulls)))

    unheld : is_values_alone v.shape ≡ false → is_values_alone v.shape ≡ true → true ≡ false
    unheld nulls alone = sym alone ∙ nulls

    pub appended-is : (x : Option (Stored T)) → IsSlot v.shape x → IsValue c (grown c v (x ∷ []))
    appended-is (Some x) slot =
        rows-is v.column.held (v.column.rows ++ (x, true) ∷ [])
        (All-append (IsRow v.shape.value_kind v.column.held) v.column.rows ((x, true) ∷ []) is.rows
        (All-cons (IsRow v.shape.value_kind v.column.held) (x, true) []
        (record { stored = slot; marked = λ bare. refl }) (All-nil (IsRow v.shape.value_kind v.column.held))))
        is.unmasked
    appended-is None nulls =
        rows-is true (v.column.rows ++ (null_in c v, false) ∷ [])
        (All-append (IsRow v.shape.value_kind true) v.column.rows ((null_in c v, false)
        ∷ []) (held-rows v.shape.value_kind v.column.held true v.column.rows (λ bare. absurd (true≢false bare))
        is.rows)
        (All-cons (IsRow v.shape.value_kind true) (null_in c v, false) []
        (record { stored = default-stored c v.shape.value_kind; marked = λ bare. absurd (true≢false bare) })
        (All-nil (IsRow v.shape.value_kind true))))
        (unheld nulls)

    -- what lies around, with nothing behind it
    cut-tail : (s : Shape) → s.value_kind ≡ v.shape.value_kind → IsAround s (record v.column.around { tail = [] })
    cut-tail s same = record {
      plain = λ plain. ap (λ (around : Around). record around { tail = [] })
          (is.around.plain (subst (λ (sort : ValueKind). is_var_binary (shaped v.shape.group sort) ≡ false) same
          plain));
      no_tail = λ builder. refl;
    }

    pub frozen-is : IsValue c (frozen_value v)
    frozen-is = either (is_boolean v.shape)
      where
        either : (b : Bool) → IsValue c
            (let it : Value T = record {
              shape = shaped frozen v.shape.value_kind;
              column = if b then
                  (record v.column { around = record v.column.around { tail = [] } }) else
                  (record v.column { around = record v.column.around { tail = [] }; held = not (all_valid v.column) });
            }
            in it)
        either true = record {
          right_type = is.right_type;
          around = cut-tail (shaped frozen v.shape.value_kind) refl;
          rows = is.rows;
          unmasked = λ alone. absurd (true≢false (sym alone));
        }
        either false = record {
          right_type = is.right_type;
          around = cut-tail (shaped frozen v.shape.value_kind) refl;
          rows = needless v.shape.value_kind v.column.rows
              (rows-stored v.shape.value_kind v.column.held v.column.rows is.rows);
          unmasked = λ alone. absurd (true≢false (sym alone));
        }

    pub thawed-is : IsValue c (thawed_value v)
    thawed-is = record {
      right_type = is.right_type;
      around = cut-tail (shaped with_nulls v.shape.value_kind) refl;
      rows = is.rows;
      unmasked = λ alone. absurd (true≢false (sym alone));
    }

    pub nullable-is : is_values_alone v.shape ≡ true
        → IsValue c (let it : Value T = record { shape = shaped with_nulls v.shape.value_kind; column = v.column }
        in it)
    nullable-is alone = record {
      right_type = is.right_type;
      around = record {
        plain = λ plain. is.around.plain plain;
        no_tail = λ builder. is.around.no_tail
            (alone-builder v.shape.group v.shape.value_kind alone);
      };
      rows = is.rows;
      unmasked = λ other. absurd (true≢false (sym other));
    }

    -- a cut: items become part of what lies around, which have no bytes where there is nothing around
    no-bytes : is_var_binary v.shape ≡ false → All (λ (x : List ℕ). x ≡ []) (map stored_bytes (stored_values v.column))
    no-bytes plain = All-map (λ (x : List ℕ). x ≡ []) stored_bytes (stored_values v.column)
        (All-weaker (IsStored v.shape.value_kind) (λ x. stored_bytes x ≡ [])
        (λ x stored. bare-bytes v.shape.value_kind plain x stored) (stored_values v.column) stored-all)

    pub cut-is : (a n : ℕ) → is_frozen v.shape ≡ true → IsValue c (cut_value v a n)
    cut-is a n array = record {
      right_type = is.right_type;
      around = record {
        plain = λ plain. let none = is.around.plain plain in let items = map stored_bytes (stored_values v.column) in
            around-again (v.column.around.lead ++ concat (take a items)) (concat (drop (a + n) items)
            ++ v.column.around.tail)
            (ap₂ (λ (a b : List ℕ). a
            ++ b) (ap (λ (around : Around). around.lead) none)
            (concat-none (take a items) (All-take (λ (x : List ℕ). x ≡ []) a items (no-bytes plain))))
            (ap₂ (λ (a b : List ℕ). a
            ++ b) (concat-none (drop (a + n) items)
            (All-drop (λ (x : List ℕ). x ≡ []) (a + n) items (no-bytes plain)))
            (ap (λ (around : Around). around.tail) none));
        no_tail = λ builder. absurd (no-builder v.shape.group v.shape.value_kind array builder);
      };
      rows = All-take (IsRow v.shape.value_kind v.column.held) n (drop a v.column.rows)
          (All-drop (IsRow v.shape.value_kind v.column.held) a v.column.rows is.rows);
      unmasked = is.unmasked;
    }

    -- some rows of an array, alone
    pub alone-is : (rows : List (Row (Stored T))) → is_frozen v.shape ≡ true
        → All (IsRow v.shape.value_kind v.column.held) rows
        → IsValue c (with_column v
        (record v.column {
          around = nothing_around;
          rows = rows;
          held = not
              (list_all (λ (row : Row (Stored T)). row.1) rows);
        }))
    alone-is rows array all = record {
      right_type = is.right_type;
      around = nothing-around v.shape;
      rows = needless v.shape.value_kind rows (rows-stored v.shape.value_kind v.column.held rows all);
      unmasked = λ alone. absurd (true≢false (sym alone ∙ frozen-nulls v.shape.group v.shape.value_kind array));
    }

  pub grown-is : (v : Value T) → IsValue c v → (xs : List (Option (Stored T))) → All (IsSlot v.shape) xs
      → IsValue c (grown c v xs)
  grown-is v is [] all = is
  grown-is v is (x ∷ xs) all = grown-is (grown c v (x ∷ [])) (appended-is v is x (All-head (IsSlot v.shape) x xs all))
      xs (All-tail (IsSlot v.shape) x xs all)

  -- the rows of another of the same kind behind its own
  pub joined-is : (v w : Value T) → IsValue c v → IsValue c w → same_kind v.shape w.shape ≡ true
      → IsValue c (with_column v
      (record v.column { rows = v.column.rows ++ w.column.rows; held = v.column.held || w.column.held }))
  joined-is v w is other same =
      let group = same-group v.shape.group w.shape.group
      (and_parts (same_group v.shape.group w.shape.group) (same_value_kind v.shape.value_kind w.shape.value_kind)
      same).0 in
      let sort = same-sort v.shape.value_kind w.shape.value_kind
      (and_parts (same_group v.shape.group w.shape.group) (same_value_kind v.shape.value_kind w.shape.value_kind)
      same).1 in
      rows-is v is (v.column.held || w.column.held) (v.column.rows ++ w.column.rows)
      (All-append (IsRow v.shape.value_kind (v.column.held || w.column.held)) v.column.rows w.column.rows
      (held-rows v.shape.value_kind v.column.held (v.column.held || w.column.held) v.column.rows
      (or-first v.column.held w.column.held) is.rows)
      (held-rows v.shape.value_kind w.column.held (v.column.held || w.column.held) w.column.rows
      (or-second v.column.held w.column.held)
      (subst (λ (sort : ValueKind). All (IsRow sort w.column.held) w.column.rows) (sym sort) other.rows)))
      (λ alone. neither v.column.held w.column.held (is.unmasked alone)
      (other.unmasked (subst (λ (group : Group). is_values_alone (shaped group v.shape.value_kind) ≡ true) group
      alone)))
    where
      or-first : (a b : Bool) → (a || b) ≡ false → a ≡ false
      or-first true b e = e
      or-first false b e = refl

      or-second : (a b : Bool) → (a || b) ≡ false → b ≡ false
      or-second true b e = absurd (true≢false e)
      or-second false b e = e

      neither : (a b : Bool) → a ≡ false → b ≡ false → (a || b) ≡ false
      neither true b e f = e
      neither false b e f = f

-- ---- parts

drop-all : (n : ℕ) (xs : List ℕ) → n ≡ length xs → drop n xs ≡ []
drop-all zero [] e = refl
drop-all (suc n) [] e = refl
drop-all zero (x ∷ xs) e = absurd (omega (arith, e))
drop-all (suc n) (x ∷ xs) e = drop-all n xs (omega (arith, e))

module _ {T : Type 0} (c : Types T) where
  items-stored : (text : Bool) (items : List (List ℕ)) → AreItems text items
      → All (IsStored {T = T} (var_binary text)) (map (bytes_item text) items)
  items-stored true items are = All-map (IsStored {T = T} (var_binary true)) (bytes_item true) items
      (All-weaker IsWellFormed (λ item. IsStored {T = T} (var_binary true) (bytes_item true item))
      (λ item is. record { of_value_kind = refl; text = is }) items are)
  items-stored false items are = All-map (IsStored {T = T} (var_binary false)) (bytes_item false) items
      (λ k d within. record { of_value_kind = refl; text = tt })

  no-mask : (alone : Bool) (mask : Option Packed) → (not alone || is_none mask) ≡ true → alone ≡ true
      → is_some (option_map marks_in mask) ≡ false
  no-mask alone None bare so = refl
  no-mask true (Some p) bare so = absurd (true≢false (sym bare))
  no-mask false (Some p) bare so = absurd (true≢false (sym so))

  plain-none : (group : Group) (text : Bool) → is_var_binary (shaped group (var_binary text)) ≡ false → ⊥
  plain-none group true plain = true≢false plain
  plain-none group false plain = true≢false plain

  cut-is-value : (group : Group) (text : Bool) (t : LogicalType) (mask : Option Packed) (offsets bytes : List ℕ)
      → IsRightType (layout c (var_binary text)) t → AreItems text (items_of offsets bytes)
      → (is_builder (shaped group (var_binary text)) ≡ true → last_of offsets ≡ length bytes)
      → (not (is_values_alone (shaped group (var_binary text))) || is_none mask) ≡ true
      → IsValue c (made c (shaped group (var_binary text)) t mask (around_of offsets bytes)
      (map (bytes_item text) (items_of offsets bytes)))
  cut-is-value group text t mask offsets bytes right items end bare = record {
    right_type = right;
    around = record {
      plain = λ plain. absurd (plain-none group text plain);
      no_tail = λ builder. drop-all
          (last_of offsets) bytes (end builder);
    };
    rows = masked (var_binary text) (map (bytes_item text) (items_of offsets bytes)) (option_map marks_in mask)
        (items-stored text (items_of offsets bytes) items);
    unmasked = no-mask (is_values_alone (shaped group (var_binary text))) mask bare;
  }

  pub pieces-is : (group : Group) (text : Bool) (t : LogicalType) (mask : Option Packed) (offsets bytes : List ℕ)
      → Passes (pieces_tests c group text t offsets bytes (option_map marks_in mask))
      → (not (is_values_alone (shaped group (var_binary text))) || is_none mask) ≡ true
      → IsValue c (made c (shaped group (var_binary text)) t mask (around_of offsets bytes)
      (map (bytes_item text) (items_of offsets bytes)))
  pieces-is frozen text t mask offsets bytes passed bare = cut-is-value frozen text t mask offsets bytes passed.1.1.1.0
      passed.1.0 (λ builder. absurd (true≢false (sym builder))) bare
  pieces-is with_nulls text t mask offsets bytes passed bare = cut-is-value with_nulls text t mask offsets bytes
      passed.1.1.0 passed.1.0 (λ builder. passed.0) bare
  pieces-is values_alone text t mask offsets bytes passed bare = cut-is-value values_alone text t mask offsets bytes
      passed.1.1.0 passed.1.0 (λ builder. passed.0) bare
