-- A column over what slots store, of any value kind, commutes with filtering it and with taking rows of it.
use Rattle.std.proofs.Common.{◌≡◌, ℕ, ℤ, Bool, true, false, not, List, [], ◌∷◌, length, map, Option, Some, None, refl}
use Rattle.std.proofs.Common.{sym, subst, ap, ap₂, ◌∙◌, arith}
use Rattle.std.specs.Prelude.{⊤, find, nat_lt, MatchBool, MatchOption}
use Rattle.std.specs.List.{concat, list_all}
use Rattle.std.proofs.lemmas.Bool.{le-ltb}
use Rattle.arrow_types.specs.Types.{refusal}
use Rattle.arrow_types.specs.declared.error.Error.{Error}
use Rattle.arrow_types.specs.declared.error.Error.TheVariants as error
use Rattle.arrow_memory.specs.Rows.{Row}
use Rattle.arrow_column.specs.Column.{Column, ColumnWith, refused_growth}
use Rattle.arrow_bytes.specs.Pieces.{Around, nothing_around}
use Rattle.arrow_bytes.specs.Column.{ByteColumn}
use Rattle.arrow_check.specs.Indexes.{in_bounds, key_refusal}
use Rattle.arrow_bytes.specs.Selection.{asked, at_keys, column_of_rows, filtered, first_out_of_bounds, taken}
use Rattle.arrow_bytes.specs.Selection.{taking_overflows, where_set}
use Rattle.arrow_kernels.proofs.CallerLemmas.{keys-map, where-map}
use Rattle.arrow_model.specs.Chosen.{bit_in, bits_column, bytes_column}
use Rattle.arrow_entry.specs.Entry.{erase_type, native_value, boolean_value, bytes_value}
use Rattle.arrow_model.specs.Answer.{done, refused}
use Rattle.arrow_model.specs.Change.{with_column}
use Rattle.arrow_model.specs.Kind.{ValueKind, native, boolean, var_binary, shaped, frozen}
use Rattle.arrow_model.specs.Transition.{answers, leaves, memory}
use Rattle.arrow_model.specs.Transition as model
use Rattle.arrow_model.specs.Step.{Taken, unless_over}
use Rattle.arrow_model.specs.Value.{Value}
use Rattle.arrow_model.specs.Item.{Stored, value, bit, bytes_item, stored_bytes}
use Rattle.arrow_entry.proofs.CallerLemmas.{frozen-seen, length-seen}

module _ {A S T : Type 0} (around : A → Around) (stored : S → Stored T) (nothing : A)
    (is : around nothing ≡ nothing_around) (column : ColumnWith A S) where
  -- a column of some rows alone
  alone : List (Row (Stored T)) → Around → ColumnWith Around (Stored T)
  alone rows a = record {
    data_type = column.data_type;
    around = a;
    rows = rows;
    held = not (list_all (λ (r : Row (Stored T)). r.1) rows);
  }

  rows-seen : (rows : List (Row S)) → erase_type around stored (column_of_rows nothing column rows)
      ≡ column_of_rows nothing_around (erase_type around stored column) (map (λ (r : Row S). (stored r.0, r.1)) rows)
  unfolding erase_type alone
  rows-seen rows = frozen-seen around stored (record column { around = nothing; rows = rows })
      ∙ ap (alone (map (λ (r : Row S). (stored r.0, r.1)) rows)) is

  filter-seen : (filter : Column Bool) → erase_type around stored (filtered nothing column filter)
      ≡ filtered nothing_around (erase_type around stored column) filter
  unfolding erase_type
  filter-seen filter =
      rows-seen (where_set (asked filter) column.rows)
      ∙ ap (column_of_rows nothing_around (erase_type around stored column))
      (sym (where-map (λ (r : Row S). (stored r.0, r.1)) (asked filter) column.rows))

  take-seen : (keys : List ℤ) → erase_type around stored (taken nothing (λ key. key) column keys)
      ≡ taken nothing_around (λ key. key) (erase_type around stored column) keys
  unfolding erase_type
  take-seen keys =
      rows-seen (at_keys (λ key. key) keys column.rows)
      ∙ ap (column_of_rows nothing_around (erase_type around stored column))
      (sym (keys-map (λ (r : Row S). (stored r.0, r.1)) (λ key. key) keys column.rows))

module _ {A S T : Type 0} (around : A → Around) (stored : S → Stored T) (column : ColumnWith A S) where
  -- as many slots are there, so the same key is the first that is out of bounds
  out_of_bounds-seen : (keys : List ℤ) → first_out_of_bounds (λ key. key) (erase_type around stored column) keys
      ≡ first_out_of_bounds (λ key. key) column keys
  out_of_bounds-seen keys = ap (λ n. find (λ (key : ℤ). not (in_bounds n key)) keys) (length-seen around stored column)

-- what has no bytes never has too many
module _ {S T : Type 0} (stored : S → Stored T) (none : (x : S) → stored_bytes (stored x) ≡ []) where
  rows-none : (rows : List (Row S)) → map (λ (r : Row (List ℕ)). r.0)
      (map (λ (r : Row (Stored T)). (stored_bytes r.0, r.1)) (map (λ (r : Row S). (stored r.0, r.1)) rows))
      ≡ map (λ (r : Row S). []) rows
  rows-none [] = refl
  rows-none (r ∷ rows) = ap₂ (λ (x : List ℕ) rest. x ∷ rest) (none r.0) (rows-none rows)

  concat-none : (rows : List (Row S)) → concat (map {B = List ℕ} (λ (r : Row S). []) rows) ≡ []
  concat-none [] = refl
  concat-none (r ∷ rows) = concat-none rows

  over-none : (column : Column S) (most : ℕ) (keys : List ℤ)
      → taking_overflows most (λ key. key) (bytes_column (erase_type (λ _. nothing_around) stored column)) keys ≡ false
  unfolding erase_type bytes_column
  over-none column most keys =
      ap (λ items. nat_lt most (length (concat (at_keys (λ (key : ℤ). key) keys items)))) (rows-none column.rows)
      ∙ ap (λ items. nat_lt most (length (concat items)))
      (keys-map (λ (r : Row S). []) (λ (key : ℤ). key) keys column.rows)
      ∙ ap (λ bytes. nat_lt most (length bytes)) (concat-none (at_keys (λ (key : ℤ). key) keys column.rows))
      ∙ le-ltb most 0 (omega arith)

rows-bits : (T : Type 0) (rows : List (Row Bool))
    → map (λ (r : Row (Stored T)). (bit_in r.0, r.1)) (map (λ (r : Row Bool). (bit r.0, r.1)) rows) ≡ rows
rows-bits T [] = refl
rows-bits T ((b, mark) ∷ rows) = ap (λ rest. (b, mark) ∷ rest) (rows-bits T rows)

rows-bytes : (T : Type 0) (is_text : Bool) (rows : List (Row (List ℕ)))
    → map (λ (r : Row (Stored T)). (stored_bytes r.0, r.1)) (map (λ (r : Row (List ℕ)). (bytes_item is_text r.0, r.1)) rows)
    ≡ rows
rows-bytes T is_text [] = refl
rows-bytes T is_text ((bytes, mark) ∷ rows) = ap (λ rest. (bytes, mark) ∷ rest) (rows-bytes T is_text rows)

module _ (T : Type 0) where
  pub filter-value : (c : Column T) (filter : Column Bool)
      → erase_type {T = T} (λ _. nothing_around) value (filtered tt c filter)
      ≡ filtered nothing_around (erase_type {T = T} (λ _. nothing_around) value c) filter
  filter-value c filter = filter-seen (λ _. nothing_around) value tt refl c filter

  pub filter-bit : (c : Column Bool) (filter : Column Bool)
      → erase_type {T = T} (λ _. nothing_around) bit (filtered tt c filter)
      ≡ filtered nothing_around (erase_type {T = T} (λ _. nothing_around) bit c) filter
  filter-bit c filter = filter-seen (λ _. nothing_around) bit tt refl c filter

  pub filter-pieces : (is_text : Bool) (c : ByteColumn) (filter : Column Bool)
      → erase_type {T = T} (λ around. around) (bytes_item is_text) (filtered nothing_around c filter)
      ≡ filtered nothing_around (erase_type {T = T} (λ around. around) (bytes_item is_text) c) filter
  filter-pieces is_text c filter = filter-seen (λ around. around) (bytes_item is_text) nothing_around refl c filter

  over-value : (c : Column T) (most : ℕ) (keys : List ℤ)
      → taking_overflows most (λ key. key) (bytes_column (erase_type {T = T} (λ _. nothing_around) value c)) keys
      ≡ false
  over-value c most keys = over-none value (λ x. refl) c most keys

  over-bit : (c : Column Bool) (most : ℕ) (keys : List ℤ)
      → taking_overflows most (λ key. key) (bytes_column (erase_type {T = T} (λ _. nothing_around) bit c)) keys ≡ false
  over-bit c most keys = over-none bit (λ x. refl) c most keys

  pub bits-seen : (c : Column Bool) → bits_column (erase_type {T = T} (λ _. nothing_around) bit c) ≡ c
  unfolding erase_type bits_column
  bits-seen c = ap (λ rows. let whole : Column Bool =
      record { data_type = c.data_type; around = tt; rows = rows; held = c.held } in whole) (rows-bits T c.rows)

  pub bytes-seen : (is_text : Bool) (c : ByteColumn)
      → bytes_column (erase_type {T = T} (λ around. around) (bytes_item is_text) c) ≡ c
  unfolding erase_type bytes_column
  bytes-seen is_text c = ap (λ rows. let whole : ByteColumn =
      record { data_type = c.data_type; around = c.around; rows = rows; held = c.held } in whole)
      (rows-bytes T is_text c.rows)

-- rows that were taken, or why none were
found-none : (found : Option ℤ) (over : Bool) (X R : Type 0) (S : ℤ → Type 0) → MatchOption found ⊤ (λ key. ⊥)
    → over ≡ false → R → MatchOption found (MatchBool over X R) S
found-none None over X R S none is made = rw is made
found-none (Some key) over X R S none is made = absurd none

refused-so : {T : Type 0} (e : Error) (found : Option ℤ) (over : Bool) (transition : model.Transition T)
    → MatchOption found ⊤ (λ key. refusal e ≡ key_refusal key) → (found ≡ None → e ≡ refused_growth over)
    → MatchOption found (unless_over None over (memory None transition) (refused (refusal e)) None)
    (λ key. answers {T = T} None (refused (key_refusal key)) (refused (refusal e)) None)
refused-so e None true transition out_of_bounds err = rw (err refl) (refl, refl)
refused-so e None false transition out_of_bounds err = rw (err refl) refl
refused-so e (Some key) over transition out_of_bounds err = (ap refused out_of_bounds, refl)

module _ {A S T : Type 0} (around : A → Around) (stored : S → Stored T) (nothing : A)
    (is : around nothing ≡ nothing_around) (sort : ValueKind) (column : ColumnWith A S) (most : ℕ) (keys : List ℤ)
    (over : Bool) (is-over : taking_overflows most (λ key. key) (bytes_column (erase_type around stored column)) keys
    ≡ over) where
  abbrev array : ColumnWith A S → Value T
  array c = record { shape = shaped frozen sort; column = erase_type around stored c }

  array-taken : (made : ColumnWith A S) → MatchOption (first_out_of_bounds (λ key. key) column keys) ⊤ (λ key. ⊥)
      → over ≡ false → made ≡ taken nothing (λ key. key) column keys
      → Taken most keys (array column) done (Some (array made))
  array-taken made out_of_bounds fits is-made =
      found-none (first_out_of_bounds (λ key. key) (erase_type around stored column) keys) _ _ _ _
      (subst (λ (found : Option ℤ). MatchOption found ⊤ (λ key. ⊥)) (sym (out_of_bounds-seen around stored column keys))
      out_of_bounds) (is-over ∙ fits) (
        refl,
        ap (λ c. Some (array c)) is-made ∙ ap
            (λ c. let whole : Option (Value T) = Some (record { shape = shaped frozen sort; column = c }) in whole)
            (take-seen around stored nothing is column keys),
      )

  array-refused : (e : Error) → MatchOption (first_out_of_bounds (λ key. key) column keys) ⊤
      (λ key. refusal e ≡ key_refusal key)
      → (first_out_of_bounds (λ key. key) column keys ≡ None → e ≡ refused_growth over)
      → Taken most keys (array column) (refused (refusal e)) None
  array-refused e out_of_bounds err =
      refused-so e (first_out_of_bounds (λ key. key) (erase_type around stored column) keys)
      (taking_overflows most (λ key. key) (bytes_column (erase_type around stored column)) keys)
      (leaves (with_column (array column) (taken nothing_around (λ key. key) (erase_type around stored column) keys)))
      (subst (λ (found : Option ℤ). MatchOption found ⊤ (λ key. refusal e ≡ key_refusal key))
      (sym (out_of_bounds-seen around stored column keys)) out_of_bounds)
      (λ none. err (sym (out_of_bounds-seen around stored column keys) ∙ none) ∙ ap refused_growth (sym is-over))

module _ (T : Type 0) (most : ℕ) (keys : List ℤ) where
  pub values-taken : (column made : Column T) → MatchOption (first_out_of_bounds (λ key. key) column keys) ⊤ (λ key. ⊥)
      → made ≡ taken tt (λ key. key) column keys
      → Taken most keys (native_value frozen column) done (Some (native_value frozen made))
  values-taken column made out_of_bounds is-made =
      array-taken (λ _. nothing_around) value tt refl native column most keys false (over-value T column most keys)
      made out_of_bounds refl is-made

  pub values-refused : (column : Column T) (e : Error)
      → MatchOption (first_out_of_bounds (λ key. key) column keys) ⊤ (λ key. refusal e ≡ key_refusal key)
      → (first_out_of_bounds (λ key. key) column keys ≡ None → e ≡ error.OutOfMemory)
      → Taken most keys (native_value frozen column) (refused (refusal e)) None
  values-refused column e out_of_bounds err = array-refused (λ _. nothing_around) value tt refl native column most
      keys false
      (over-value T column most keys) e out_of_bounds err

  pub bits-taken : (column made : Column Bool) → MatchOption (first_out_of_bounds (λ key. key) column keys) ⊤ (λ key. ⊥)
      → made ≡ taken tt (λ key. key) column keys
      → Taken {T = T} most keys (boolean_value frozen column) done (Some (boolean_value frozen made))
  bits-taken column made out_of_bounds is-made = array-taken (λ _. nothing_around) bit tt refl boolean column most
      keys false
      (over-bit T column most keys) made out_of_bounds refl is-made

  pub bits-refused : (column : Column Bool) (e : Error)
      → MatchOption (first_out_of_bounds (λ key. key) column keys) ⊤ (λ key. refusal e ≡ key_refusal key)
      → (first_out_of_bounds (λ key. key) column keys ≡ None → e ≡ error.OutOfMemory)
      → Taken {T = T} most keys (boolean_value frozen column) (refused (refusal e)) None
  bits-refused column e out_of_bounds err = array-refused (λ _. nothing_around) bit tt refl boolean column most keys
      false
      (over-bit T column most keys) e out_of_bounds err

  module _ (is_text : Bool) (column : ByteColumn) where
    over-pieces : taking_overflows most (λ key. key)
        (bytes_column (erase_type {T = T} (λ around. around) (bytes_item is_text) column)) keys
        ≡ taking_overflows most (λ key. key) column keys
    over-pieces = ap (λ c. taking_overflows most (λ key. key) c keys) (bytes-seen T is_text column)

    pub pieces-taken : (made : ByteColumn) → MatchOption (first_out_of_bounds (λ key. key) column keys) ⊤ (λ key. ⊥)
        → (taking_overflows most (λ key. key) column keys ≡ false)
        × (made ≡ taken nothing_around (λ key. key) column keys)
        → Taken {T = T} most keys (bytes_value frozen is_text column) done (Some (bytes_value frozen is_text made))
    pieces-taken made out_of_bounds is = array-taken (λ around. around) (bytes_item is_text) nothing_around refl
        (var_binary is_text)
        column most keys (taking_overflows most (λ key. key) column keys) over-pieces made out_of_bounds is.0 is.1

    pub pieces-refused : (e : Error) → MatchOption (first_out_of_bounds (λ key. key) column keys) ⊤
        (λ key. refusal e ≡ key_refusal key) → (first_out_of_bounds (λ key. key) column keys ≡ None
        → e ≡ refused_growth (taking_overflows most (λ key. key) column keys))
        → Taken {T = T} most keys (bytes_value frozen is_text column) (refused (refusal e)) None
    pieces-refused e out_of_bounds err = array-refused (λ around. around) (bytes_item is_text) nothing_around refl
        (var_binary is_text) column most keys (taking_overflows most (λ key. key) column keys) over-pieces e
        out_of_bounds err

pub ruleset seen_choices = (filter-value, filter-bit, filter-pieces, bytes-seen)

pub ruleset seen_bits = (bits-seen)
