-- Seeing a column over what slots store, whatever their sort, commutes with whatever is done to columns.
use Rattle.std.proofs.Common.{◌≡◌, ◌↔◌, ℕ, zero, suc, ◌+◌, ◌-◌, ◌≤◌, Bool, true, false, not, ◌&&◌, ◌||◌, List, []}
use Rattle.std.proofs.Common.{◌∷◌, ◌++◌, length, map, take, drop, slice_get, Option, Some, None}
use Rattle.std.proofs.Common.{option_map, option_and_then, is_some, if◌then◌else◌, refl, sym, ap, ap₂, ◌∙◌, arith}
use Rattle.std.specs.List.{zip, list_all, concat}
use Rattle.std.proofs.lemmas.List.{drop-map, length-map, map-append, take-map}
use Rattle.std.proofs.lemmas.Option.{slice_get-map, slice_get_past}
use Rattle.arrow_types.specs.Types.{LogicalType}
use Rattle.arrow_types.proofs.CallerLemmas.{map-slice_set}
use Rattle.arrow_memory.specs.Rows.{Row, slot, rows_of}
use Rattle.arrow_column.specs.Column.{ColumnWith, Column, cut, column_with, stored_values, marks_of, slots_of}
use Rattle.arrow_column.specs.Column.{all_valid, cut_with, append_slot, append_slots, append_values, append_nulls}
use Rattle.arrow_column.specs.Column.{last_slot, without_last, without_needless_mask, joined, with_slot, with_mask}
use Rattle.arrow_column.specs.Column.{with_stored, with_type}
use Rattle.arrow_bytes.specs.Pieces.{Around, nothing_around, around_cut}
use Rattle.arrow_model.specs.Item.{Stored, value, bit, bytes_item, stored_bytes}
use Rattle.arrow_bytes.specs.Column.{ByteColumn}
use Rattle.arrow_entry.specs.Entry.{erase_type}

module _ {A S T : Type 0} (around : A → Around) (stored : S → Stored T) where
  -- a row, and rows
  row : Row S → Row (Stored T)
  row r = (stored r.0, r.1)

  rows-stored : (rows : List (Row S))
      → map (λ (r : Row (Stored T)). r.0) (map (λ (r : Row S). (stored r.0, r.1)) rows)
      ≡ map stored (map (λ (r : Row S). r.0) rows)
  rows-stored [] = refl
  rows-stored (r ∷ rows) = ap (λ rest. stored r.0 ∷ rest) (rows-stored rows)

  rows-marks : (rows : List (Row S))
      → map (λ (r : Row (Stored T)). r.1) (map (λ (r : Row S). (stored r.0, r.1)) rows)
      ≡ map (λ (r : Row S). r.1) rows
  rows-marks [] = refl
  rows-marks (r ∷ rows) = ap (λ rest. r.1 ∷ rest) (rows-marks rows)

  row-slot : (s : S) (mark : Bool)
      → (if mark then Some (stored s) else None) ≡ option_map stored (if mark then Some s else None)
  row-slot s true = refl
  row-slot s false = refl

  rows-slots : (rows : List (Row S))
      → map slot (map (λ (r : Row S). (stored r.0, r.1)) rows) ≡ map (option_map stored) (map slot rows)
  rows-slots [] = refl
  rows-slots (r ∷ rows) = ap₂ (λ first rest. first ∷ rest) (row-slot r.0 r.1) (rows-slots rows)

  rows-valid : (rows : List (Row S))
      → list_all (λ (r : Row (Stored T)). r.1) (map (λ (r : Row S). (stored r.0, r.1)) rows)
      ≡ list_all (λ (r : Row S). r.1) rows
  rows-valid [] = refl
  rows-valid (r ∷ rows) = ap (λ rest. r.1 && rest) (rows-valid rows)

  rows-zip : (values : List S) (marks : List Bool)
      → map (λ (r : Row S). (stored r.0, r.1)) (zip values marks) ≡ zip (map stored values) marks
  rows-zip [] marks = refl
  rows-zip (v ∷ values) [] = refl
  rows-zip (v ∷ values) (m ∷ marks) = ap (λ rest. (stored v, m) ∷ rest) (rows-zip values marks)

  rows-all : (values : List S) (mark : Bool)
      → map (λ (r : Row S). (stored r.0, r.1)) (map {B = Row S} (λ value. (value, mark)) values)
      ≡ map {B = Row (Stored T)} (λ value. (value, mark)) (map stored values)
  rows-all [] mark = refl
  rows-all (v ∷ values) mark = ap (λ rest. (stored v, mark) ∷ rest) (rows-all values mark)

  rows-parts : (values : List S) (mask : Option (List Bool))
      → map (λ (r : Row S). (stored r.0, r.1)) (rows_of values mask) ≡ rows_of (map stored values) mask
  rows-parts values None = rows-all values true
  rows-parts values (Some marks) = rows-zip values marks

  -- what is read of a column
  pub length-seen : (c : ColumnWith A S) → length (erase_type around stored c).rows ≡ length c.rows
  unfolding erase_type
  length-seen c = length-map c.rows _

  pub length-stored : (c : ColumnWith A S) → length (stored_values c) ≡ length (erase_type around stored c).rows
  unfolding erase_type
  length-stored c = length-map c.rows _ ∙ sym (length-map c.rows _)

  pub type-seen : (c : ColumnWith A S) → (erase_type around stored c).data_type ≡ c.data_type
  unfolding erase_type
  type-seen c = refl

  pub held-seen : (c : ColumnWith A S) → (erase_type around stored c).held ≡ c.held
  unfolding erase_type
  held-seen c = refl

  pub around-seen : (c : ColumnWith A S) → (erase_type around stored c).around ≡ around c.around
  unfolding erase_type
  around-seen c = refl

  pub stored-seen : (c : ColumnWith A S) → stored_values (erase_type around stored c) ≡ map stored (stored_values c)
  unfolding erase_type
  stored-seen c = rows-stored c.rows

  pub marks-seen : (c : ColumnWith A S) → marks_of (erase_type around stored c) ≡ marks_of c
  unfolding erase_type
  marks-seen c = rows-marks c.rows

  pub slots-seen : (c : ColumnWith A S) → slots_of (erase_type around stored c) ≡ map (option_map stored) (slots_of c)
  unfolding erase_type
  slots-seen c = rows-slots c.rows

  pub valid-seen : (c : ColumnWith A S) → all_valid (erase_type around stored c) ≡ all_valid c
  unfolding erase_type
  valid-seen c = rows-valid c.rows

  pub get-stored : (c : ColumnWith A S) (i : ℕ) (x : S) → slice_get (stored_values c) i ≡ Some x
      → slice_get (stored_values (erase_type around stored c)) i ≡ Some (stored x)
  get-stored c i x e = ap (λ xs. slice_get xs i) (stored-seen c) ∙ slice_get-map stored (stored_values c) i
      ∙ ap (option_map stored) e

  pub get-slot : (c : ColumnWith A S) (i : ℕ) (x : Option S) → slice_get (slots_of c) i ≡ Some x
      → slice_get (slots_of (erase_type around stored c)) i ≡ Some (option_map stored x)
  get-slot c i x e = ap (λ xs. slice_get xs i) (slots-seen c) ∙ slice_get-map (option_map stored) (slots_of c) i
      ∙ ap (option_map (option_map stored)) e

  pub get-mark : (c : ColumnWith A S) (i : ℕ) (x : Bool) → slice_get (marks_of c) i ≡ Some x
      → slice_get (marks_of (erase_type around stored c)) i ≡ Some x
  get-mark c i x e = ap (λ xs. slice_get xs i) (marks-seen c) ∙ e

  -- past the end there is nothing
  pub past-stored : (c : ColumnWith A S) (i : ℕ) → length c.rows ≤ i
      → slice_get (stored_values (erase_type around stored c)) i ≡ None
  unfolding erase_type
  past-stored c i past = slice_get_past (stored_values (erase_type around stored c)) i
      (omega (
        arith,
        length-map (map (λ (r : Row S). (stored r.0, r.1)) c.rows) (λ (r : Row (Stored T)). r.0),
        length-map {B = Row (Stored T)} c.rows (λ (r : Row S). (stored r.0, r.1)),
      ))

  pub past-slot : (c : ColumnWith A S) (i : ℕ) → length c.rows ≤ i
      → slice_get (slots_of (erase_type around stored c)) i ≡ None
  unfolding erase_type
  past-slot c i past = slice_get_past (slots_of (erase_type around stored c)) i
      (omega (
        arith,
        length-map (map (λ (r : Row S). (stored r.0, r.1)) c.rows) slot,
        length-map {B = Row (Stored T)}
            c.rows (λ (r : Row S). (stored r.0, r.1)),
      ))

  pub past-mark : (c : ColumnWith A S) (i : ℕ) → length c.rows ≤ i
      → slice_get (marks_of (erase_type around stored c)) i ≡ None
  unfolding erase_type
  past-mark c i past = slice_get_past (marks_of (erase_type around stored c)) i
      (omega (
        arith,
        length-map (map (λ (r : Row S). (stored r.0, r.1)) c.rows) (λ (r : Row (Stored T)). r.1),
        length-map {B = Row (Stored T)} c.rows (λ (r : Row S). (stored r.0, r.1)),
      ))

  -- columns from parts, and with other parts
  pub parts-seen : (t : LogicalType) (a : A) (values : List S) (mask : Option (List Bool))
      → erase_type around stored (column_with t a values mask) ≡ column_with t (around a) (map stored values) mask
  unfolding erase_type
  parts-seen t a values mask = ap
      (λ rows. let whole : ColumnWith Around (Stored T) = record
      { data_type = t; around = around a; rows = rows; held = is_some mask } in whole) (rows-parts values mask)

  with-rows : (c : ColumnWith A S) (rows : List (Row (Stored T))) (held : Bool) → ColumnWith Around (Stored T)
  with-rows c rows held = record { data_type = c.data_type; around = around c.around; rows = rows; held = held }

  pub append-seen : (default : S) (c : ColumnWith A S) (x : Option S)
      → erase_type around stored (append_slot default c x)
      ≡ append_slot (stored default) (erase_type around stored c) (option_map stored x)
  unfolding erase_type with-rows
  append-seen default c (Some x) = ap (λ rows. with-rows c rows c.held) (map-append _ c.rows ((x, true) ∷ []))
  append-seen default c None = ap (λ rows. with-rows c rows true) (map-append _ c.rows ((default, false) ∷ []))

  -- the two cases of it, as they compute
  pub append-none : (default : S) (c : ColumnWith A S)
      → erase_type around stored (record c { rows = c.rows ++ (default, false) ∷ []; held = true })
      ≡ record (erase_type around stored c) {
        rows = (erase_type around stored c).rows
            ++ (stored default, false) ∷ [];
        held = true;
      }
  append-none default c = append-seen default c None

  pub append-some : (c : ColumnWith A S) (x : S)
      → erase_type around stored (record c { rows = c.rows ++ (x, true) ∷ [] })
      ≡ record (erase_type around stored c) { rows = (erase_type around stored c).rows ++ (stored x, true) ∷ [] }
  append-some c x = append-seen x c (Some x)

  pub appends-seen : (default : S) (c : ColumnWith A S) (xs : List (Option S))
      → erase_type around stored (append_slots default c xs)
      ≡ append_slots (stored default) (erase_type around stored c) (map (option_map stored) xs)
  appends-seen default c [] = refl
  appends-seen default c (x ∷ xs) = appends-seen default (append_slot default c x) xs
      ∙ ap (λ d. append_slots (stored default) d (map (option_map stored) xs)) (append-seen default c x)

  pub values-seen : (c : ColumnWith A S) (xs : List S)
      → erase_type around stored (append_values c xs) ≡ append_values (erase_type around stored c) (map stored xs)
  unfolding erase_type with-rows
  values-seen c xs = ap (λ rows. with-rows c rows c.held) (map-append _ c.rows (rows_of xs None)
      ∙ ap (λ rest. map (λ (r : Row S). (stored r.0, r.1)) c.rows ++ rest) (rows-all xs true))

  pub nulls-seen : (c : ColumnWith A S) (xs : List S)
      → erase_type around stored (append_nulls c xs) ≡ append_nulls (erase_type around stored c) (map stored xs)
  unfolding erase_type with-rows
  nulls-seen c xs = ap (λ rows. with-rows c rows true) (map-append _ c.rows (map (λ value. (value, false)) xs)
      ∙ ap (λ rest. map (λ (r : Row S). (stored r.0, r.1)) c.rows ++ rest) (rows-all xs false))

  pub short-seen : (c : ColumnWith A S)
      → erase_type around stored (without_last c) ≡ without_last (erase_type around stored c)
  unfolding erase_type with-rows
  short-seen c = ap (λ rows. with-rows c rows c.held) (sym (take-map _ (length c.rows - 1) c.rows)
      ∙ ap (λ n. take (n - 1) (map (λ (r : Row S). (stored r.0, r.1)) c.rows)) (sym (length-map c.rows _)))

  pub last-seen : (c : ColumnWith A S) → last_slot (erase_type around stored c) ≡ option_map stored (last_slot c)
  unfolding erase_type
  last-seen c =
      ap (λ n. option_and_then slot (slice_get (map (λ (r : Row S). (stored r.0, r.1)) c.rows) (n - 1)))
      (length-map c.rows _)
      ∙ ap (option_and_then slot) (slice_get-map _ c.rows (length c.rows - 1))
      ∙ shown (slice_get c.rows (length c.rows - 1))
    where
      shown : (r : Option (Row S))
          → option_and_then slot (option_map (λ (r : Row S). (stored r.0, r.1)) r)
          ≡ option_map stored (option_and_then slot r)
      shown None = refl
      shown (Some r) = row-slot r.0 r.1

  -- there is a last slot exactly where there was one
  pub some-seen : (c : ColumnWith A S) → is_some (last_slot (erase_type around stored c)) ≡ is_some (last_slot c)
  some-seen c = ap is_some (last-seen c) ∙ some-map (last_slot c)
    where
      some-map : (x : Option S) → is_some (option_map stored x) ≡ is_some x
      some-map None = refl
      some-map (Some x) = refl

  pub frozen-seen : (c : ColumnWith A S)
      → erase_type around stored (without_needless_mask c) ≡ without_needless_mask (erase_type around stored c)
  unfolding erase_type with-rows
  frozen-seen c = ap (λ valid. with-rows c (map (λ (r : Row S). (stored r.0, r.1)) c.rows) (not valid))
      (sym (rows-valid c.rows))

  pub slot-seen : (default : S) (c : ColumnWith A S) (i : ℕ) (x : Option S)
      → erase_type around stored (with_slot default c i x)
      ≡ with_slot (stored default) (erase_type around stored c) i (option_map stored x)
  unfolding erase_type with-rows
  slot-seen default c i (Some x) = ap (λ rows. with-rows c rows c.held) (map-slice_set _ c.rows i (x, true))
  slot-seen default c i None = ap (λ rows. with-rows c rows true) (map-slice_set _ c.rows i (default, false))

  pub mask-seen : (c : ColumnWith A S) (mask : Option (List Bool))
      → erase_type around stored (with_mask c mask) ≡ with_mask (erase_type around stored c) mask
  unfolding erase_type with-rows
  mask-seen c mask = ap (λ rows. with-rows c rows (is_some mask)) (rows-parts (stored_values c) mask
      ∙ ap (λ values. rows_of values mask) (sym (rows-stored c.rows)))

  pub with-stored-seen : (c : ColumnWith A S) (xs : List S)
      → erase_type around stored (with_stored c xs) ≡ with_stored (erase_type around stored c) (map stored xs)
  unfolding erase_type with-rows
  with-stored-seen c xs = ap (λ rows. with-rows c rows c.held) (rows-zip xs (marks_of c)
      ∙ ap (zip (map stored xs)) (sym (rows-marks c.rows)))

  pub with-type-seen : (c : ColumnWith A S) (t : LogicalType)
      → erase_type around stored (with_type c t) ≡ with_type (erase_type around stored c) t
  unfolding erase_type
  with-type-seen c t = refl

  pub cut-seen : (cut_around : A → List S → ℕ → ℕ → A) (cut_stored : Around → List (Stored T) → ℕ → ℕ → Around)
      → ((a : A) (xs : List S) (i n : ℕ) → around (cut_around a xs i n) ≡ cut_stored (around a) (map stored xs) i n)
      → (c : ColumnWith A S) (i n : ℕ)
      → erase_type around stored (cut_with cut_around c i n)
      ≡ cut_with cut_stored (erase_type around stored c) i n
  unfolding erase_type
  cut-seen cut_around cut_stored same c i n =
      ap₂ (λ a rows. let whole : ColumnWith Around (Stored T) = record
      { data_type = c.data_type; around = a; rows = rows; held = c.held } in whole)
      (same c.around (stored_values c) i n ∙ ap (λ xs. cut_stored (around c.around) xs i n) (sym (rows-stored c.rows)))
      (sym (take-map _ n (drop i c.rows)) ∙ ap (take n) (sym (drop-map _ i c.rows)))

module _ {A B S T : Type 0} (around : A → Around) (around₂ : B → Around) (stored : S → Stored T) where
  pub joined-seen : (c : ColumnWith A S) (d : ColumnWith B S)
      → erase_type around stored (joined c d) ≡ joined (erase_type around stored c) (erase_type around₂ stored d)
  unfolding erase_type
  joined-seen c d = ap (λ rows. let whole : ColumnWith Around (Stored T) = record
      { data_type = c.data_type; around = around c.around; rows = rows; held = c.held || d.held } in whole)
      (map-append _ c.rows d.rows)

-- the bytes that items take up
pub pieces-again : (T : Type 0) (is_text : Bool) (xs : List (List ℕ))
    → map (stored_bytes {T = T}) (map (bytes_item is_text) xs) ≡ xs
pieces-again T is_text [] = refl
pieces-again T is_text (x ∷ xs) = ap (λ rest. x ∷ rest) (pieces-again T is_text xs)

pub no-bytes-value : {T : Type 0} (xs : List T) → concat (map stored_bytes (map value xs)) ≡ []
no-bytes-value [] = refl
no-bytes-value (x ∷ xs) = no-bytes-value xs

pub no-bytes-bit : (T : Type 0) (xs : List Bool) → concat (map (stored_bytes {T = T}) (map bit xs)) ≡ []
no-bytes-bit T [] = refl
no-bytes-bit T (x ∷ xs) = no-bytes-bit T xs

module _ (T : Type 0) {X : Type 0} (stored : X → Stored T) (none : (x : X) → stored_bytes (stored x) ≡ []) where
  none-all : (ys : List X) → concat (map stored_bytes (map stored ys)) ≡ []
  none-all [] = refl
  none-all (y ∷ ys) = ap₂ (λ a b. a ++ b) (none y) (none-all ys)

  none-front : (ys : List X) (m : ℕ) → concat (take m (map stored_bytes (map stored ys))) ≡ []
  none-front ys zero = refl
  none-front [] (suc m) = refl
  none-front (y ∷ ys) (suc m) = ap₂ (λ a b. a ++ b) (none y) (none-front ys m)

  none-back : (ys : List X) (m : ℕ) → concat (drop m (map stored_bytes (map stored ys))) ++ [] ≡ []
  none-back ys zero = ap (λ a. a ++ []) (none-all ys)
  none-back [] (suc m) = refl
  none-back (y ∷ ys) (suc m) = none-back ys m

  cut-none : (xs : List X) (i n : ℕ) → nothing_around ≡ around_cut nothing_around (map stored_bytes (map stored xs)) i n
  cut-none xs i n = λ k. record { lead = sym (none-front xs i) k; tail = sym (none-back xs (i + n)) k }

module _ (T : Type 0) where
  pub cut-pieces : (is_text : Bool) (c : ByteColumn) (i n : ℕ)
      → erase_type {T = T} (λ around. around) (bytes_item is_text) (cut_with around_cut c i n)
      ≡ cut_with (λ around items. around_cut around (map stored_bytes items))
      (erase_type {T = T} (λ around. around) (bytes_item is_text) c) i n
  cut-pieces is_text c i n = cut-seen (λ around. around) (bytes_item is_text) around_cut
      (λ around items. around_cut around (map stored_bytes items))
      (λ a xs i n. ap (λ ys. around_cut a ys i n) (sym (pieces-again T is_text xs))) c i n

  pub cut-value : (c : Column T) (i n : ℕ)
      → erase_type {T = T} (λ _. nothing_around) value (cut c i n)
      ≡ cut_with (λ around items. around_cut around (map stored_bytes items))
      (erase_type {T = T} (λ _. nothing_around) value c) i n
  cut-value c i n = cut-seen (λ _. nothing_around) value (λ a _ _ _. a)
      (λ around items. around_cut around (map stored_bytes items)) (λ a xs i n. cut-none T value (λ x. refl) xs i n) c i n

  pub cut-bit : (c : Column Bool) (i n : ℕ)
      → erase_type {T = T} (λ _. nothing_around) bit (cut c i n)
      ≡ cut_with (λ around items. around_cut around (map stored_bytes items))
      (erase_type {T = T} (λ _. nothing_around) bit c) i n
  cut-bit c i n = cut-seen (λ _. nothing_around) bit (λ a _ _ _. a)
      (λ around items. around_cut around (map stored_bytes items)) (λ a xs i n. cut-none T bit (λ x. refl) xs i n) c i n

-- a builder has no tail
pub thaw-pieces : {S T : Type 0} (stored : S → Stored T) (c : ColumnWith Around S)
    → erase_type (λ around. around) stored (record c { around = record c.around { tail = [] } })
    ≡ (let d : ColumnWith Around (Stored T) = erase_type (λ around. around) stored c in record d
    { around = record d.around { tail = [] } })
unfolding erase_type
thaw-pieces stored c = refl

pub thaw-plain : {S T : Type 0} (stored : S → Stored T) (c : Column S)
    → (let d : ColumnWith Around (Stored T) = erase_type (λ _. nothing_around) stored c in record d
    { around = record d.around { tail = [] } }) ≡ erase_type (λ _. nothing_around) stored c
unfolding erase_type
thaw-plain stored c = refl

-- an array that is made of a builder has none either, nor a mask that no slot needs
pub freeze-pieces : {S T : Type 0} (stored : S → Stored T) (c : ColumnWith Around S)
    → erase_type (λ around. around) stored
    (without_needless_mask (record c { around = record c.around { tail = [] } }))
    ≡ (let d : ColumnWith Around (Stored T) = erase_type (λ around. around) stored c in without_needless_mask
    (record d { around = record d.around { tail = [] } }))
freeze-pieces stored c = frozen-seen (λ around. around) stored (record c { around = record c.around { tail = [] } })
    ∙ ap without_needless_mask (thaw-pieces stored c)

pub freeze-plain : {S T : Type 0} (stored : S → Stored T) (c : Column S)
    → erase_type (λ _. nothing_around) stored (without_needless_mask c)
    ≡ (let d : ColumnWith Around (Stored T) = erase_type (λ _. nothing_around) stored c in without_needless_mask
    (record d { around = record d.around { tail = [] } }))
freeze-plain stored c = frozen-seen (λ _. nothing_around) stored c
    ∙ ap without_needless_mask (sym (thaw-plain stored c))

-- the slots are the same, seen so, exactly where they are the same
slots-back : {S X : Type 0} (stored : S → X) (back : X → Option S) → ((x : S) → back (stored x) ≡ Some x)
    → (xs : List (Option S)) → map (option_and_then back) (map (option_map stored) xs) ≡ xs
slots-back stored back again [] = refl
slots-back stored back again (None ∷ xs) = ap (λ rest. None ∷ rest) (slots-back stored back again xs)
slots-back stored back again (Some x ∷ xs) = ap₂ (λ first rest. first
    ∷ rest) (again x) (slots-back stored back again xs)

value_back : {T : Type 0} → Stored T → Option T
value_back (value x) = Some x
value_back _ = None

bit_back : {T : Type 0} → Stored T → Option Bool
bit_back (bit b) = Some b
bit_back _ = None

bytes_back : {T : Type 0} → Stored T → Option (List ℕ)
bytes_back x = Some (stored_bytes x)

value-again : {T : Type 0} (x : T) → value_back (value x) ≡ Some x
unfolding value_back
value-again x = refl

bit-again : (T : Type 0) (x : Bool) → bit_back {T = T} (bit x) ≡ Some x
unfolding bit_back
bit-again T x = refl

bytes-again : (T : Type 0) (is_text : Bool) (x : List ℕ) → bytes_back {T = T} (bytes_item is_text x) ≡ Some x
unfolding bytes_back
bytes-again T is_text x = refl

module _ {A S T : Type 0} (around : A → Around) (stored : S → Stored T) (back : Stored T → Option S) (again : (x : S)
    → back (stored x) ≡ Some x) where
  same-slots : (c d : ColumnWith A S)
      → (slots_of c ≡ slots_of d) ↔ (slots_of (erase_type around stored c) ≡ slots_of (erase_type around stored d))
  same-slots c d = (
    λ e. slots-seen around stored c ∙ ap (map (option_map stored)) e ∙ sym (slots-seen around stored d),
    λ e. sym (slots-back stored back again (slots_of c))
        ∙ ap (map (option_and_then back)) (sym (slots-seen around stored c) ∙ e ∙ slots-seen around stored d)
        ∙ slots-back stored back again (slots_of d),
  )

pub same-values : {T : Type 0} (c d : Column T)
    → (slots_of c ≡ slots_of d) ↔ (slots_of (erase_type {T = T} (λ _. nothing_around) value c)
    ≡ slots_of (erase_type {T = T} (λ _. nothing_around) value d))
same-values {T} c d = same-slots {T = T} (λ _. nothing_around) value value_back value-again c d

pub same-bits : (T : Type 0) (c d : Column Bool)
    → (slots_of c ≡ slots_of d) ↔ (slots_of (erase_type {T = T} (λ _. nothing_around) bit c)
    ≡ slots_of (erase_type {T = T} (λ _. nothing_around) bit d))
same-bits T c d = same-slots {T = T} (λ _. nothing_around) bit bit_back (bit-again T) c d

pub same-pieces : (T : Type 0) (is_text : Bool) (c d : ByteColumn)
    → (slots_of c ≡ slots_of d) ↔ (slots_of (erase_type {T = T} (λ around. around) (bytes_item is_text) c)
    ≡ slots_of (erase_type {T = T} (λ around. around) (bytes_item is_text) d))
same-pieces T is_text c d = same-slots {T = T} (λ around. around) (bytes_item is_text) bytes_back
    (bytes-again T is_text) c d

pub ruleset seen_reads
    = (length-seen, type-seen, held-seen, around-seen, stored-seen, marks-seen, slots-seen, valid-seen, last-seen)

pub ruleset seen_bytes = (pieces-again, no-bytes-value, no-bytes-bit)

pub ruleset seen_cuts = (cut-pieces, cut-value, cut-bit)

pub ruleset seen_masks = (mask-seen)

pub ruleset seen_grows = (short-seen, some-seen, joined-seen)

pub ruleset seen_pushes = (append-none, append-some)

pub ruleset seen_counts = (length-stored)

pub ruleset seen_places = (get-stored, get-slot, get-mark, past-stored, past-slot, past-mark)
