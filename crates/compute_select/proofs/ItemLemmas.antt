-- Items that kernels select, and arrays of items.
use Rattle.std.proofs.Common.{◌≡◌, ◌∙◌, ◌&&◌, ℕ, ◌+◌, ◌<◌, ◌≤◌, zero, suc, Bool, true, false, if◌then◌else◌, not, List}
use Rattle.std.proofs.Common.{[], ◌∷◌, map, length, take, slice_get, Option, Some, None, unwrap_or, refl, ap, sym}
use Rattle.std.proofs.Common.{subst, arith, length-append, get_or, ℤ, ◌-◌, ◌^◌, option_and_then}
use Rattle.std.proofs.Common.{◌⊎◌, inl, inr}
use Rattle.std.specs.Prelude.{⊤}
use Rattle.std.specs.List.{concat}
use Rattle.std.proofs.lemmas.Bool.{cases_lt, le-ltb, lt-ltb}
use Rattle.std.proofs.lemmas.List.{length-map}
use Rattle.std.proofs.lemmas.Option.{slice_get-get_or, slice_get_past}
use Rattle.arrow_types.specs.IndexKey.{index_of}
use Rattle.arrow_types.specs.Types.{binary, plain}
use Rattle.arrow_types.specs.declared.error.Error.{Error}
use Rattle.arrow_types.specs.declared.error.Error.TheVariants as error
use Rattle.arrow_types.proofs.CallerLemmas.{get-map}
use Rattle.arrow_memory.specs.Offsets.{MatchGrowth}
use Rattle.arrow_memory.specs.Rows.{Row, slot}
use Rattle.arrow_column.specs.Column.{append_slot, refused_growth, slots_fit, stored_values}
use Rattle.arrow_bytes.specs.Column.{ByteColumn, empty_bytes, item_overflows}
use Rattle.arrow_kernels.proofs.CallerLemmas.{more-bytes}
use Rattle.compute_select.specs.Selects.{chosen_slot, chosen_slots, items_fit, items_shown, slot_at_key, slots_at_keys, slots_null_if}
use Rattle.compute_select.proofs.ShownLemmas.{StoresShown}

-- ---- the items of slots

pub stores-items : (slots : List (Option (List ℕ))) → StoresShown (items_shown slots) slots
stores-items [] = tt
stores-items (Some item ∷ slots) = (refl, stores-items slots)
stores-items (None ∷ slots) = stores-items slots

-- what an item shows, by its mark
pub null-item : (rows : List (Row (List ℕ))) (i : ℕ) → slice_get (map (λ (row : Row (List ℕ)). row.1) rows) i ≡ Some false
    → slice_get (items_shown (map slot rows)) i ≡ Some []
null-item [] i e = absurd (cc)
null-item ((item, true) ∷ rows) zero e = cc
null-item ((item, false) ∷ rows) zero e = refl
null-item (row ∷ rows) (suc i) e = null-item rows i e

pub valid-item : (rows : List (Row (List ℕ))) (i : ℕ) (x : List ℕ)
    → slice_get (map (λ (row : Row (List ℕ)). row.1) rows) i ≡ Some true
    → slice_get (map (λ (row : Row (List ℕ)). row.0) rows) i ≡ Some x
    → slice_get (items_shown (map slot rows)) i ≡ Some x
valid-item [] i x e f = absurd (cc)
valid-item ((item, true) ∷ rows) zero x e f = f
valid-item ((item, false) ∷ rows) zero x e f = cc
valid-item (row ∷ rows) (suc i) x e f = valid-item rows i x e f

-- the item that a predicate chooses
abbrev pub chosen_item : Option Bool → List ℕ → List ℕ → List ℕ
chosen_item (Some true) a b = a
chosen_item (Some false) a b = b
chosen_item None a b = []

chosen-shows : (p : Option Bool) (x y : Option (List ℕ)) (a b : List ℕ) → unwrap_or x [] ≡ a → unwrap_or y [] ≡ b
    → unwrap_or (chosen_slot p x y) [] ≡ chosen_item p a b
chosen-shows (Some true) x y a b e f = e
chosen-shows (Some false) x y a b e f = f
chosen-shows None x y a b e f = refl

pub item-chosen : (ps : List (Option Bool)) (xs ys : List (Option (List ℕ))) (i : ℕ) (p : Option Bool) (a b : List ℕ)
    → slice_get ps i ≡ Some p → slice_get (items_shown xs) i ≡ Some a → slice_get (items_shown ys) i ≡ Some b
    → slice_get (items_shown (chosen_slots ps xs ys)) i ≡ Some (chosen_item p a b)
item-chosen [] xs ys i p a b e f g = absurd (cc)
item-chosen (q ∷ ps) [] ys i p a b e f g = absurd (cc)
item-chosen (q ∷ ps) (x ∷ xs) [] i p a b e f g = absurd (cc)
item-chosen (q ∷ ps) (x ∷ xs) (y ∷ ys) zero p a b e f g =
    let here : q ≡ p = cc in
    let left : unwrap_or x [] ≡ a = cc in
    let right : unwrap_or y [] ≡ b = cc in
    ap (λ o. Some (unwrap_or (chosen_slot o x y) [])) here ∙ ap Some (chosen-shows p x y a b left right)
item-chosen (q ∷ ps) (x ∷ xs) (y ∷ ys) (suc i) p a b e f g = item-chosen ps xs ys i p a b e f g

pub item-some : (slots : List (Option (List ℕ))) (i : ℕ) → i < length slots
    → slice_get (items_shown slots) i ≡ Some (get_or (items_shown slots) i [])
item-some slots i low = slice_get-get_or (items_shown slots) i []
    (omega (arith, low, length-map slots (λ item. unwrap_or item [])))

-- the item at a key: of a null key, of one in bounds, and of one that is not
module _ {K : Type 0} (number : K → ℤ) (slots : List (Option (List ℕ))) (keys : List (Option K)) (i : ℕ) where
  abbrev item_of : Option K → List ℕ
  item_of key = unwrap_or (slot_at_key number slots key) []

  item-keyed : (key : Option K) → slice_get keys i ≡ Some key
      → slice_get (items_shown (slots_at_keys number slots keys)) i ≡ Some (item_of key)
  item-keyed key e =
      get-map (λ item. unwrap_or item []) (slots_at_keys number slots keys) i (slot_at_key number slots key)
      (get-map (slot_at_key number slots) keys i key e)

  pub item-unkeyed : slice_get keys i ≡ Some None → slice_get (items_shown (slots_at_keys number slots keys)) i ≡ Some []
  item-unkeyed e = item-keyed None e

  shown-within : (place : Option ℕ) (index : ℕ) (x : List ℕ) → index ≡ unwrap_or place (2 ^ 64 - 1)
      → index < 2 ^ 64 - 1 → slice_get (items_shown slots) index ≡ Some x
      → unwrap_or (unwrap_or (option_and_then (slice_get slots) place) None) [] ≡ x
  shown-within None index x is low found = absurd (omega (arith, is, low))
  shown-within (Some place) index x is low found =
      by_slot slots place x (ap (slice_get (items_shown slots)) (sym is) ∙ found)
    where
      by_slot : (slots : List (Option (List ℕ))) (place : ℕ) (x : List ℕ) → slice_get (items_shown slots) place ≡ Some x
          → unwrap_or (unwrap_or (slice_get slots place) None) [] ≡ x
      by_slot [] place x e = absurd (cc)
      by_slot (s ∷ slots) zero x e = let here : unwrap_or s [] ≡ x = cc in here
      by_slot (s ∷ slots) (suc place) x e = by_slot slots place x e

  shown-past : (place : Option ℕ) (index : ℕ) → index ≡ unwrap_or place (2 ^ 64 - 1) → length slots ≤ index
      → unwrap_or (unwrap_or (option_and_then (slice_get slots) place) None) [] ≡ []
  shown-past None index is past = refl
  shown-past (Some place) index is past =
      ap (λ s. unwrap_or (unwrap_or s None) []) (slice_get_past slots place (omega (arith, is, past)))

  pub item-within : (key : K) (index : ℕ) (x : List ℕ) → slice_get keys i ≡ Some (Some key)
      → index ≡ unwrap_or (index_of (number key)) (2 ^ 64 - 1) → index < 2 ^ 64 - 1
      → slice_get (items_shown slots) index ≡ Some x
      → slice_get (items_shown (slots_at_keys number slots keys)) i ≡ Some x
  item-within key index x e is low found =
      item-keyed (Some key) e ∙ ap Some (shown-within (index_of (number key)) index x is low found)

  pub item-past : (key : K) (index : ℕ) → slice_get keys i ≡ Some (Some key)
      → index ≡ unwrap_or (index_of (number key)) (2 ^ 64 - 1) → length slots ≤ index
      → slice_get (items_shown (slots_at_keys number slots keys)) i ≡ Some []
  item-past key index e is past = item-keyed (Some key) e ∙ ap Some (shown-past (index_of (number key)) index is past)

-- ---- the bytes of items

pub some-shorter : (n : ℕ) (items : List (List ℕ)) → length (concat (take n items)) ≤ length (concat items)
some-shorter zero items = omega arith
some-shorter (suc n) [] = omega arith
some-shorter (suc n) (item ∷ items) = omega (
  arith,
  length-append item (concat (take n items)),
  length-append item (concat items),
  some-shorter n items,
)

-- ---- whether items fit

abbrev bytes_before : ByteColumn → ℕ
bytes_before column = length column.around.lead + length (concat (stored_values column))

module _ (most : ℕ) where
  abbrev fits : ByteColumn → List (Option (List ℕ)) → Bool
  fits column slots = slots_fit (item_overflows (λ bytes. bytes) most) (λ bytes. bytes) [] column slots

  fits-behind : (c : ByteColumn) (slots : List (Option (List ℕ)))
      → bytes_before c + length (concat (items_shown slots)) ≤ most → fits c slots ≡ true
  fits-behind c [] within = refl
  fits-behind c (None ∷ slots) within =
      fits-behind (append_slot [] c None) slots (omega (arith, within, more-bytes c.rows [] false))
  fits-behind c (Some item ∷ slots) within =
      let long = length-append item (concat (items_shown slots)) in
      ap (λ b. not b && fits (append_slot [] c (Some item)) slots)
      (le-ltb most (bytes_before c + length item) (omega (arith, within, long)))
      ∙ fits-behind (append_slot [] c (Some item)) slots (omega (arith, within, long, more-bytes c.rows item true))

  over-item : (c : ByteColumn) (item : List ℕ) (slots : List (Option (List ℕ)))
      → (bytes_before c + length item ≤ most → fits (append_slot [] c (Some item)) slots ≡ false)
      → (most < bytes_before c + length item) ⊎ (bytes_before c + length item ≤ most)
      → fits c (Some item ∷ slots) ≡ false
  over-item c item slots rest (inl over) =
      ap (λ b. not b && fits (append_slot [] c (Some item)) slots) (lt-ltb most (bytes_before c + length item) over)
  over-item c item slots rest (inr within) =
      ap (λ b. not b && fits (append_slot [] c (Some item)) slots) (le-ltb most (bytes_before c + length item) within)
      ∙ rest within

  over-behind : (c : ByteColumn) (slots : List (Option (List ℕ))) → bytes_before c ≤ most
      → most < bytes_before c + length (concat (items_shown slots)) → fits c slots ≡ false
  over-behind c [] low past = absurd (omega (arith, low, past))
  over-behind c (None ∷ slots) low past =
      over-behind (append_slot [] c None) slots (omega (arith, low, more-bytes c.rows [] false))
      (omega (arith, past, more-bytes c.rows [] false))
  over-behind c (Some item ∷ slots) low past =
      over-item c item slots (λ within. over-behind (append_slot [] c (Some item)) slots
      (omega (arith, within, more-bytes c.rows item true))
      (omega (arith, past, length-append item (concat (items_shown slots)), more-bytes c.rows item true)))
      (cases_lt most (bytes_before c + length item))

  pub items-within : (slots : List (Option (List ℕ))) → length (concat (items_shown slots)) ≤ most
      → items_fit most slots ≡ true
  items-within slots within = fits-behind (empty_bytes (plain binary)) slots (omega (arith, within))

  pub items-past : (slots : List (Option (List ℕ))) → most < length (concat (items_shown slots))
      → items_fit most slots ≡ false
  items-past slots past = over-behind (empty_bytes (plain binary)) slots (omega arith) (omega (arith, past))

  -- why items are refused
  pub items-refused : (slots : List (Option (List ℕ))) (e : Error)
      → MatchGrowth e (most < length (concat (items_shown slots))) ⊤ → MatchGrowth e (items_fit most slots ≡ false) ⊤
  items-refused slots (error.OutOfSpec text) why = why
  items-refused slots error.OutOfMemory why = tt
  items-refused slots error.Overflow why = items-past slots why

-- ---- items and nulls are no longer than the items alone

left-if : (b : Bool) (v : List ℕ) → length (unwrap_or (if b then None else Some v) []) ≤ length v
left-if true v = omega arith
left-if false v = omega arith

pub left-within : (same : List ℕ → List ℕ → Bool) (xs ys : List (Row (List ℕ)))
    → length (concat (items_shown (slots_null_if same (map slot xs) (map slot ys))))
    ≤ length (concat (map (λ (row : Row (List ℕ)). row.0) xs))
left-within same [] ys = omega arith
left-within same (x ∷ xs) [] = omega arith
left-within same ((v, true) ∷ xs) ((w, true) ∷ ys) =
    let rest = concat (items_shown (slots_null_if same (map slot xs) (map slot ys))) in
    let all = concat (map (λ (row : Row (List ℕ)). row.0) xs) in omega (
      arith,
      left-if (same v w) v,
      length-append (unwrap_or (if same v w then None else Some v) []) rest,
      length-append v all,
      left-within same xs ys,
    )
left-within same ((v, true) ∷ xs) ((w, false) ∷ ys) =
    let rest = concat (items_shown (slots_null_if same (map slot xs) (map slot ys))) in
    let all = concat (map (λ (row : Row (List ℕ)). row.0) xs) in
    omega (arith, length-append v rest, length-append v all, left-within same xs ys)
left-within same ((v, false) ∷ xs) (y ∷ ys) =
    let all = concat (map (λ (row : Row (List ℕ)). row.0) xs) in
    omega (arith, length-append v all, left-within same xs ys)

-- ---- refusals

-- why a growth was refused
pub growth-refused : (overflows : Bool) (e : Error) → e ≡ refused_growth overflows
    → MatchGrowth e (overflows ≡ true) ⊤
growth-refused true e is = subst (λ x. MatchGrowth x (true ≡ true) ⊤) (sym is) refl
growth-refused false e is = subst (λ x. MatchGrowth x (false ≡ true) ⊤) (sym is) tt
