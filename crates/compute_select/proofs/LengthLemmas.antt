-- Lengths of items.
use Rattle.std.proofs.Common.{◌≡◌, ◌∙◌, ℕ, ◌+◌, ◌-◌, ◌<◌, ◌≤◌, ℤ, pos, Bool, true, false, if◌then◌else◌, List, [], ◌∷◌, ◌++◌, map, length, take, drop, get_or, Some, None, is_some, option_map, slice_get, refl, ap, ap₂, sym, arith, true≢false, length-drop}
use Rattle.std.specs.Prelude.{IsTrue}
use Rattle.std.specs.List.{list_all}
use Rattle.std.proofs.lemmas.List.{length-map, length-take-le, map_more, map_push, take_all}
use Rattle.std.proofs.lemmas.Option.{get_or_from_slice_get, same_Some, slice_get_within}
use Rattle.arrow_check.specs.Pieces.{items_of}
use Rattle.arrow_column.specs.Column.{stored_values}
use Rattle.arrow_memory.specs.Offsets.{last_of}
use Rattle.arrow_memory.specs.Rows.{Row, rows_of, slot}
use Rattle.arrow_bytes.specs.Column.{ByteColumn, bytes_held, offsets_held}
use Rattle.arrow_bytes.proofs.CallerLemmas.{item-at, items-back, length-offsets, within-back}

pub count-held : (column : ByteColumn) (os : List ℕ) → os ≡ offsets_held column → length column.rows + 1 ≡ length os
count-held column os held = omega (
  arith,
  ap length held,
  length-offsets (length column.around.lead) (stored_values column),
  length-map column.rows (λ row. row.0),
)

-- an item has as many bytes as its offsets are apart
pub item-size : (column : ByteColumn) (os : List ℕ) (i : ℕ) (item : List ℕ) → os ≡ offsets_held column
    → i < length column.rows → get_or os (i + 1) 0 ≤ last_of os → slice_get (stored_values column) i ≡ Some item
    → get_or os (i + 1) 0 - get_or os i 0 ≡ length item
item-size column os i item held within ends at =
    let bytes : List ℕ = bytes_held column in
    let from : ℕ = get_or os i 0 in
    let to : ℕ = get_or os (i + 1) 0 in
    let place : i + 1 < length os = omega (arith, count-held column os held, within) in
    let all : items_of os bytes ≡ stored_values column =
    ap (λ offsets. items_of offsets bytes) held
    ∙ items-back column.around.lead (stored_values column) column.around.tail in
    let piece : item ≡ take (to - from) (drop from bytes) =
    same_Some item (take (to - from) (drop from bytes))
    (sym at ∙ ap (λ items. slice_get items i) (sym all) ∙ item-at os bytes i place) in
    let fits : last_of os ≤ length bytes =
    omega (arith, ap last_of held, within-back column.around.lead (stored_values column) column.around.tail) in
    let room : to - from ≤ length (drop from bytes) = omega (arith, length-drop from bytes, fits, ends) in
    sym (ap length piece ∙ length-take-le (to - from) (drop from bytes) room)

module _ {X : Type 0} (number : X → ℤ) where
  abbrev size : List ℕ → ℤ
  size item = pos (length item)

  -- numbers under the marks of items are shown where these are
  masked-shown : (rows : List (Row (List ℕ))) (values : List X) → map number values ≡ map size (map (λ row. row.0) rows)
      → map (option_map number) (map slot (rows_of values (Some (map (λ row. row.1) rows))))
      ≡ map (option_map size) (map slot rows)
  masked-shown [] [] same = refl
  masked-shown [] (v ∷ values) same = refl
  masked-shown (row ∷ rows) [] same = cc
  masked-shown ((item, true) ∷ rows) (v ∷ values) same =
      let first : number v ≡ size item = cc in
      let rest : map number values ≡ map size (map (λ row. row.0) rows) = cc in
      ap₂ (λ n ns. Some n ∷ ns) first (masked-shown rows values rest)
  masked-shown ((item, false) ∷ rows) (v ∷ values) same =
      let rest : map number values ≡ map size (map (λ row. row.0) rows) = cc in
      ap (λ ns. None ∷ ns) (masked-shown rows values rest)

  bare-shown : (rows : List (Row (List ℕ))) (values : List X) → map number values ≡ map size (map (λ row. row.0) rows)
      → IsTrue (list_all (λ row. row.1) rows)
      → map (option_map number) (map slot (rows_of values None)) ≡ map (option_map size) (map slot rows)
  bare-shown [] [] same valid = refl
  bare-shown [] (v ∷ values) same valid = cc
  bare-shown (row ∷ rows) [] same valid = cc
  bare-shown ((item, true) ∷ rows) (v ∷ values) same valid =
      let first : number v ≡ size item = cc in
      let rest : map number values ≡ map size (map (λ row. row.0) rows) = cc in
      ap₂ (λ n ns. Some n ∷ ns) first (bare-shown rows values rest valid)
  bare-shown ((item, false) ∷ rows) (v ∷ values) same valid = absurd (true≢false (sym valid))

  pub lengths-shown : (held : Bool) (rows : List (Row (List ℕ))) (values : List X)
      → map number values ≡ map size (map (λ row. row.0) rows)
      → (held ≡ false → IsTrue (list_all (λ row. row.1) rows))
      → map (option_map number)
      (map slot (rows_of values (if held then Some (map (λ row. row.1) rows) else None)))
      ≡ map (option_map size) (map slot rows)
  lengths-shown true rows values same valid = masked-shown rows values same
  lengths-shown false rows values same valid = bare-shown rows values same (valid refl)

pub held-mask : {X : Type 0} (held : Bool) (rows : List (Row X))
    → is_some (if held then Some (map (λ row. row.1) rows) else None) ≡ held
held-mask true rows = refl
held-mask false rows = refl

-- ---- lists that are mapped one by one

-- one more of what is made of each element of a list
pub next-mapped : {X Y Z : Type 0} (f : X → Y) (g : Z → Y) (xs : List X) (made : List Z) (i : ℕ) (x : X) (z : Z)
    → slice_get xs i ≡ Some x → map g made ≡ map f (take i xs) → g z ≡ f x
    → map g (made ++ z ∷ []) ≡ map f (take (i + 1) xs)
next-mapped f g xs made i x z found so_far same =
    map_push g made z ∙ ap₂ (λ ys y. ys ++ y ∷ []) so_far (same ∙ ap f (sym (get_or_from_slice_get xs i x x found)))
    ∙ sym (map_more f xs i x (slice_get_within xs i x found))

pub all-mapped : {X Y Z : Type 0} (f : X → Y) (g : Z → Y) (xs : List X) (made : List Z) (i : ℕ) → length xs ≤ i
    → map g made ≡ map f (take i xs) → map g made ≡ map f xs
all-mapped f g xs made i past so_far = so_far ∙ ap (map f) (take_all i xs past)
