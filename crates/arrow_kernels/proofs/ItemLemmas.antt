-- Lemmas about items that are appended one after the other, and how many bytes they have.
use Rattle.std.proofs.Common.{◌≡◌, ℕ, zero, suc, ◌+◌, ◌≤◌, ℤ, Bool, true, false, List, [], ◌∷◌, ◌++◌, length}
use Rattle.std.proofs.Common.{take, drop, sym, ap, ◌∙◌, arith, length-append, map}
use Rattle.std.specs.List.{concat}
use Rattle.std.proofs.lemmas.Bool.{le-ltb}
use Rattle.std.proofs.lemmas.List.{map-append, nil_from_length, take-append-drop}
use Rattle.std.proofs.lemmas.List.Elements.{filter_map-append}
use Rattle.arrow_types.proofs.CallerLemmas.{length-joined, length-push}
use Rattle.arrow_memory.specs.Rows.{Row}
use Rattle.arrow_check.specs.Pieces.{bytes_of}
use Rattle.arrow_bytes.specs.Pieces.{Pieces, append_items, bare_items, items_overflow}
use Rattle.arrow_bytes.specs.Selection.{at_key, at_keys, set_before}

-- ---- how many bytes items have

-- the first keys take no more bytes than all
pub keys-length : {K : Type 0} (number : K → ℤ) (n : ℕ) (keys : List K) (items : List (List ℕ))
    → length (concat (at_keys number (take n keys) items)) ≤ length (concat (at_keys number keys items))
keys-length number n keys items =
    let front = at_keys number (take n keys) items in
    let back = at_keys number (drop n keys) items in
    let whole : at_keys number keys items ≡ front ++ back =
    ap (λ ks. at_keys number ks items) (sym (take-append-drop n keys))
    ∙ filter_map-append (λ key. at_key items (number key)) (take n keys) (drop n keys) in
    omega (arith, ap (λ xs. length (concat xs)) whole, length-joined front back)

-- and with a row more
pub more-bytes : (rows : List (Row (List ℕ))) (item : List ℕ) (m : Bool)
    → length (concat (map (λ (row : Row (List ℕ)). row.0) (rows ++ (item, m) ∷ [])))
    ≡ length (concat (map (λ (row : Row (List ℕ)). row.0) rows)) + length item
more-bytes rows item m =
    ap (λ items. length (concat items)) (map-append (λ (row : Row (List ℕ)). row.0) rows ((item, m) ∷ []))
    ∙ length-push (map (λ (row : Row (List ℕ)). row.0) rows) item

-- the selected ones of the first items have no more bytes than all items
pub set-before-length : (n : ℕ) (marks : List Bool) (items : List (List ℕ))
    → length (concat (set_before n marks items)) ≤ length (concat items)
set-before-length zero marks items = omega arith
set-before-length (suc n) [] [] = omega arith
set-before-length (suc n) [] (item ∷ items) = omega arith
set-before-length (suc n) (mark ∷ marks) [] = omega arith
set-before-length (suc n) (true ∷ marks) (item ∷ items) = omega (
  arith,
  length-append item (concat (set_before n marks items)),
  length-append item (concat items),
  set-before-length n marks items,
)
set-before-length (suc n) (false ∷ marks) (item ∷ items) =
    omega (arith, length-append item (concat items), set-before-length n marks items)

-- ---- items behind others, with nothing around them

module _ (most : ℕ) (old : Pieces) (items more whole : List (List ℕ)) (was : old ≡ bare_items items)
    (is : items ++ more ≡ whole) where
  pub bare-grown : (new : Pieces) → new ≡ append_items old more → new ≡ bare_items whole
  bare-grown new grown = grown ∙ ap (λ pieces. append_items pieces more) was ∙ ap bare_items is

  -- items that end at most at the greatest offset do not overflow
  pub bare-fits : length (concat whole) ≤ most → items_overflow most old more ≡ false
  bare-fits within = ap (λ pieces. items_overflow most pieces more) was
      ∙ le-ltb most (0 + length (concat items) + length (concat more))
      (omega (arith, within, ap (λ xs. length (concat xs)) is, length-joined items more))

-- items that have all bytes have nothing around them
pub bare-around : (pieces : Pieces) → length (concat pieces.items)
    ≡ length (bytes_of pieces.around.lead pieces.items pieces.around.tail) → pieces ≡ bare_items pieces.items
bare-around pieces whole k = record {
  around = record {
    lead = nil_from_length pieces.around.lead none-before k;
    tail = nil_from_length pieces.around.tail none-after k;
  };
  items = pieces.items;
}
  where
    all : length (bytes_of pieces.around.lead pieces.items pieces.around.tail)
        ≡ length pieces.around.lead + (length (concat pieces.items) + length pieces.around.tail)
    all = length-append pieces.around.lead (concat pieces.items ++ pieces.around.tail)
        ∙ ap (λ n. length pieces.around.lead + n) (length-append (concat pieces.items) pieces.around.tail)

    none-before : length pieces.around.lead ≡ 0
    none-before = omega (arith, whole, all)

    none-after : length pieces.around.tail ≡ 0
    none-after = omega (arith, whole, all)
