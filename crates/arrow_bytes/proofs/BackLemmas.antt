-- The way back: the offsets and bytes of three pieces cut them out again.
use Rattle.std.proofs.Common.{◌≡◌, ℕ, zero, suc, ◌+◌, ◌-◌, ◌<◌, ◌≤◌, List, [], ◌∷◌, ◌++◌, length, take, drop}
use Rattle.std.proofs.Common.{get_or, refl, sym, ap, ap₂, ◌∙◌, arith, append_assoc, length-append}
use Rattle.std.specs.Prelude.{slice_range}
use Rattle.std.specs.List.{concat}
use Rattle.std.proofs.lemmas.List.{drop_at, take_at}
use Rattle.arrow_memory.specs.Offsets.{IsOffsets, NeverFalls, last_of}
use Rattle.arrow_column.specs.Column.{IsColumn, column_with, mask_of, stored_values}
use Rattle.arrow_column.proofs.CallerLemmas.{parts_again}
use Rattle.arrow_check.specs.Pieces.{bytes_of, ends_after, items_after, items_of, lead_of}
use Rattle.arrow_check.specs.Pieces.{offsets_of, tail_of}
use Rattle.arrow_bytes.specs.Column.{ByteColumn, byte_column, bytes_held, offsets_held}
use Rattle.arrow_bytes.specs.Pieces.{Around, around_of}

-- ---- offsets of items

length-ends : (start : ℕ) (items : List (List ℕ)) → length (ends_after start items) ≡ length items
length-ends start [] = refl
length-ends start (item ∷ items) = ap suc (length-ends (start + length item) items)

pub length-offsets : (start : ℕ) (items : List (List ℕ)) → length (offsets_of start items) ≡ length items + 1
length-offsets start items = omega (arith, length-ends start items)

last-end : (start : ℕ) (items : List (List ℕ))
    → get_or (offsets_of start items) (length (ends_after start items)) 0 ≡ start + length (concat items)
last-end start [] = omega arith
last-end start (item ∷ items) = omega (arith, last-end (start + length item) items, length-append item (concat items))

-- the last offset of items
pub last-offset : (start : ℕ) (items : List (List ℕ)) → last_of (offsets_of start items) ≡ start + length (concat items)
last-offset start items =
    let last : suc (length (ends_after start items)) - 1 ≡ length (ends_after start items) = omega arith in
    ap (λ i. get_or (offsets_of start items) i 0) last
    ∙ last-end start items

-- no offset of items is below the first
above-start : (start : ℕ) (items : List (List ℕ)) (i : ℕ)
    → i < length (offsets_of start items) → start ≤ get_or (offsets_of start items) i 0
above-start start items zero within = omega arith
above-start start [] (suc i) within = absurd (omega (arith, within))
above-start start (item ∷ items) (suc i) within =
    omega (arith, above-start (start + length item) items i (omega (arith, within)))

never-fall : (start : ℕ) (items : List (List ℕ)) → NeverFalls (offsets_of start items)
never-fall start items zero j up within = above-start start items j within
never-fall start items (suc i) zero up within = absurd (omega (arith, up))
never-fall start [] (suc i) (suc j) up within = absurd (omega (arith, within))
never-fall start (item ∷ items) (suc i) (suc j) up within =
    never-fall (start + length item) items i j (omega (arith, up)) (omega (arith, within))

-- the offsets of items are legal
pub legal-offsets : (start : ℕ) (items : List (List ℕ)) → IsOffsets (offsets_of start items)
legal-offsets start items = record { some = (omega arith); order = never-fall start items }

-- ---- the three pieces

-- offsets and bytes of three pieces cut the items out again
pub items-back : (lead : List ℕ) (items : List (List ℕ)) (tail : List ℕ)
    → items_of (offsets_of (length lead) items) (bytes_of lead items tail) ≡ items
items-back lead [] tail = refl
items-back lead (item ∷ items) tail =
    let start : length lead + length item - length lead ≡ length item = omega arith in
    let whole : (item ++ concat items) ++ tail ≡ item ++ (concat items ++ tail) =
    append_assoc item (concat items) tail in
    let rest = (item ++ concat items) ++ tail in
    let first : slice_range (lead ++ rest) (length lead) (length lead + length item) ≡ item =
    ap₂ take start (drop_at lead rest (length lead) refl ∙ whole)
    ∙ take_at item (concat items ++ tail) (length item) refl in
    let moved : lead ++ rest ≡ (lead ++ item) ++ (concat items ++ tail) =
    ap (λ more. lead ++ more) whole ∙ sym (append_assoc lead item (concat items ++ tail)) in
    ap₂ ◌∷◌ first (
    ap₂ (λ k bytes. items_after k (ends_after k items) bytes) (sym (length-append lead item)) moved
    ∙ items-back (lead ++ item) items tail
    )

-- the last offset of three pieces is where their tail begins, which is within their bytes
pub end-back : (lead : List ℕ) (items : List (List ℕ)) (tail : List ℕ)
    → last_of (offsets_of (length lead) items) + length tail ≡ length (bytes_of lead items tail)
end-back lead items tail =
    omega (
      arith,
      last-offset (length lead) items,
      length-append lead (concat items ++ tail),
      length-append (concat items) tail,
    )

pub within-back : (lead : List ℕ) (items : List (List ℕ)) (tail : List ℕ)
    → last_of (offsets_of (length lead) items) ≤ length (bytes_of lead items tail)
within-back lead items tail = omega (arith, end-back lead items tail)

pub lead-back : (lead : List ℕ) (items : List (List ℕ)) (tail : List ℕ)
    → lead_of (offsets_of (length lead) items) (bytes_of lead items tail) ≡ lead
lead-back lead items tail = take_at lead (concat items ++ tail) (length lead) refl

pub tail-back : (lead : List ℕ) (items : List (List ℕ)) (tail : List ℕ)
    → tail_of (offsets_of (length lead) items) (bytes_of lead items tail) ≡ tail
tail-back lead items tail =
    ap₂ drop
    (last-offset (length lead) items ∙ sym (length-append lead (concat items)))
    (sym (append_assoc lead (concat items) tail))
    ∙ drop_at (lead ++ concat items) tail (length (lead ++ concat items)) refl

pub around-back : (around : Around) (items : List (List ℕ))
    → around_of (offsets_of (length around.lead) items) (bytes_of around.lead items around.tail) ≡ around
around-back around items =
    ap₂ (λ lead tail. let whole : Around = record { lead = lead; tail = tail } in whole)
    (lead-back around.lead items around.tail)
    (tail-back around.lead items around.tail)

-- the column of a column's offsets, bytes and mask
pub column-back : (c : ByteColumn) → IsColumn c
    → byte_column c.data_type (offsets_held c) (bytes_held c) (mask_of c) ≡ c
column-back c is_column =
    ap₂ (λ around items. column_with c.data_type around items (mask_of c))
    (around-back c.around (stored_values c))
    (items-back c.around.lead (stored_values c) c.around.tail)
    ∙ parts_again c is_column
