-- Lemmas about the decimal texts of slots, which lie one after the other.
use Rattle.std.proofs.Common.{◌≡◌, ◌∙◌, ℕ, ℤ, ◌+◌, ◌<◌, ◌≤◌, Bool, true, false, nat_lt, List, [], ◌∷◌, ◌++◌, map, take, length}
use Rattle.std.proofs.Common.{Option, Some, None, option_map, slice_get, unwrap_or, refl, ap, ap₂, sym, subst}
use Rattle.std.proofs.Common.{arith, length-append}
use Rattle.std.specs.Fmt.{signed_decimal}
use Rattle.std.specs.List.{concat}
use Rattle.std.specs.Option.{option_map_or}
use Rattle.std.proofs.lemmas.List.{append-nil}
use Rattle.std.proofs.lemmas.Bool.{lt-ltb}
use Rattle.std.proofs.lemmas.List.Folds.{concat-append}
use Rattle.std.proofs.lemmas.List.Sums.{sum_by_more, sum_by-take-le}
use Rattle.std.proofs.lemmas.Option.{get_or_from_slice_get, same_Some, slice_get_within}
use Rattle.arrow_types.specs.Types.{LogicalType}
use Rattle.arrow_types.proofs.CallerLemmas.{map-map, take-next}
use Rattle.arrow_memory.specs.Offsets.{last_of}
use Rattle.arrow_memory.specs.Rows.{FitsMask}
use Rattle.arrow_column.proofs.CallerLemmas.{fit-more}
use Rattle.arrow_column.specs.Column.{ColumnWith, append_slots, column_with, mask_of, slot_overflows, slots_fit}
use Rattle.arrow_column.specs.Column.{slots_of, without_needless_mask}
use Rattle.arrow_column.specs.Masks.{mask_with_nulls}
use Rattle.arrow_check.specs.Pieces.{ends_after, items_of, offsets_of}
use Rattle.arrow_bytes.specs.Column.{byte_column, empty_bytes, item_overflows}
use Rattle.arrow_bytes.specs.Kinds.{AreItems, CutItems, IsItem}
use Rattle.arrow_bytes.specs.Pieces.{around_of, nothing_around}
use Rattle.arrow_bytes.proofs.CallerLemmas.{around-back, items-back, last-offset, no-items, push-of, within-back}
use Rattle.compute_base.specs.Slots.{stored_of, valid_of}
use Rattle.compute_cast.specs.Decimals.{decimal_bytes, value_decimal}
use Rattle.compute_cast.specs.Stored.{AppendsDecimal, HoldTexts, decimal_text, decimal_texts, ends_past}
use Rattle.compute_cast.proofs.StoredLemmas.{appended-around, appended-stored, array-of-parts, map-next, mask-needed, parts-fit, same-marks}

-- ---- offsets and bytes of items

ends-push : (start : ℕ) (items : List (List ℕ)) (item : List ℕ)
    → ends_after start (items ++ item ∷ [])
    ≡ ends_after start items ++ (start + length (concat items) + length item) ∷ []
ends-push start [] item = let e : start + length item ≡ start + 0 + length item = omega arith in ap (λ n. n ∷ []) e
ends-push start (x ∷ items) item =
    let e : start + length x + length (concat items) + length item ≡ start + length (x ++ concat items) + length item =
    omega (arith, length-append x (concat items)) in
    ap (λ rest. (start + length x) ∷ rest) (ends-push (start + length x) items item
    ∙ ap (λ n. ends_after (start + length x) items ++ n ∷ []) e)

offsets-push : (items : List (List ℕ)) (item : List ℕ)
    → offsets_of 0 (items ++ item ∷ []) ≡ offsets_of 0 items ++ (last_of (offsets_of 0 items) + length item) ∷ []
offsets-push items item =
    ap (λ rest. 0 ∷ rest) (ends-push 0 items item
    ∙ ap (λ end. ends_after 0 items ++ (end + length item) ∷ []) (sym (last-offset 0 items)))

concat-push : (items : List (List ℕ)) (item : List ℕ) → concat (items ++ item ∷ []) ≡ concat items ++ item
concat-push items item = concat-append items (item ∷ []) ∙ ap (λ rest. concat items ++ rest) (append-nil item)

-- ---- slots by their numbers

-- the slot at an index, by its number
pub next-slot : {X : Type 0} (number : X → ℤ) (slots : List (Option X)) (i : ℕ) (read : Option ℤ)
    → option_map (option_map number) (slice_get slots i) ≡ Some read
    → (next : Option X) × (slice_get slots i ≡ Some next) × (option_map number next ≡ read)
next-slot {X} number slots i read e = by_slot (slice_get slots i) refl e
  where
    by_slot : (o : Option (Option X)) → slice_get slots i ≡ o → option_map (option_map number) o ≡ Some read
        → (next : Option X) × (slice_get slots i ≡ Some next) × (option_map number next ≡ read)
    by_slot None found is = absurd cc
    by_slot (Some next) found is = (next, found, same_Some (option_map number next) read is)

-- its text, where that ends, and how long it is
module _ {X : Type 0} (number : X → ℤ) where
  number-text : (next : Option X) (read : Option ℤ) → option_map number next ≡ read
      → decimal_text (λ z. z) read ≡ decimal_text number next
  number-text None read is = ap (decimal_text (λ z. z)) (sym is)
  number-text (Some x) read is = ap (decimal_text (λ z. z)) (sym is)

  number-past : (most start : ℕ) (next : Option X) (read : Option ℤ) → option_map number next ≡ read
      → ends_past number most start next ≡ ends_past (λ z. z) most start read
  number-past most start None read is = ap (ends_past (λ z. z) most start) is
  number-past most start (Some x) read is = ap (ends_past (λ z. z) most start) is

  pub number-size : (next : Option X) (read : Option ℤ) → option_map number next ≡ read
      → option_map_or (λ z. length (signed_decimal z)) read 0
      ≡ option_map_or (λ x. length (value_decimal number x)) next 0
  number-size None read is = ap (λ o. option_map_or (λ z. length (signed_decimal z)) o 0) (sym is)
  number-size (Some x) read is = ap (λ o. option_map_or (λ z. length (signed_decimal z)) o 0) (sym is)

-- ---- decimal texts

module _ {X : Type 0} (number : X → ℤ) (most : ℕ) (is_text : Bool) (t : LogicalType) where
  pub none-held : HoldTexts number most is_text t [] (0 ∷ []) []
  none-held = record { fit = refl; items = no-items is_text; ends = refl; texts = refl }

  -- whether a slot overflows, by where its text begins
  overflows-there : (slots : List (Option X)) (offsets : List ℕ) (next : Option X)
      → offsets ≡ offsets_of 0 (decimal_texts number slots)
      → slot_overflows (item_overflows (value_decimal number) most)
      (append_slots [] (empty_bytes t) (map (option_map (value_decimal number)) slots)) next
      ≡ ends_past number most (last_of offsets) next
  overflows-there slots offsets None ends = refl
  overflows-there slots offsets (Some x) ends =
      let before = append_slots [] (empty_bytes t) (map (option_map (value_decimal number)) slots) in
      ap₂ (λ lead items. nat_lt most (length lead + length (concat items) + length (value_decimal number x)))
      (ap (λ around. around.lead) (appended-around [] (empty_bytes t) (map (option_map (value_decimal number)) slots)))
      (appended-stored [] (empty_bytes t) (map (option_map (value_decimal number)) slots)
      ∙ map-map (λ shown. unwrap_or shown []) (option_map (value_decimal number)) slots)
      ∙ ap (λ end. nat_lt most (end + length (value_decimal number x)))
      (sym (ap last_of ends ∙ last-offset 0 (decimal_texts number slots)))

  module _ (slots : List (Option X)) (i : ℕ) (offsets bytes : List ℕ) (next : Option X)
      (found : slice_get slots i ≡ Some next)
      (held : HoldTexts number most is_text t (take i slots) offsets bytes) where
    -- one more slot
    pub more-held : (grown longer : List ℕ) → ends_past number most (last_of offsets) next ≡ false
        → AppendsDecimal number offsets next grown → longer ≡ bytes ++ decimal_text number next
        → IsItem is_text (decimal_text number next)
        → HoldTexts number most is_text t (take (i + 1) slots) grown longer
    more-held grown longer fits ends text item =
        let texts = decimal_texts number (take i slots) in
        let more : decimal_texts number (take (i + 1) slots) ≡ texts ++ decimal_text number next ∷ [] =
        map-next (λ x. decimal_text number x) slots i next found in
        record {
          fit = subst (λ xs. slots_fit (item_overflows (value_decimal number) most) (value_decimal number) [] (empty_bytes t) xs
              ≡ true) (sym (take-next slots i next found))
              (fit-more (item_overflows (value_decimal number) most) (value_decimal number) [] (empty_bytes t) (take i slots) next
              held.fit (overflows-there (take i slots) offsets next held.ends ∙ fits));
          items = subst (AreItems is_text) (sym more)
              (push-of is_text texts (decimal_text number next) held.items item);
          ends = ends ∙ ap (λ os. os ++ (last_of os + length (decimal_text number next)) ∷ []) held.ends
              ∙ sym (ap (offsets_of 0) more ∙ offsets-push texts (decimal_text number next));
          texts = text ∙ ap (λ bs. bs ++ decimal_text number next) held.texts
              ∙ sym (ap concat more ∙ concat-push texts (decimal_text number next));
        }

    -- one more slot, by its number
    pub next-held : (read : Option ℤ) → option_map number next ≡ read
        → (grown longer : List ℕ) → ends_past (λ z. z) most (last_of offsets) read ≡ false
        → AppendsDecimal (λ z. z) offsets read grown → longer ≡ bytes ++ decimal_text (λ z. z) read
        → IsItem is_text (decimal_text (λ z. z) read)
        → HoldTexts number most is_text t (take (i + 1) slots) grown longer
    next-held read is grown longer fits ends text item =
        let same : decimal_text (λ z. z) read ≡ decimal_text number next = number-text number next read is in
        more-held grown longer (number-past number most (last_of offsets) next read is ∙ fits)
        (ends ∙ ap (λ xs. offsets ++ (last_of offsets + length xs) ∷ []) same) (text ∙ ap (λ xs. bytes ++ xs) same)
        (subst (IsItem is_text) same item)

  -- offsets and bytes that are frozen hold what they held while they grew
  pub still-held : (slots : List (Option X)) (offsets bytes ends values : List ℕ) → ends ≡ offsets → values ≡ bytes
      → HoldTexts number most is_text t slots offsets bytes → HoldTexts number most is_text t slots ends values
  still-held slots offsets bytes ends values first second held =
      record { fit = held.fit; items = held.items; ends = first ∙ held.ends; texts = second ∙ held.texts }

  -- the array of offsets, bytes and a mask
  module _ {A : Type 0} (column : ColumnWith A X) (offsets bytes : List ℕ)
      (held : HoldTexts number most is_text t (slots_of column) offsets bytes) where
    all-bytes : bytes ≡ concat (decimal_texts number (slots_of column)) ++ []
    all-bytes = held.texts ∙ sym (append-nil (concat (decimal_texts number (slots_of column))))

    cut-back : items_of offsets bytes ≡ decimal_texts number (slots_of column)
    cut-back = ap₂ items_of held.ends all-bytes ∙ items-back [] (decimal_texts number (slots_of column)) []

    pub parts-cut : CutItems is_text offsets bytes
    parts-cut = (
      subst (λ n. n ≤ length bytes) (sym (ap last_of held.ends))
          (subst (λ bs. last_of (offsets_of 0 (decimal_texts number (slots_of column))) ≤ length bs) (sym all-bytes)
          (within-back [] (decimal_texts number (slots_of column)) [])),
      subst (AreItems is_text) (sym cut-back) held.items,
    )

    -- the texts as slots, and what those store
    abbrev texts : List (Option (List ℕ))
    texts = map (option_map (value_decimal number)) (slots_of column)

    stored-texts : stored_of [] texts ≡ decimal_texts number (slots_of column)
    stored-texts = map-map (λ text. unwrap_or text []) (option_map (value_decimal number)) (slots_of column)

    same-mask : mask_of (without_needless_mask column) ≡ mask_with_nulls (Some (valid_of texts))
    same-mask = mask-needed column
        ∙ ap (λ marks. mask_with_nulls (Some marks)) (sym (same-marks (value_decimal number) column.rows))

    pub mask-fits : (mask : Option (List Bool)) → mask ≡ mask_of (without_needless_mask column)
        → FitsMask (items_of offsets bytes) mask
    mask-fits mask is =
        subst (FitsMask (items_of offsets bytes)) (sym (is ∙ same-mask))
        (subst (λ items. FitsMask items (mask_with_nulls (Some (valid_of texts)))) (stored-texts ∙ sym cut-back)
        (parts-fit [] texts))

    pub array-made : (mask : Option (List Bool)) → mask ≡ mask_of (without_needless_mask column)
        → byte_column t offsets bytes mask ≡ without_needless_mask (append_slots [] (empty_bytes t) texts)
    array-made mask is =
        ap₂ (λ around items. column_with t around items mask)
        (ap₂ around_of held.ends all-bytes ∙ around-back nothing_around (decimal_texts number (slots_of column)))
        cut-back
        ∙ ap₂ (column_with t nothing_around) (sym stored-texts) (is ∙ same-mask)
        ∙ array-of-parts [] (empty_bytes t) texts refl

-- ---- how many bytes texts have

-- how many bytes the text of a slot has
abbrev pub size_of : {X : Type 0} → (X → ℤ) → Option X → ℕ
size_of number slot = option_map_or (λ x. length (value_decimal number x)) slot 0

module _ {X : Type 0} (number : X → ℤ) (slots : List (Option X)) (i : ℕ) (next : Option X)
    (found : slice_get slots i ≡ Some next) where
  pub more-counted : decimal_bytes number (take (i + 1) slots) ≡ decimal_bytes number (take i slots) + size_of number next
  more-counted = sum_by_more (size_of number) slots i next (slice_get_within slots i next found)
      ∙ ap (λ slot. decimal_bytes number (take i slots) + size_of number slot) (get_or_from_slice_get slots i next next found)

  -- all texts have more bytes than the greatest offset if those up to the next slot do
  pub past-counted : (most : ℕ) → most < decimal_bytes number (take i slots) + size_of number next
      → nat_lt most (decimal_bytes number slots) ≡ true
  past-counted most h = lt-ltb most (decimal_bytes number slots)
      (omega (arith, h, more-counted, sum_by-take-le (size_of number) slots (i + 1)))
