-- Lemmas about columns of text whose type is found.
use Rattle.std.proofs.Common.{◌≡◌, ℕ, ℤ, ◌+◌, ◌≤◌, ◌<◌, ◌&&◌, Bool, true, false, List, [], ◌∷◌, ◌++◌}
use Rattle.std.proofs.Common.{Option, Some, None, refl, sym, ap, ◌∙◌, arith, inl, zero-add, inr, length, map, take}
use Rattle.std.proofs.Common.{get_or, slice_get}
use Rattle.std.specs.Prelude.{cond, count_by, is_none, is_some, not, option_map}
use Rattle.std.specs.List.{list_all}
use Rattle.std.proofs.lemmas.Bool.{cases_Bool}
use Rattle.std.proofs.lemmas.List.{length-map, map-append}
use Rattle.std.proofs.lemmas.List.Folds.{list_all_at}
use Rattle.std.proofs.lemmas.List.Sums.{count_by-le-length, sum_by-cons}
use Rattle.std.proofs.lemmas.Option.{get_or_from_slice_get, slice_get_within}
use Rattle.dethrugn.specs.Column.{Column, slots_of, without_needless_mask}
use Rattle.dethrugn.specs.ByteColumn.{ByteColumn}
use Rattle.dethrugn.specs.Rows.{Row, slot}
use Rattle.dethrugn.proofs.CallerLemmas.Types.{is_some-option_map, take-next}
use Rattle.example_record_batch.specs.AnyArrays.{Cell, number, text, truth}
use Rattle.example_record_batch.specs.declared.any.AnyArray.{AnyArray}
use Rattle.example_record_batch.specs.declared.any.AnyArray.TheVariants as array
use Rattle.example_csv.specs.declared.kind.Kind.{Kind}
use Rattle.example_csv.specs.declared.kind.Kind.TheVariants as kind
use Rattle.example_csv.specs.Builders.{IsArrayOf}
use Rattle.example_csv.specs.Fields.{all_read, found_kind, parsed_number, field_cell, slot_as, field_text, truth_of}

-- one text more that means something is one slot more
pub slots-more : {X : Type 0} (meaning : Option (List ℕ) → Option (Option X)) (old new : List (Option X))
    (texts : List (Option (List ℕ))) (i : ℕ) (word : Option (List ℕ)) (shown : Option X) → new ≡ old ++ shown ∷ []
    → map Some old ≡ map meaning (take i texts) → slice_get texts i ≡ Some word → Some shown ≡ meaning word
    → map Some new ≡ map meaning (take (i + 1) texts)
slots-more meaning old new texts i word shown grown before at means =
    ap (map Some) grown
    ∙ map-append Some old (shown ∷ [])
    ∙ ap (λ slots. slots ++ Some shown ∷ []) before
    ∙ ap (λ s. map meaning (take i texts) ++ s ∷ []) means
    ∙ sym (map-append meaning (take i texts) (word ∷ []))
    ∙ ap (map meaning) (sym (take-next texts i word at))

-- one text that means nothing: not all mean something
pub not-all : {X : Type 0} (meaning : Option (List ℕ) → Option (Option X)) (texts : List (Option (List ℕ))) (i : ℕ)
    (word : Option (List ℕ)) → slice_get texts i ≡ Some word → meaning word ≡ None
    → list_all (λ t. is_some (meaning t)) texts ≡ false
not-all meaning texts i word at means =
    let here : get_or texts i word ≡ word = get_or_from_slice_get texts i word word at in
    list_all_at (λ t. is_some (meaning t)) texts i word (slice_get_within texts i word at)
    (ap (λ t. is_some (meaning t)) here ∙ ap is_some means)

-- one mark more that is not set is one null more
null-more : (marks : List Bool) → count_by not (false ∷ marks) ≡ 1 + count_by not marks
null-more marks = sum_by-cons (λ mark. cond (not mark) 1 0) false marks

-- where a slot is valid, not all are null
valid-more : (marks : List Bool) → count_by not (true ∷ marks) ≡ count_by not marks
valid-more marks = sum_by-cons (λ mark. cond (not mark) 1 0) true marks ∙ zero-add (count_by not marks)

-- where all slots are null, all fields are empty
all-empty : (rows : List (Row (List ℕ))) (fields : List (List ℕ)) → map slot rows ≡ map field_text fields
    → count_by not (map (λ (row : Row (List ℕ)). row.1) rows) ≡ length rows
    → list_all (λ field. is_none (field_text field)) fields ≡ true
all-empty [] [] e n = refl
all-empty [] (field ∷ fields) e n = cc
all-empty (row ∷ rows) [] e n = cc
all-empty ((x, true) ∷ rows) (field ∷ fields) e n =
    let most = count_by-le-length not (map (λ (row : Row (List ℕ)). row.1) rows) in
    let same = valid-more (map (λ (row : Row (List ℕ)). row.1) rows) in
    absurd (omega (arith, most, same, n, length-map rows (λ (row : Row (List ℕ)). row.1)))
all-empty ((x, false) ∷ rows) ([] ∷ fields) e n =
    let rest : map slot rows ≡ map field_text fields = cc in
    let more = null-more (map (λ (row : Row (List ℕ)). row.1) rows) in
    all-empty rows fields rest (omega (arith, more, n))
all-empty ((x, false) ∷ rows) ((b ∷ field) ∷ fields) e n = cc

-- where all fields are empty, all slots are null
all-null : (rows : List (Row (List ℕ))) (fields : List (List ℕ)) → map slot rows ≡ map field_text fields
    → list_all (λ field. is_none (field_text field)) fields ≡ true
    → count_by not (map (λ (row : Row (List ℕ)). row.1) rows) ≡ length rows
all-null [] [] e n = refl
all-null [] (field ∷ fields) e n = cc
all-null (row ∷ rows) [] e n = cc
all-null ((x, true) ∷ rows) ([] ∷ fields) e n = cc
all-null ((x, true) ∷ rows) ((b ∷ field) ∷ fields) e n = cc
all-null ((x, false) ∷ rows) ([] ∷ fields) e n =
    let rest : map slot rows ≡ map field_text fields = cc in
    let before = all-null rows fields rest n in
    let more = null-more (map (λ (row : Row (List ℕ)). row.1) rows) in
    omega (arith, before, more)
all-null ((x, false) ∷ rows) ((b ∷ field) ∷ fields) e n = cc

some-field : (rows : List (Row (List ℕ))) (fields : List (List ℕ)) → map slot rows ≡ map field_text fields
    → ¬ (count_by not (map (λ (row : Row (List ℕ)). row.1) rows) ≡ length rows)
    → list_all (λ field. is_none (field_text field)) fields ≡ false
some-field rows fields e n = elim (cases_Bool (list_all (λ field. is_none (field_text field)) fields)) [
  | inl all ↦ absurd (n (all-null rows fields e all))
  | inr one ↦ one
]

-- the cells of slots that all texts mean
cells-of : {X : Type 0} (meaning : List ℕ → Option X) (cell : Option X → Cell) (slots : List (Option X))
    (fields : List (List ℕ)) → map Some slots ≡ map (slot_as meaning) (map field_text fields)
    → map Some (map cell slots) ≡ map (λ field. option_map cell (slot_as meaning (field_text field))) fields
cells-of meaning cell [] [] e = refl
cells-of meaning cell [] (field ∷ fields) e = cc
cells-of meaning cell (s ∷ slots) [] e = cc
cells-of meaning cell (s ∷ slots) (field ∷ fields) e =
    let first : Some s ≡ slot_as meaning (field_text field) = cc in
    let rest : map Some slots ≡ map (slot_as meaning) (map field_text fields) = cc in
    ap (λ c. option_map cell c ∷ map Some (map cell slots)) first
    ∙ ap (λ cells. option_map cell (slot_as meaning (field_text field)) ∷ cells) (cells-of meaning cell slots fields rest)

all-some : {Y : Type 0} (read : List ℕ → Option Y) (ys : List Y) (fields : List (List ℕ))
    → map Some ys ≡ map read fields → list_all (λ field. is_some (read field)) fields ≡ true
all-some read [] [] e = refl
all-some read [] (field ∷ fields) e = cc
all-some read (y ∷ ys) [] e = cc
all-some read (y ∷ ys) (field ∷ fields) e =
    let first : Some y ≡ read field = cc in
    let rest : map Some ys ≡ map read fields = cc in
    ap (λ o. is_some o && list_all (λ field. is_some (read field)) fields) (sym first) ∙ all-some read ys fields rest

read-as : {X : Type 0} (meaning : List ℕ → Option X) (cell : Option X → Cell) (fields : List (List ℕ))
    → list_all (λ field. is_some (option_map cell (slot_as meaning (field_text field)))) fields
    ≡ list_all (λ s. is_some (slot_as meaning s)) (map field_text fields)
read-as meaning cell [] = refl
read-as meaning cell (field ∷ fields) =
    ap (λ b. b && list_all (λ f. is_some (option_map cell (slot_as meaning (field_text f)))) fields)
    (is_some-option_map cell (slot_as meaning (field_text field)))
    ∙ ap (λ b. is_some (slot_as meaning (field_text field)) && b) (read-as meaning cell fields)

module _ (rows : List (Row (List ℕ))) (fields : List (List ℕ)) (e : map slot rows ≡ map field_text fields) where
  text-cells : map Some (map text (map slot rows)) ≡ map (field_cell kind.Utf8) fields
  text-cells = ap (λ slots. map Some (map text slots)) e ∙ fuse fields
    where
      fuse : (fields : List (List ℕ)) → map Some (map text (map field_text fields)) ≡ map (field_cell kind.Utf8) fields
      fuse [] = refl
      fuse (field ∷ fields) = ap (λ cells. Some (text (field_text field)) ∷ cells) (fuse fields)

  -- the numbers are what the texts mean
  number-cells : (numbers : List (Option ℤ)) → map Some numbers ≡ map (slot_as parsed_number) (map slot rows)
      → map Some (map number numbers) ≡ map (field_cell kind.Int64) fields
  number-cells numbers h = cells-of parsed_number number numbers fields (h ∙ ap (map (slot_as parsed_number)) e)

  truth-cells : (truths : List (Option Bool)) → map Some truths ≡ map (slot_as truth_of) (map slot rows)
      → map Some (map truth truths) ≡ map (field_cell kind.Boolean) fields
  truth-cells truths h = cells-of truth_of truth truths fields (h ∙ ap (map (slot_as truth_of)) e)

  not-numbers : list_all (λ s. is_some (slot_as parsed_number s)) (map slot rows) ≡ false
      → all_read kind.Int64 fields ≡ false
  not-numbers h = read-as parsed_number number fields ∙ ap (list_all (λ s. is_some (slot_as parsed_number s))) (sym e) ∙ h

  not-truths : list_all (λ s. is_some (slot_as truth_of s)) (map slot rows) ≡ false
      → all_read kind.Boolean fields ≡ false
  not-truths h = read-as truth_of truth fields ∙ ap (list_all (λ s. is_some (slot_as truth_of s))) (sym e) ∙ h

-- a column of text without a valid slot is text
pub null-array : (column : ByteColumn) (fields : List (List ℕ)) → slots_of column ≡ map field_text fields
    → count_by not (map (λ (row : Row (List ℕ)). row.1) column.rows) ≡ length column.rows
    → IsArrayOf (found_kind fields) fields (array.Utf8 column)
null-array column fields e n =
    let found : found_kind fields ≡ kind.Utf8 = rw (all-empty column.rows fields e n) refl in
    rw found (record { kind_is = refl; cells = text-cells column.rows fields e })

pub number-array : (column : ByteColumn) (fields : List (List ℕ)) (numbers frozen : Column ℤ)
    → slots_of column ≡ map field_text fields
    → ¬ (count_by not (map (λ (row : Row (List ℕ)). row.1) column.rows) ≡ length column.rows)
    → map Some (slots_of numbers) ≡ map (slot_as parsed_number) (slots_of column) → frozen ≡ without_needless_mask numbers
    → IsArrayOf (found_kind fields) fields (array.Int64 frozen)
number-array column fields numbers frozen e n h f =
    let cells = number-cells column.rows fields e (slots_of numbers) h in
    let found : found_kind fields ≡ kind.Int64 = rw (
      some-field column.rows fields e n,
      all-some (field_cell kind.Int64)
          (map number (slots_of numbers)) fields cells,
    ) refl in
    rw (found, f) (record { kind_is = refl; cells = cells })

pub truth-array : (column : ByteColumn) (fields : List (List ℕ)) (truths frozen : Column Bool)
    → slots_of column ≡ map field_text fields
    → ¬ (count_by not (map (λ (row : Row (List ℕ)). row.1) column.rows) ≡ length column.rows)
    → list_all (λ s. is_some (slot_as parsed_number s)) (slots_of column) ≡ false
    → map Some (slots_of truths) ≡ map (slot_as truth_of) (slots_of column) → frozen ≡ truths
    → IsArrayOf (found_kind fields) fields (array.Boolean frozen)
truth-array column fields truths frozen e n other h f =
    let cells = truth-cells column.rows fields e (slots_of truths) h in
    let found : found_kind fields ≡ kind.Boolean = rw (
      some-field column.rows fields e n,
      not-numbers column.rows
          fields e other,
      all-some (field_cell kind.Boolean) (map truth (slots_of truths)) fields cells,
    ) refl in
    rw (found, f) (record { kind_is = refl; cells = cells })

pub text-array : (column : ByteColumn) (fields : List (List ℕ)) → slots_of column ≡ map field_text fields
    → ¬ (count_by not (map (λ (row : Row (List ℕ)). row.1) column.rows) ≡ length column.rows)
    → list_all (λ s. is_some (slot_as parsed_number s)) (slots_of column) ≡ false
    → list_all (λ s. is_some (slot_as truth_of s)) (slots_of column) ≡ false
    → IsArrayOf (found_kind fields) fields (array.Utf8 column)
text-array column fields e n no_number no_truth =
    let found : found_kind fields ≡ kind.Utf8 = rw (
      some-field column.rows fields e n,
      not-numbers column.rows fields
          e no_number,
      not-truths column.rows fields e no_truth,
    ) refl in
    rw found (record { kind_is = refl; cells = text-cells column.rows fields e })
