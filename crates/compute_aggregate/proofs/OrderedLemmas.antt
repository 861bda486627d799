-- Lemmas about arrays that are made of slots, and about the bytes that slots of different groups have together.
use Rattle.std.proofs.Common.{◌≡◌, ◌≢◌, ℕ, zero, suc, ◌+◌, ◌≤◌, ◌==◌, ◌&&◌, Bool, true, false, not, if◌then◌else◌}
use Rattle.std.proofs.Common.{List, [], ◌∷◌, ◌++◌, length, map, set, slice_get, Option, Some, None, option_map, refl, sym, ap, ◌∙◌}
use Rattle.std.proofs.Common.{inl, inr, arith, subst, true≢false, eq-eqb, length-append, append-nil}
use Rattle.std.specs.Prelude.{Contains}
use Rattle.std.specs.List.{concat, cons_option, list_all, zip}
use Rattle.std.specs.Option.{option_map_or}
use Rattle.std.proofs.lemmas.Bool.{and_right, cases_eq, le-ltb, ne_eqb}
use Rattle.std.proofs.lemmas.List.{map-append}
use Rattle.std.proofs.lemmas.List.Sums.{sum_by-append, sum_by-cons}
use Rattle.std.proofs.lemmas.Option.{same_Some, slice_get_within}
use Rattle.arrow_types.specs.Types.{LogicalType}
use Rattle.arrow_types.specs.declared.error.Error.{Error}
use Rattle.arrow_types.specs.declared.error.Error.TheVariants as error
use Rattle.arrow_types.proofs.CallerLemmas.{and-true}
use Rattle.arrow_memory.specs.Offsets.{last_of}
use Rattle.arrow_memory.specs.Rows.{Row, slot}
use Rattle.arrow_column.specs.Column.{Column, ColumnWith, all_valid, append_slot, append_slots, array_of_slots, empty_column, empty_masked}
use Rattle.arrow_column.specs.Column.{slot_overflows, slots_of, stored_values, with_type}
use Rattle.arrow_column.proofs.CallerLemmas.{many-slots}
use Rattle.arrow_bytes.specs.Appends.{FrozenOfSlots, SlotsRefused}
use Rattle.arrow_bytes.specs.Column.{ByteColumn, empty_bytes, item_overflows, offsets_held}
use Rattle.arrow_bytes.proofs.CallerLemmas.{last-offset}
use Rattle.compute_aggregate.specs.Groups.{MakesSlots, as_seen, total_size, values_at}
use Rattle.compute_aggregate.proofs.GroupLemmas.{set_other, set_same}

-- ---- arrays of slots

pub made_of_numbers : {X : Type 0} (default : X) (t u : LogicalType) (slots : List (Option X)) (made : Column X)
    → made ≡ with_type (array_of_slots default t slots) u → MakesSlots u slots made
made_of_numbers default t u slots made is = record {
  data_type = ap (λ c. c.data_type) is;
  slots = ap slots_of is ∙ many-slots default (empty_masked t) slots;
  held = subst (λ c. c.held ≡ not (all_valid c)) (sym is) refl;
}

all_more : {X : Type 0} (rows : List (Row X)) (row : Row X)
    → list_all (λ r. r.1) (rows ++ row ∷ []) ≡ (list_all (λ r. r.1) rows && row.1)
all_more [] (x, true) = refl
all_more [] (x, false) = refl
all_more ((y, true) ∷ rows) row = all_more rows row
all_more ((y, false) ∷ rows) row = refl

needed_more : {A X : Type 0} (default : X) (column : ColumnWith A X) (o : Option X) → column.held ≡ not (all_valid column)
    → (append_slot default column o).held ≡ not (all_valid (append_slot default column o))
needed_more default column None needed =
    sym (ap not (all_more column.rows (default, false) ∙ and_right (all_valid column) false refl))
needed_more default column (Some x) needed =
    needed ∙ sym (ap not (all_more column.rows (x, true) ∙ and-true (all_valid column)))

needed_all : {A X : Type 0} (default : X) (column : ColumnWith A X) (slots : List (Option X))
    → column.held ≡ not (all_valid column)
    → (append_slots default column slots).held ≡ not (all_valid (append_slots default column slots))
needed_all default column [] needed = needed
needed_all default column (o ∷ slots) needed =
    needed_all default (append_slot default column o) slots (needed_more default column o needed)

pub made_of_booleans : (t u : LogicalType) (slots : List (Option Bool)) (made : Column Bool)
    → made ≡ with_type (append_slots false (empty_column t) slots) u → MakesSlots u slots made
made_of_booleans t u slots made is = record {
  data_type = ap (λ c. c.data_type) is;
  slots = ap slots_of is ∙ many-slots false (empty_column t) slots;
  held =
      subst (λ c. c.held ≡ not (all_valid c)) (sym is) (needed_all false (empty_column t) slots refl);
}

-- an array that is made of slots under a type is made of them under an equal one
pub made_under : {A S : Type 0} (t u : LogicalType) (shown : List (Option S)) (made : ColumnWith A S) → t ≡ u
    → MakesSlots t shown made → MakesSlots u shown made
made_under t u shown made same is = subst (λ v. MakesSlots v shown made) same is

-- ---- arrays of items

module _ {X : Type 0} (shown : X → List ℕ) (most : ℕ) where
  pub made_of_items : (t u : LogicalType) (slots : List (Option X)) (frozen made : ByteColumn)
      → FrozenOfSlots shown most t slots frozen → made ≡ with_type frozen u → MakesSlots u (as_seen shown slots) made
  made_of_items t u slots frozen made (fit, is) typed = record {
    data_type = ap (λ c. c.data_type) typed;
    slots =
        ap slots_of (typed ∙ ap (λ c. with_type c u) is) ∙ many-slots [] (empty_bytes t) (as_seen shown slots);
    held = subst (λ c. c.held ≡ not (all_valid c)) (sym (typed ∙ ap (λ c. with_type c u) is)) refl;
  }

pushed_size : (rows : List (Row (List ℕ))) (row : Row (List ℕ))
    → length (concat (map (λ r. r.0) (rows ++ row ∷ []))) ≡ length (concat (map (λ (r : Row (List ℕ)). r.0) rows)) + length row.0
pushed_size [] row = omega (arith, ap length (append-nil row.0))
pushed_size (r ∷ rows) row = omega (
  arith,
  length-append r.0 (concat (map (λ (s : Row (List ℕ)). s.0) (rows ++ row ∷ []))),
  length-append r.0 (concat (map (λ (s : Row (List ℕ)). s.0) rows)),
  pushed_size rows row,
)

-- the bytes of a column once slots were appended
appended_size : (c : ByteColumn) (slots : List (Option (List ℕ)))
    → length (concat (stored_values (append_slots [] c slots))) ≡ length (concat (stored_values c)) + total_size length slots
appended_size c [] = omega arith
appended_size c (None ∷ slots) = omega (
  arith,
  appended_size (append_slot [] c None) slots,
  pushed_size c.rows ([], false),
  sum_by-cons (λ (o : Option (List ℕ)). option_map_or length o 0) None slots,
)
appended_size c (Some x ∷ slots) = omega (
  arith,
  appended_size (append_slot [] c (Some x)) slots,
  pushed_size c.rows (x, true),
  sum_by-cons (λ (o : Option (List ℕ)). option_map_or length o 0) (Some x) slots,
)

same_around : (c : ByteColumn) (slots : List (Option (List ℕ))) → (append_slots [] c slots).around ≡ c.around
same_around c [] = refl
same_around c (None ∷ slots) = same_around (append_slot [] c None) slots
same_around c (Some x ∷ slots) = same_around (append_slot [] c (Some x)) slots

-- the bytes of valid slots are some of those of all, which end at the last offset
valid_size : (rows : List (Row (List ℕ))) → total_size length (map slot rows) ≤ length (concat (map (λ r. r.0) rows))
valid_size [] = omega arith
valid_size ((x, true) ∷ rows) = omega (
  arith,
  sum_by-cons (λ (o : Option (List ℕ)). option_map_or length o 0) (Some x) (map slot rows),
  length-append x (concat (map (λ (r : Row (List ℕ)). r.0) rows)),
  valid_size rows,
)
valid_size ((x, false) ∷ rows) = omega (
  arith,
  sum_by-cons (λ (o : Option (List ℕ)). option_map_or length o 0) None (map slot rows),
  length-append x (concat (map (λ (r : Row (List ℕ)). r.0) rows)),
  valid_size rows,
)

pub size_within : (column : ByteColumn) (offsets : List ℕ) (most : ℕ) → offsets ≡ offsets_held column → last_of offsets ≤ most
    → total_size length (slots_of column) ≤ most
size_within column offsets most held within = omega (
  arith,
  within,
  ap last_of held,
  last-offset (length column.around.lead) (stored_values column),
  valid_size column.rows,
)

fits_slot : {X : Type 0} (shown : X → List ℕ) (most : ℕ) (t : LogicalType) (begun : List (Option X)) (o : Option X)
    → total_size length (as_seen shown begun) + total_size length (option_map shown o ∷ []) ≤ most
    → slot_overflows (item_overflows shown most) (append_slots [] (empty_bytes t) (as_seen shown begun)) o ≡ false
fits_slot shown most t begun None small = refl
fits_slot shown most t begun (Some x) small =
    let c : ByteColumn = append_slots [] (empty_bytes t) (as_seen shown begun) in
    le-ltb most (length c.around.lead + length (concat (stored_values c)) + length (shown x)) (omega (
      arith,
      small,
      ap (λ a. length a.lead) (same_around (empty_bytes t) (as_seen shown begun)),
      appended_size (empty_bytes t) (as_seen shown begun),
      sum_by-cons (λ (o : Option (List ℕ)). option_map_or length o 0) (Some (shown x)) [],
    ))

-- no slot is refused if their bytes are no more than the greatest offset
pub only_memory : {X : Type 0} (shown : X → List ℕ) (most : ℕ) (t : LogicalType) (slots : List (Option X)) (e : Error)
    → total_size length (as_seen shown slots) ≤ most → SlotsRefused shown most t slots e → e ≡ error.OutOfMemory
only_memory shown most t slots error.OutOfMemory small refused = refl
only_memory shown most t slots (error.OutOfSpec text) small refused = absurd refused
only_memory shown most t slots error.Overflow small (begun, rest, last, is, at) =
    let apart : as_seen shown slots ≡ as_seen shown begun ++ as_seen shown (last ∷ rest) =
    ap (as_seen shown) is ∙ map-append (option_map shown) begun (last ∷ rest) in
    let few : total_size length (as_seen shown begun) + total_size length (option_map shown last ∷ []) ≤ most =
    omega (
      arith,
      small,
      ap (total_size length) apart,
      sum_by-append (λ (o : Option (List ℕ)). option_map_or length o 0) (as_seen shown begun) (as_seen shown (last ∷ rest)),
      sum_by-cons (λ (o : Option (List ℕ)). option_map_or length o 0) (option_map shown last) (as_seen shown rest),
      sum_by-cons (λ (o : Option (List ℕ)). option_map_or length o 0) (option_map shown last) [],
    ) in
    absurd (true≢false (sym at.1 ∙ fits_slot shown most t begun last few))

-- ---- slots of different groups are different slots

module _ {S : Type 0} (size : S → ℕ) where
  total_set : (best : List (Option S)) (k : ℕ) (x : S) → slice_get best k ≡ Some (Some x)
      → total_size size best ≡ size x + total_size size (set best k None)
  total_set [] k x at = cc
  total_set (o ∷ best) zero x at =
      let is : option_map_or size o 0 ≡ size x = ap (λ p. option_map_or size p 0) (same_Some o (Some x) at) in
      omega (
        arith,
        is,
        sum_by-cons (λ (p : Option S). option_map_or size p 0) o best,
        sum_by-cons (λ (p : Option S). option_map_or size p 0) None best,
      )
  total_set (o ∷ best) (suc k) x at = omega (
    arith,
    total_set best k x at,
    sum_by-cons (λ (p : Option S). option_map_or size p 0) o best,
    sum_by-cons (λ (p : Option S). option_map_or size p 0) o (set best k None),
  )

  none_total : (best : List (Option S)) → ((g : ℕ) (x : S) → slice_get best g ≡ Some (Some x) → ⊥) → total_size size best ≡ 0
  none_total [] never = refl
  none_total (Some x ∷ best) never = absurd (never zero x refl)
  none_total (None ∷ best) never = omega (
    arith,
    none_total best (λ g x at. never (suc g) x at),
    sum_by-cons (λ (p : Option S). option_map_or size p 0) None best,
  )

  -- each slot is null or shows one of the values of its group
  abbrev pub Picks : List (ℕ × Option S) → List (Option S) → Type 0
  Picks pairs best = (g : ℕ) (x : S) → slice_get best g ≡ Some (Some x) → Contains (values_at pairs g) x

  abbrev all_of : List (ℕ × Option S) → List (Option S)
  all_of pairs = map (λ pair. pair.1) pairs

  among_none : (b : Bool) (values : List S) (x : S) → Contains (cons_option (if b then None else None) values) x → Contains values x
  among_none true values x among = among
  among_none false values x among = among

  among_other : (k g : ℕ) (v x : S) (pairs : List (ℕ × Option S)) → g ≢ k → Contains (values_at ((k, Some v) ∷ pairs) g) x
      → Contains (values_at pairs g) x
  among_other k g v x pairs apart among =
      subst (λ b. Contains (cons_option (if b then Some v else None) (values_at pairs g)) x) (ne_eqb k g (λ e. apart (sym e))) among

  among_own : (k : ℕ) (v x : S) (pairs : List (ℕ × Option S)) → Contains (values_at ((k, Some v) ∷ pairs) k) x
      → Contains (v ∷ values_at pairs k) x
  among_own k v x pairs among =
      subst (λ b. Contains (cons_option (if b then Some v else None) (values_at pairs k)) x) (eq-eqb k k refl) among

  module _ (k : ℕ) (v : S) (pairs : List (ℕ × Option S)) (best : List (Option S)) (picks : Picks ((k, Some v) ∷ pairs) best)
      (before : (fewer : List (Option S)) → Picks pairs fewer → total_size size fewer ≤ total_size size (all_of pairs)) where
    abbrev Fit : Type 0
    Fit = total_size size best ≤ total_size size (Some v ∷ all_of pairs)

    -- the best slot of group k is not this one
    another : ((x : S) → slice_get best k ≡ Some (Some x) → Contains (values_at pairs k) x) → Fit
    another own = omega (
      arith,
      before best (λ g x at. elim (cases_eq g k) [
        | inl e ↦ subst (λ j. Contains (values_at pairs j) x) (sym e) (own x (ap (slice_get best) (sym e) ∙ at))
        | inr apart ↦ among_other k g v x pairs apart (picks g x at)
      ]),
      sum_by-cons (λ (p : Option S). option_map_or size p 0) (Some v) (all_of pairs),
    )

    -- or it is
    this_one : (x : S) → slice_get best k ≡ Some (Some x) → v ≡ x → Fit
    this_one x at is = omega (
      arith,
      ap size is,
      total_set best k x at,
      before (set best k None) (λ g y own. elim (cases_eq g k) [
        | inl e ↦ absurd (null_there y (ap (slice_get (set best k None)) (sym e) ∙ own))
        | inr apart ↦ among_other k g v y pairs apart (picks g y (sym (set_other best k g None apart) ∙ own))
      ]),
      sum_by-cons (λ (p : Option S). option_map_or size p 0) (Some v) (all_of pairs),
    )
      where
        null_there : (y : S) → slice_get (set best k None) k ≡ Some (Some y) → ⊥
        null_there y own =
            let null : slice_get (set best k None) k ≡ Some None = set_same best k None (slice_get_within best k (Some x) at) in
            cc

    by_value : (x : S) → slice_get best k ≡ Some (Some x) → Contains (v ∷ values_at pairs k) x → Fit
    by_value x at (zero, low, e) = this_one x at e
    by_value x at (suc j, low, e) = another (λ y own.
        let same : x ≡ y = cc in
        subst (Contains (values_at pairs k)) same (j, omega arith, e))

    pub fit_more : (o : Option (Option S)) → slice_get best k ≡ o → Fit
    fit_more None at = another (λ x own. cc)
    fit_more (Some None) at = another (λ x own. cc)
    fit_more (Some (Some x)) at = by_value x at (among_own k v x pairs (picks k x at))

  picks_fit : (pairs : List (ℕ × Option S)) (best : List (Option S)) → Picks pairs best
      → total_size size best ≤ total_size size (all_of pairs)
  picks_fit [] best picks = omega (arith, none_total best (λ g x at. nowhere x (picks g x at)))
    where
      nowhere : (x : S) → Contains [] x → ⊥
      nowhere x (k, low, e) = omega arith
  picks_fit ((k, None) ∷ pairs) best picks = omega (
    arith,
    picks_fit pairs best (λ g x at. among_none (k == g) (values_at pairs g) x (picks g x at)),
    sum_by-cons (λ (p : Option S). option_map_or size p 0) None (all_of pairs),
  )
  picks_fit ((k, Some v) ∷ pairs) best picks =
      fit_more k v pairs best picks (λ fewer these. picks_fit pairs fewer these) (slice_get best k) refl

  zipped_total : (indices : List ℕ) (slots : List (Option S)) → total_size size (all_of (zip indices slots)) ≤ total_size size slots
  zipped_total [] slots = omega arith
  zipped_total (i ∷ indices) [] = omega arith
  zipped_total (i ∷ indices) (o ∷ slots) = omega (
    arith,
    zipped_total indices slots,
    sum_by-cons (λ (p : Option S). option_map_or size p 0) o (all_of (zip indices slots)),
    sum_by-cons (λ (p : Option S). option_map_or size p 0) o slots,
  )

  pub groups_fit : (indices : List ℕ) (slots best : List (Option S)) → Picks (zip indices slots) best
      → total_size size best ≤ total_size size slots
  groups_fit indices slots best picks = omega (arith, picks_fit (zip indices slots) best picks, zipped_total indices slots)
