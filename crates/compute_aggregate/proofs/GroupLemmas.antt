-- Lemmas about states of groups, into which the values of slots are folded one after the other.
use Rattle.std.proofs.Common.{◌≡◌, ◌≢◌, ℕ, zero, suc, ◌+◌, ◌<◌, ◌≤◌, ◌==◌, if◌then◌else◌, List, [], ◌∷◌, ◌++◌}
use Rattle.std.proofs.Common.{length, map, take, set, slice_get, Option, Some, None, refl, sym, ap, ◌∙◌, inl, inr}
use Rattle.std.proofs.Common.{◌%◌, Bool, true, false, cond, not, true≢false, arith, eq-eqb, append-nil, subst}
use Rattle.std.specs.Prelude.{Contains, fold, option_map}
use Rattle.std.specs.List.{filter, filter_map, zip}
use Rattle.std.proofs.lemmas.Bool.{cases_eq, ne_eqb}
use Rattle.std.proofs.lemmas.List.{take_more}
use Rattle.std.proofs.lemmas.List.Elements.{filter_map-append}
use Rattle.std.proofs.lemmas.List.Sums.{fold_push}
use Rattle.std.proofs.lemmas.Option.{get_or_from_slice_get, none-some, same_Some, slice_get-map, slice_get_within}
use Rattle.std.proofs.Common.{◌^◌}
use Rattle.std.specs.Cmp.{IsTotalOrder}
use Rattle.std.specs.declared.cmp.Ordering.{Ordering}
use Rattle.std.specs.List.{cons_option}
use Rattle.std.proofs.Math.Nat.{mod-eq_of_lt}
use Rattle.std.proofs.lemmas.List.{length-map}
use Rattle.std.proofs.lemmas.List.Folds.{fold-map}
use Rattle.std.proofs.lemmas.Slice.Zip.{length-zip}
use Rattle.arrow_types.specs.Types.{LogicalType}
use Rattle.arrow_memory.specs.Rows.{Row, slot}
use Rattle.arrow_column.specs.Column.{Column, ColumnWith, all_valid, column_of_parts, slots_of}
use Rattle.arrow_column.proofs.CallerLemmas.{all-bare, bare-shown}
use Rattle.compute_aggregate.specs.Aggregates.{extreme_slot, greater_slot, lesser_slot}
use Rattle.compute_aggregate.specs.Groups.{ExtremesOfGroups, GroupSlots, IsExtremeSlot, IsGreatestSlot, IsLeastSlot, MakesSlots, as_seen, count_step}
use Rattle.compute_aggregate.specs.Groups.{fold_slot, group_size, group_values, own_pairs, values_at}
use Rattle.compute_aggregate.specs.declared.aggregate.extreme.Extreme.{Extreme}
use Rattle.compute_aggregate.specs.declared.aggregate.extreme.Extreme.TheVariants.{Greatest, Least}
use Rattle.compute_aggregate.proofs.AggregateLemmas.{greatest_slot, least_slot, valid}

pub set_same : {Y : Type 0} (states : List Y) (k : ℕ) (y : Y) → k < length states → slice_get (set states k y) k ≡ Some y
set_same [] k y low = absurd (omega arith)
set_same (s ∷ states) zero y low = refl
set_same (s ∷ states) (suc k) y low = set_same states k y (omega (arith, low))

pub set_other : {Y : Type 0} (states : List Y) (k g : ℕ) (y : Y) → g ≢ k → slice_get (set states k y) g ≡ slice_get states g
set_other [] k g y apart = refl
set_other (s ∷ states) zero zero y apart = absurd (apart refl)
set_other (s ∷ states) zero (suc g) y apart = refl
set_other (s ∷ states) (suc k) zero y apart = refl
set_other (s ∷ states) (suc k) (suc g) y apart = set_other states k g y (λ e. apart (ap suc e))

-- the values of a group among one pair more
pub values-more : {S : Type 0} (pairs : List (ℕ × Option S)) (i k g : ℕ) (slot : Option S)
    → slice_get pairs i ≡ Some (k, slot)
    → values_at (take (i + 1) pairs) g ≡ values_at (take i pairs) g ++ values_at ((k, slot) ∷ []) g
values-more pairs i k g slot at =
    ap (λ ps. values_at ps g) (take_more pairs i (k, slot) (slice_get_within pairs i (k, slot) at)
    ∙ ap (λ p. take i pairs ++ p ∷ []) (get_or_from_slice_get pairs i (k, slot) (k, slot) at))
    ∙ filter_map-append (λ pair. if pair.0 == g then pair.1 else None) (take i pairs) ((k, slot) ∷ [])

pub own_slot : {S : Type 0} (k : ℕ) (slot : Option S) → values_at ((k, slot) ∷ []) k ≡ filter_map (λ (pair : ℕ × Option S). pair.1) ((k, slot) ∷ [])
own_slot {S} k slot = ap (λ b. filter_map (λ (pair : ℕ × Option S). if b then pair.1 else None) ((k, slot) ∷ [])) (eq-eqb k k refl)

fold_own : {Y S : Type 0} (step : Y → S → Y) (s : Y) (values : List S) (k : ℕ) (slot : Option S)
    → fold step s (values ++ filter_map (λ (pair : ℕ × Option S). pair.1) ((k, slot) ∷ [])) ≡ fold_slot step (fold step s values) slot
fold_own step s values k None = ap (fold step s) (append-nil values)
fold_own step s values k (Some v) = fold_push step s values v

folded : {Y S : Type 0} (step : Y → S → Y) (s : Y) (values : List S) (k : ℕ) (slot : Option S)
    → fold step s (values ++ values_at ((k, slot) ∷ []) k) ≡ fold_slot step (fold step s values) slot
folded step s values k slot = ap (λ rest. fold step s (values ++ rest)) (own_slot k slot) ∙ fold_own step s values k slot

-- the state of group g after one slot more, that of group k
pub row_more : {Y S : Type 0} (step : Y → S → Y) (states : List Y) (pairs : List (ℕ × Option S)) (i k g : ℕ) (slot : Option S)
    (current next s : Y) → slice_get pairs i ≡ Some (k, slot) → slice_get states k ≡ Some current
    → next ≡ fold_slot step current slot → slice_get states g ≡ Some (fold step s (values_at (take i pairs) g))
    → slice_get (set states k next) g ≡ Some (fold step s (values_at (take (i + 1) pairs) g))
row_more step states pairs i k g slot current next s at is_current is_next before = elim (cases_eq g k) [
  | inl e ↦ same e
  | inr apart ↦ other apart
]
  where
    same : g ≡ k → slice_get (set states k next) g ≡ Some (fold step s (values_at (take (i + 1) pairs) g))
    same e =
        let now : current ≡ fold step s (values_at (take i pairs) k) =
        same_Some _ _ (sym is_current ∙ sym (ap (slice_get states) e) ∙ before ∙ ap (λ j. Some (fold step s (values_at (take i pairs) j))) e) in
        ap (slice_get (set states k next)) e ∙ set_same states k next (slice_get_within states k current is_current)
        ∙ ap Some (is_next ∙ ap (λ c. fold_slot step c slot) now ∙ sym (folded step s (values_at (take i pairs) k) k slot)
        ∙ ap (fold step s) (sym (values-more pairs i k k slot at)))
        ∙ ap (λ j. Some (fold step s (values_at (take (i + 1) pairs) j))) (sym e)

    other : g ≢ k → slice_get (set states k next) g ≡ Some (fold step s (values_at (take (i + 1) pairs) g))
    other apart =
        let none : values_at ((k, slot) ∷ []) g ≡ [] =
        ap (λ b. filter_map (λ (pair : ℕ × Option _). if b then pair.1 else None) ((k, slot) ∷ [])) (ne_eqb k g (λ e. apart (sym e))) in
        set_other states k g next apart ∙ before
        ∙ ap (λ values. Some (fold step s values)) (sym (values-more pairs i k g slot at
        ∙ ap (λ rest. values_at (take i pairs) g ++ rest) none
        ∙ append-nil (values_at (take i pairs) g)))

-- ---- arrays of groups

pub groups_made : {A Z : Type 0} (t : LogicalType) (groups : ℕ) (Holds : ℕ → Option Z → Type 0) (made : ColumnWith A Z)
    (slots : List (Option Z)) → MakesSlots t slots made → length slots ≡ groups
    → ((g : ℕ) → g < groups → (o : Option Z) → slice_get slots g ≡ Some o → Holds g o) → GroupSlots t groups Holds made
groups_made t groups Holds made slots is count each = record {
  data_type = is.data_type;
  held = is.held;
  count = sym (length-map made.rows slot) ∙ ap length is.slots ∙ count;
  slots = λ g o at.
      let own = sym (ap (λ s. slice_get s g) is.slots) ∙ at in
      each g (omega (arith, count, slice_get_within slots g o own)) o own;
}

-- the values of valid slots alone
all_values : {X : Type 0} (values : List X) → valid (map Some values) ≡ values
all_values [] = refl
all_values (x ∷ values) = ap (λ rest. x ∷ rest) (all_values values)

module _ {X : Type 0} (cmp : X → X → Ordering) (order : IsTotalOrder cmp) where
  pub least_of : (values : List X) (o : Option X) → o ≡ fold (λ state x. lesser_slot cmp state (Some x)) None values
      → IsLeastSlot cmp values o
  least_of values o is = subst (λ vs. IsLeastSlot cmp vs o) (all_values values)
      (least_slot cmp order (map Some values) o (is ∙ sym (fold-map (lesser_slot cmp) Some None values)))

  pub greatest_of : (values : List X) (o : Option X) → o ≡ fold (λ state x. greater_slot cmp state (Some x)) None values
      → IsGreatestSlot cmp values o
  greatest_of values o is = subst (λ vs. IsGreatestSlot cmp vs o) (all_values values)
      (greatest_slot cmp order (map Some values) o (is ∙ sym (fold-map (greater_slot cmp) Some None values)))

  pub extreme_of : (extreme : Extreme) (values : List X) (o : Option X)
      → o ≡ fold (λ state x. extreme_slot extreme cmp state (Some x)) None values → IsExtremeSlot extreme cmp values o
  extreme_of Least values o is = least_of values o is
  extreme_of Greatest values o is = greatest_of values o is

  member_of : (extreme : Extreme) (values : List X) (x : X) → IsExtremeSlot extreme cmp values (Some x) → Contains values x
  member_of Least values x is = is.member
  member_of Greatest values x is = is.member

  -- each slot of the extreme values is the extreme of its group, and shows one of its values
  module _ {A : Type 0} (extreme : Extreme) (column : ColumnWith A X) (indices : List ℕ) (groups : ℕ) (best : List (Option X))
      (bests : ExtremesOfGroups extreme cmp column indices groups best) where
    pub extreme_each : (g : ℕ) → g < groups → (o : Option X) → slice_get best g ≡ Some o
        → IsExtremeSlot extreme cmp (group_values column indices g) o
    extreme_each g low o at = extreme_of extreme (group_values column indices g) o (same_Some _ _ (sym at ∙ bests g low))

    pub extreme_picks : length best ≡ groups → (g : ℕ) (x : X) → slice_get best g ≡ Some (Some x)
        → Contains (values_at (zip indices (slots_of column)) g) x
    extreme_picks count g x at = member_of extreme (group_values column indices g) x
        (extreme_each g (omega (arith, count, slice_get_within best g (Some x) at)) (Some x) at)

    -- the array of the extreme values
    pub extremes_made : {B : Type 0} (shown : List (Option X)) (made : ColumnWith B X) → length best ≡ groups → shown ≡ best
        → MakesSlots column.data_type shown made
        → GroupSlots column.data_type groups (λ g. IsExtremeSlot extreme cmp (group_values column indices g)) made
    extremes_made shown made count same is =
        groups_made column.data_type groups (λ g. IsExtremeSlot extreme cmp (group_values column indices g)) made best
        (subst (λ slots. MakesSlots column.data_type slots made) same is) count extreme_each

-- slots that are seen as they are
pub same_slots : {X : Type 0} (slots : List (Option X)) → as_seen (λ x. x) slots ≡ slots
same_slots [] = refl
same_slots (None ∷ slots) = ap (λ rest. None ∷ rest) (same_slots slots)
same_slots (Some x ∷ slots) = ap (λ rest. Some x ∷ rest) (same_slots slots)

-- ---- counts

one_more : {S : Type 0} (o : Option S) (values : List S) (n : ℕ) → length values ≤ n → length (cons_option o values) ≤ suc n
one_more None values n low = omega (arith, low)
one_more (Some v) values n low = omega (arith, low)

length-values_at : {S : Type 0} (pairs : List (ℕ × Option S)) (g : ℕ) → length (values_at pairs g) ≤ length pairs
length-values_at [] g = omega arith
length-values_at ((k, o) ∷ pairs) g =
    one_more (if k == g then o else None) (values_at pairs g) (length pairs) (length-values_at pairs g)

counted : {S : Type 0} (values : List S) (n : ℕ) → n + length values < 2 ^ 64 → fold count_step n values ≡ n + length values
counted [] n small = omega arith
counted (v ∷ values) n small = ap (λ m. fold count_step m values) (mod-eq_of_lt (omega (arith, small)))
    ∙ counted values (n + 1) (omega (arith, small)) ∙ omega arith

pub group_counted : {A S : Type 0} (column : ColumnWith A S) (indices : List ℕ) (g : ℕ) → length indices < 2 ^ 64
    → fold count_step 0 (group_values column indices g) ≡ length (group_values column indices g)
group_counted column indices g small =
    let values = group_values column indices g in
    counted values 0 (omega (arith, small, length-values_at (zip indices (slots_of column)) g, length-zip indices (slots_of column)))
    ∙ omega arith

-- the values of a group that are numbers themselves are those that are its number
own_values : (indices : List ℕ) (g : ℕ) → values_at (own_pairs indices) g ≡ filter (λ number. number == g) indices
own_values [] g = refl
own_values (k ∷ indices) g =
    chosen (k == g) (values_at (own_pairs indices) g) ∙ ap (λ rest. cond (k == g) (k ∷ rest) rest) (own_values indices g)
  where
    chosen : (b : Bool) (rest : List ℕ) → cons_option (if b then Some k else None) rest ≡ cond b (k ∷ rest) rest
    chosen true rest = refl
    chosen false rest = refl

pub rows_counted : (indices : List ℕ) (g : ℕ) → length indices < 2 ^ 64
    → fold count_step 0 (values_at (own_pairs indices) g) ≡ group_size indices g
rows_counted indices g small =
    let pairs = own_pairs indices in
    let one : ℕ → ℕ × Option ℕ = λ number. (number, Some number) in
    counted (values_at pairs g) 0 (omega (arith, small, length-values_at pairs g, length-map indices one))
    ∙ omega (arith, ap length (own_values indices g))

-- the slot of a mark, and what it adds to a count
pub slot_by_mark : {S : Type 0} (rows : List (Row S)) (i : ℕ) (mark : Bool) → slice_get (map (λ row. row.1) rows) i ≡ Some mark
    → (o : Option S) × (slice_get (map slot rows) i ≡ Some o) × ((n : ℕ) → fold_slot count_step n o ≡ (if mark then (n + 1) % 2 ^ 64 else n))
slot_by_mark [] i mark at = cc
slot_by_mark ((x, true) ∷ rows) zero true at = (Some x, refl, λ n. refl)
slot_by_mark ((x, true) ∷ rows) zero false at = absurd (true≢false (same_Some true false at))
slot_by_mark ((x, false) ∷ rows) zero true at = absurd (true≢false (sym (same_Some false true at)))
slot_by_mark ((x, false) ∷ rows) zero false at = (None, refl, λ n. refl)
slot_by_mark ((x, m) ∷ rows) (suc i) mark at = slot_by_mark rows i mark at

pub counts_made : (t : LogicalType) (groups : ℕ) (Holds : ℕ → Option ℕ → Type 0) (made : Column ℕ) (values : List ℕ)
    → made ≡ column_of_parts t values None → length values ≡ groups
    → ((g : ℕ) → g < groups → (n : ℕ) → slice_get values g ≡ Some n → Holds g (Some n)) → GroupSlots t groups Holds made
counts_made t groups Holds made values is count each =
    groups_made t groups Holds made (map Some values) (record {
      data_type = ap (λ c. c.data_type) is;
      slots = ap slots_of is ∙ bare-shown values None refl;
      held = subst (λ c. c.held ≡ not (all_valid c)) (sym is) (ap not (sym (all-bare values)));
    }) (length-map values Some ∙ count) slots
  where
    slots : (g : ℕ) → g < groups → (o : Option ℕ) → slice_get (map Some values) g ≡ Some o → Holds g o
    slots g low o at = by (slice_get values g) refl
      where
        by : (v : Option ℕ) → slice_get values g ≡ v → Holds g o
        by None e = absurd (none-some o (sym (sym at ∙ slice_get-map Some values g ∙ ap (option_map Some) e)))
        by (Some n) e = subst (Holds g) (same_Some (Some n) o (sym (sym at ∙ slice_get-map Some values g ∙ ap (option_map Some) e)))
            (each g low n e)
