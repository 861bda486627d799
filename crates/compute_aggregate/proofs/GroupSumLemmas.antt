-- Lemmas about the sums of groups, to which the numbers of slots are added one after the other.
use Rattle.std.proofs.Common.{◌≡◌, ◌≢◌, ℕ, zero, suc, ◌+◌, ◌^◌, ◌<◌, ◌≤◌, ◌||◌, Bool, true, false, if◌then◌else◌}
use Rattle.std.proofs.Common.{List, [], ◌∷◌, ◌++◌, length, map, take, set, slice_get, Option, Some, None, refl, sym, ap, ap₂, ◌∙◌, ◌⊎◌}
use Rattle.std.proofs.Common.{inl, inr, arith, append-nil, subst, ℤ, pos, ◌+ℤ◌, unsigned_abs, nat_lt}
use Rattle.std.specs.Prelude.{is_some, option_map}
use Rattle.arrow_types.specs.declared.error.Error.{Error}
use Rattle.std.specs.List.{filter_map}
use Rattle.std.proofs.Math.IntN.{+ℤ_idr}
use Rattle.std.proofs.lemmas.Bool.{cases_eq, lt-ltb, ne_eqb}
use Rattle.std.proofs.lemmas.Int.{ints}
use Rattle.std.proofs.lemmas.List.{length_push, map-append}
use Rattle.std.proofs.lemmas.List.Sums.{fold_push}
use Rattle.std.proofs.lemmas.Option.{none-some, same_Some, slice_get_within}
use Rattle.compute_aggregate.specs.Aggregates.{sum_all, sum_of}
use Rattle.std.proofs.Common.{get_or}
use Rattle.std.proofs.lemmas.List.{length-map, take_all}
use Rattle.std.proofs.lemmas.Option.{cond_some, slice_get-get_or, slice_get-map}
use Rattle.std.proofs.lemmas.Slice.Zip.{length-zip}
use Rattle.arrow_memory.specs.Rows.{Row, rows_of, slot}
use Rattle.std.specs.Prelude.{Err, IfOk, Ok, Result, count_by, not}
use Rattle.std.specs.List.{zip}
use Rattle.arrow_types.proofs.CallerLemmas.{get-push, get-zip}
use Rattle.arrow_types.specs.Types.{LogicalType}
use Rattle.arrow_column.specs.Column.{Column, ColumnWith, IsColumn, marks_of, mask_of, stored_values}
use Rattle.arrow_column.proofs.CallerLemmas.{all-valid, rows-valid, valid_by_held}
use Rattle.compute_group.specs.Grouping.{GroupLists}
use Rattle.compute_aggregate.specs.Groups.{group_values, values_at}
use Rattle.compute_aggregate.specs.GroupSums.{AddsSlot, GroupsRefused, IsGroupSum, IsWholeSum, ShowsGroupSums, ShowsSums, ShowsWhole}
use Rattle.compute_aggregate.specs.GroupSums.{SlotsRefused, SumsGroupsAs, SumsGroupsWide, SumsTo, WholeRefused, more_in_sum, slots_by_group, sum_slot_of, whole_slot_of}
use Rattle.compute_aggregate.specs.Sums.{number_or_zero, sum_split}
use Rattle.compute_aggregate.proofs.GroupLemmas.{own_slot, set_other, set_same, values-more}
use Rattle.compute_aggregate.proofs.AggregateLemmas.{size_of_sum}
use Rattle.compute_aggregate.proofs.SumLemmas.{high_step, split_more}

abbrev pub Sum : Type 0
Sum = (ℤ × ℕ) × Bool

pub no_sum : {T : Type 0} (number : T → ℤ) → IsGroupSum number [] 0 ((pos 0, 0), false)
no_sum number = record { total = omega (arith, ints); some = refl; high = omega arith; low = omega arith }

pub valid_is_some : {T : Type 0} (b : Bool) (v : T) → is_some (if b then Some v else None) ≡ b
valid_is_some true v = refl
valid_is_some false v = refl

or_false : (b : Bool) → (b || false) ≡ b
or_false true = refl
or_false false = refl

or_true : (b : Bool) → (b || true) ≡ true
or_true true = refl
or_true false = refl

abbrev slot_list : {T : Type 0} → Option T → List T
slot_list None = []
slot_list (Some x) = x ∷ []

own_list : {T : Type 0} (k : ℕ) (slot : Option T) → values_at ((k, slot) ∷ []) k ≡ slot_list slot
own_list k None = own_slot k None
own_list k (Some x) = own_slot k (Some x)

module _ {T : Type 0} (number : T → ℤ) where
  sum_more : (values : List T) (slot : Option T)
      → sum_all (map number values) +ℤ number_or_zero number slot ≡ sum_all (map number (values ++ slot_list slot))
  sum_more values None = +ℤ_idr (sum_all (map number values)) ∙ ap (λ xs. sum_all (map number xs)) (sym (append-nil values))
  sum_more values (Some x) = sym (fold_push (λ sum y. sum +ℤ y) (pos 0) (map number values) (number x))
      ∙ ap sum_all (sym (map-append number values (x ∷ [])))

  some_more : (values : List T) (slot : Option T)
      → (nat_lt 0 (length values) || is_some slot) ≡ nat_lt 0 (length (values ++ slot_list slot))
  some_more values None = or_false (nat_lt 0 (length values)) ∙ ap (λ xs. nat_lt 0 (length xs)) (sym (append-nil values))
  some_more values (Some x) = or_true (nat_lt 0 (length values))
      ∙ sym (lt-ltb 0 (length (values ++ x ∷ [])) (omega (arith, length_push values x)))

  -- the sum of a group with one slot more
  pub own_more : (values : List T) (n : ℕ) (slot : Option T) (s : Sum) (h : ℤ) (p : ℕ) (b : Bool) → IsGroupSum number values n s
      → sum_split (h, p) ≡ number_or_zero number slot → unsigned_abs h ≤ 2 ^ 63 → p < 2 ^ 64 → b ≡ is_some slot
      → IsGroupSum number (values ++ slot_list slot) (n + 1) ((s.0.0 +ℤ h, s.0.1 + p), s.1 || b)
  own_more values n slot s h p b before parts small low flag = record {
    total = sym (split_more s.0.0 h s.0.1 p) ∙ ap₂ ◌+ℤ◌ before.total parts ∙ sum_more values slot;
    some = ap₂ ◌||◌ before.some flag ∙ some_more values slot;
    high = high_step s.0.0 h (s.0.0 +ℤ h) n refl before.high small;
    low = omega (arith, before.low, low);
  }

  later : (values : List T) (n : ℕ) (s : Sum) → IsGroupSum number values n s → IsGroupSum number values (n + 1) s
  later values n s before = record {
    total = before.total;
    some = before.some;
    high = omega (arith, before.high);
    low = omega (arith, before.low);
  }

  -- the sum of group g after one slot more, that of group k
  pub sums_more : (states : List Sum) (pairs : List (ℕ × Option T)) (i k g : ℕ) (slot : Option T) (current next : Sum) (h : ℤ) (p : ℕ)
      (b : Bool) → slice_get pairs i ≡ Some (k, slot) → slice_get states k ≡ Some current
      → next ≡ ((current.0.0 +ℤ h, current.0.1 + p), current.1 || b)
      → sum_split (h, p) ≡ number_or_zero number slot → unsigned_abs h ≤ 2 ^ 63 → p < 2 ^ 64 → b ≡ is_some slot
      → ((j : ℕ) (s : Sum) → slice_get states j ≡ Some s → IsGroupSum number (values_at (take i pairs) j) i s)
      → (s : Sum) → slice_get (set states k next) g ≡ Some s → IsGroupSum number (values_at (take (i + 1) pairs) g) (i + 1) s
  sums_more states pairs i k g slot current next h p b at is_current is_next parts small low flag before s own = elim (cases_eq g k) [
    | inl e ↦ same e
    | inr apart ↦ other apart
  ]
    where
      same : g ≡ k → IsGroupSum number (values_at (take (i + 1) pairs) g) (i + 1) s
      same e =
          let now : next ≡ s = same_Some next s (sym (set_same states k next (slice_get_within states k current is_current))
          ∙ ap (slice_get (set states k next)) (sym e) ∙ own) in
          let values : values_at (take i pairs) k ++ slot_list slot ≡ values_at (take (i + 1) pairs) g =
          ap (λ rest. values_at (take i pairs) k ++ rest) (sym (own_list k slot))
          ∙ sym (values-more pairs i k k slot at)
          ∙ ap (values_at (take (i + 1) pairs)) (sym e) in
          subst (λ vs. IsGroupSum number vs (i + 1) s) values
          (subst (IsGroupSum number (values_at (take i pairs) k ++ slot_list slot) (i + 1)) (sym is_next ∙ now)
          (own_more (values_at (take i pairs) k) i slot current h p b (before k current is_current) parts small low flag))

      other : g ≢ k → IsGroupSum number (values_at (take (i + 1) pairs) g) (i + 1) s
      other apart =
          let none : values_at ((k, slot) ∷ []) g ≡ [] =
          ap (λ t. filter_map (λ (pair : ℕ × Option T). if t then pair.1 else None) ((k, slot) ∷ [])) (ne_eqb k g (λ e. apart (sym e))) in
          let values : values_at (take i pairs) g ≡ values_at (take (i + 1) pairs) g =
          sym (values-more pairs i k g slot at ∙ ap (λ rest. values_at (take i pairs) g ++ rest) none
          ∙ append-nil (values_at (take i pairs) g)) in
          subst (λ vs. IsGroupSum number vs (i + 1) s) values
          (later (values_at (take i pairs) g) i s (before g s (sym (set_other states k g next apart) ∙ own)))

-- ---- slots of sums

-- each slot so far is that of its sum
pub record SlotsSoFar {T : Type 0} (number : T → ℤ) (sums : List Sum) (i : ℕ) (slots : List (Option T)) : Type 0 where
  pub count : length slots ≡ i
  pub each : (k : ℕ) (slot : Option T) (sum : Sum) → slice_get slots k ≡ Some slot → slice_get sums k ≡ Some sum
      → option_map number slot ≡ sum_slot_of sum

module _ {T : Type 0} (number : T → ℤ) where
  pub no_slots : (sums : List Sum) (slots : List (Option T)) → slots ≡ [] → SlotsSoFar number sums 0 slots
  no_slots sums slots e = subst (SlotsSoFar number sums 0) (sym e) (record {
    count = refl;
    each = λ k slot sum at own. absurd (none-some slot at);
  })

  pub slots_more : (sums : List Sum) (i : ℕ) (slots all : List (Option T)) (slot : Option T) (sum : Sum)
      → SlotsSoFar number sums i slots → slice_get sums i ≡ Some sum → option_map number slot ≡ sum_slot_of sum
      → all ≡ slots ++ slot ∷ [] → SlotsSoFar number sums (i + 1) all
  slots_more sums i slots all slot sum before own is e = subst (SlotsSoFar number sums (i + 1)) (sym e) (record {
    count = length_push slots slot ∙ ap (λ n. n + 1) before.count;
    each = λ k o s at there. each k o s (get-push slots slot k o at) there;
  })
    where
      each : (k : ℕ) (o : Option T) (s : Sum) → (slice_get slots k ≡ Some o) ⊎ ((k ≡ length slots) × (slot ≡ o))
          → slice_get sums k ≡ Some s → option_map number o ≡ sum_slot_of s
      each k o s (inl at) there = before.each k o s at there
      each k o s (inr (place, same)) there =
          let this : sum ≡ s = same_Some sum s (sym own ∙ ap (slice_get sums) (sym (place ∙ before.count)) ∙ there) in
          ap (option_map number) (sym same) ∙ is ∙ ap sum_slot_of this

  -- the slot of a group's sum
  pub sum_shown : (values : List T) (n : ℕ) (parts : Sum) → IsGroupSum number values n parts
      → sum_slot_of parts ≡ sum_of (map number values)
  sum_shown [] n parts is = ap (λ b. if b then Some (sum_split (parts.0)) else None) is.some
  sum_shown (x ∷ values) n parts is = ap (λ b. if b then Some (sum_split (parts.0)) else None) (is.some ∙ lt-ltb 0 (length (x ∷ values)) (omega arith)) ∙ ap Some is.total

  -- the groups of sums that have no slots
  pub refused : (fits : ℤ → Bool) (groups n : ℕ) (values : ℕ → List T) (sums : List Sum) (e : Error) → length sums ≡ groups
      → ((g : ℕ) → g < groups → (s : Sum) × (slice_get sums g ≡ Some s) × IsGroupSum number (values g) n s)
      → SlotsRefused fits sums e → GroupsRefused fits groups (λ g. map number (values g)) e
  refused fits groups n values sums e count each (inl memory) = inl memory
  refused fits groups n values sums e count each (inr (g, sum, own, why)) =
      let low = slice_get_within sums g sum own in
      let group = each g (omega (arith, low, count)) in
      let same : sum ≡ group.0 = same_Some sum group.0 (sym own ∙ group.1) in
      inr (why.0, (g, omega (arith, low, count), ap fits (sym (ap (λ s. sum_split (s.0)) same ∙ group.2.total)) ∙ why.1))

-- the slots of sums show those of the groups
pub split_shown : {S T : Type 0} (shown : S → ℤ) (number : T → ℤ) (groups n : ℕ) (values : ℕ → List T) (sums : List Sum)
    (slots : List (Option S)) → length slots ≡ length sums → length sums ≡ groups
    → ((g : ℕ) → g < groups → (s : Sum) × (slice_get sums g ≡ Some s) × IsGroupSum number (values g) n s)
    → ShowsSums shown sums slots
    → (g : ℕ) (o : Option S) → slice_get slots g ≡ Some o → option_map shown o ≡ sum_of (map number (values g))
split_shown shown number groups n values sums slots count all each slot_of g o at =
    let low = slice_get_within slots g o at in
    let group = each g (omega (arith, low, count, all)) in
    slot_of g o group.0 at group.1 ∙ sum_shown number (values g) n group.0 group.2

-- ---- whole sums

abbrev pub Whole : Type 0
Whole = ℤ × Bool

pub no_whole : {T : Type 0} (number : T → ℤ) → IsWholeSum number [] 0 (pos 0, false)
no_whole number = record { total = refl; some = refl; size = omega arith }

module _ {T : Type 0} (number : T → ℤ) where
  whole_own : (values : List T) (n : ℕ) (slot : Option T) (s : Whole) → IsWholeSum number values n s
      → unsigned_abs (number_or_zero number slot) ≤ 2 ^ 64
      → IsWholeSum number (values ++ slot_list slot) (n + 1) (more_in_sum number slot s)
  whole_own values n slot s before small = record {
    total = ap (λ z. z +ℤ number_or_zero number slot) before.total ∙ sum_more number values slot;
    some = ap (λ b. b || is_some slot) before.some ∙ some_more number values slot;
    size = omega (arith, size_of_sum s.0 (number_or_zero number slot), before.size, small);
  }

  whole_later : (values : List T) (n : ℕ) (s : Whole) → IsWholeSum number values n s → IsWholeSum number values (n + 1) s
  whole_later values n s before = record { total = before.total; some = before.some; size = omega (arith, before.size) }

  -- no sum so far
  pub whole_none : (pairs : List (ℕ × Option T)) (sums : List Whole)
      → ((g : ℕ) → g < length sums → slice_get sums g ≡ Some (pos 0, false)) → SumsTo number pairs 0 sums
  whole_none pairs sums empty g s at = subst (IsWholeSum number [] 0)
      (same_Some (pos 0, false) s (sym (empty g (slice_get_within sums g s at)) ∙ at)) (no_whole number)

  -- one slot more
  pub whole_more : (before after : List Whole) (pairs : List (ℕ × Option T)) (i k : ℕ) (slot : Option T)
      → k < length before → slice_get pairs i ≡ Some (k, slot) → AddsSlot number before k slot after
      → SumsTo number pairs i before → SumsTo number pairs (i + 1) after
  whole_more before after pairs i k slot low at adds sums g s own = elim (cases_eq g k) [
    | inl e ↦ same e
    | inr apart ↦ other apart
  ]
    where
      current : Whole
      current = get_or before k (pos 0, false)

      next : Whole
      next = more_in_sum number slot current

      is_current : slice_get before k ≡ Some current
      is_current = slice_get-get_or before k (pos 0, false) low

      own_set : slice_get (set before k next) g ≡ Some s
      own_set = ap (λ xs. slice_get xs g) (sym (adds.sums current is_current)) ∙ own

      same : g ≡ k → IsWholeSum number (values_at (take (i + 1) pairs) g) (i + 1) s
      same e =
          let now : next ≡ s = same_Some next s (sym (set_same before k next low) ∙ ap (slice_get (set before k next)) (sym e)
          ∙ own_set) in
          let values : values_at (take i pairs) k ++ slot_list slot ≡ values_at (take (i + 1) pairs) g =
          ap (λ rest. values_at (take i pairs) k ++ rest) (sym (own_list k slot))
          ∙ sym (values-more pairs i k k slot at)
          ∙ ap (values_at (take (i + 1) pairs)) (sym e) in
          subst (λ vs. IsWholeSum number vs (i + 1) s) values
          (subst (IsWholeSum number (values_at (take i pairs) k ++ slot_list slot) (i + 1)) now
          (whole_own (values_at (take i pairs) k) i slot current (sums k current is_current) adds.small))

      other : g ≢ k → IsWholeSum number (values_at (take (i + 1) pairs) g) (i + 1) s
      other apart =
          let none : values_at ((k, slot) ∷ []) g ≡ [] =
          ap (λ t. filter_map (λ (pair : ℕ × Option T). if t then pair.1 else None) ((k, slot) ∷ [])) (ne_eqb k g (λ e. apart (sym e))) in
          let values : values_at (take i pairs) g ≡ values_at (take (i + 1) pairs) g =
          sym (values-more pairs i k g slot at ∙ ap (λ rest. values_at (take i pairs) g ++ rest) none
          ∙ append-nil (values_at (take i pairs) g)) in
          subst (λ vs. IsWholeSum number vs (i + 1) s) values
          (whole_later (values_at (take i pairs) g) i s (sums g s (sym (set_other before k g next apart) ∙ own_set)))

  -- a sum so far is at most 2 ^ 126 from zero
  pub whole_size : (pairs : List (ℕ × Option T)) (i : ℕ) (sums : List Whole) → i < 2 ^ 62 → SumsTo number pairs i sums
      → (g : ℕ) (s : Whole) → slice_get sums g ≡ Some s → unsigned_abs (s.0) ≤ 2 ^ 126
  whole_size pairs i sums few before g s at = omega (arith, few, (before g s at).size)

  whole_slot : (values : List T) (n : ℕ) (s : Whole) → IsWholeSum number values n s
      → whole_slot_of s ≡ sum_of (map number values)
  whole_slot [] n s is = ap (λ b. if b then Some (s.0) else None) is.some
  whole_slot (x ∷ values) n s is = ap (λ b. if b then Some (s.0) else None) (is.some ∙ lt-ltb 0 (length (x ∷ values)) (omega arith)) ∙ ap Some is.total

  -- the pair of a slot by its group
  pub by_group_at : (indices : List ℕ) (rows : List (Row T)) (i k : ℕ) (value : T) (mark : Bool) → slice_get indices i ≡ Some k
      → slice_get rows i ≡ Some (value, mark) → slice_get (slots_by_group indices rows) i ≡ Some (k, slot (value, mark))
  by_group_at indices rows i k value mark at own = get-zip indices (map slot rows) i k (slot (value, mark)) at
      (slice_get-map slot rows i ∙ ap (option_map slot) own)

  -- all slots
  pub by_group_all : (indices : List ℕ) (rows : List (Row T)) → length indices ≡ length rows
      → take (length indices) (slots_by_group indices rows) ≡ slots_by_group indices rows
  by_group_all indices rows same = take_all (length indices) (slots_by_group indices rows)
      (omega (arith, same, length-zip indices (map slot rows), length-map rows slot))

  pub whole_refused : {A : Type 0} (fits : ℤ → Bool) (groups : ℕ) (column : ColumnWith A T) (indices : List ℕ) (sums : List Whole)
      (e : Error) → length sums ≡ groups → length indices ≡ length column.rows
      → SumsTo number (slots_by_group indices column.rows) (length indices) sums → WholeRefused fits sums e
      → GroupsRefused fits groups (λ g. map number (group_values column indices g)) e
  whole_refused fits groups column indices sums e count rows before (inl memory) = inl memory
  whole_refused fits groups column indices sums e count rows before (inr (g, sum, own, why)) =
      let low = slice_get_within sums g sum own in
      let total = subst (λ ps. sum.0 ≡ sum_all (map number (values_at ps g))) (by_group_all indices column.rows rows) (before g sum own).total in
      inr (why.0, (g, omega (arith, low, count), ap fits (sym total) ∙ why.1))

pub whole_shown : {A S T : Type 0} (shown : S → ℤ) (number : T → ℤ) (column : ColumnWith A T) (indices : List ℕ)
    (sums : List Whole) (slots : List (Option S)) → length slots ≡ length sums → length indices ≡ length column.rows
    → SumsTo number (slots_by_group indices column.rows) (length indices) sums → ShowsWhole shown sums slots
    → ShowsGroupSums shown number column indices slots
whole_shown shown number column indices sums slots count rows before slot_of g o at =
    let low = slice_get_within slots g o at in
    let own = slice_get-get_or sums g (pos 0, false) (omega (arith, low, count)) in
    let current = get_or sums g (pos 0, false) in
    slot_of g o current at own
    ∙ whole_slot number (values_at (take (length indices) (slots_by_group indices column.rows)) g)
    (length indices) current (before g current own)
    ∙ ap (λ ps. sum_of (map number (values_at ps g))) (by_group_all number indices column.rows rows)

-- the sums of groups as integers themselves
pub wide_sums : {A T : Type 0} (t : LogicalType) (number : T → ℤ) (column : ColumnWith A T) (groups : GroupLists)
    (made : Column ℤ) → SumsGroupsAs t (λ z. z) number column groups.indices (length groups.first) made
    → SumsGroupsWide t number column groups made
wide_sums t number column groups made sums = record {
  data_type = sums.data_type;
  held = sums.held;
  count = sums.count;
  slots = λ g slot at. same_slot slot ∙ sums.slots g slot at;
}
  where
    same_slot : (slot : Option ℤ) → slot ≡ option_map (λ z. z) slot
    same_slot None = refl
    same_slot (Some z) = refl

-- each slot so far is that of its whole sum
pub record WholeSlotsSoFar {T : Type 0} (number : T → ℤ) (sums : List Whole) (i : ℕ) (slots : List (Option T)) : Type 0 where
  pub count : length slots ≡ i
  pub each : ShowsWhole number sums slots

module _ {T : Type 0} (number : T → ℤ) where
  pub no_whole_slots : (sums : List Whole) (slots : List (Option T)) → slots ≡ [] → WholeSlotsSoFar number sums 0 slots
  no_whole_slots sums slots e = subst (WholeSlotsSoFar number sums 0) (sym e) (record {
    count = refl;
    each = λ k slot sum at own. absurd (none-some slot at);
  })

  pub whole_slots_more : (sums : List Whole) (i : ℕ) (slots all : List (Option T)) (slot : Option T) (sum : Whole)
      → WholeSlotsSoFar number sums i slots → slice_get sums i ≡ Some sum → option_map number slot ≡ whole_slot_of sum
      → all ≡ slots ++ slot ∷ [] → WholeSlotsSoFar number sums (i + 1) all
  whole_slots_more sums i slots all slot sum before own is e = subst (WholeSlotsSoFar number sums (i + 1)) (sym e) (record {
    count = length_push slots slot ∙ ap (λ n. n + 1) before.count;
    each = λ k o s at there. each k o s (get-push slots slot k o at) there;
  })
    where
      each : (k : ℕ) (o : Option T) (s : Whole) → (slice_get slots k ≡ Some o) ⊎ ((k ≡ length slots) × (slot ≡ o))
          → slice_get sums k ≡ Some s → option_map number o ≡ whole_slot_of s
      each k o s (inl at) there = before.each k o s at there
      each k o s (inr (place, same)) there =
          let this : sum ≡ s = same_Some sum s (sym own ∙ ap (slice_get sums) (sym (place ∙ before.count)) ∙ there) in
          ap (option_map number) (sym same) ∙ is ∙ ap whole_slot_of this

-- ---- the rows of an array, by its stored values and its mask

zipped_again : {S : Type 0} (rows : List (Row S)) → zip (map (λ row. row.0) rows) (map (λ row. row.1) rows) ≡ rows
zipped_again [] = refl
zipped_again (row ∷ rows) = ap (λ rest. row ∷ rest) (zipped_again rows)

pub rows_no_null : {A S : Type 0} (column : ColumnWith A S) → 0 ≡ count_by not (marks_of column)
    → rows_of (stored_values column) None ≡ column.rows
rows_no_null column none = rows-valid column.rows (all-valid column.rows (sym none))

pub rows_unmasked : {A S : Type 0} (column : ColumnWith A S) → IsColumn column → mask_of column ≡ None
    → rows_of (stored_values column) None ≡ column.rows
rows_unmasked column is_column none = rows-valid column.rows (valid_by_held column.held column.rows is_column none)

pub rows_masked : {A S : Type 0} (column : ColumnWith A S) (mask : List Bool) → mask_of column ≡ Some mask
    → rows_of (stored_values column) (Some mask) ≡ column.rows
rows_masked column mask is_mask =
    ap (zip (stored_values column)) (sym (cond_some column.held (marks_of column) mask is_mask).1)
    ∙ zipped_again column.rows

-- the row at an index, by its stored value and its mark
pub valid_row_at : {S : Type 0} (values : List S) (i : ℕ) (value : S) → slice_get values i ≡ Some value
    → slice_get (rows_of values None) i ≡ Some (value, true)
valid_row_at values i value at = slice_get-map (λ value. (value, true)) values i ∙ ap (option_map (λ value. (value, true))) at

pub masked_row_at : {S : Type 0} (values : List S) (marks : List Bool) (i : ℕ) (value : S) (mark : Bool)
    → slice_get values i ≡ Some value → slice_get marks i ≡ Some mark
    → slice_get (rows_of values (Some marks)) i ≡ Some (value, mark)
masked_row_at [] marks i value mark at own = cc
masked_row_at (v ∷ values) [] i value mark at own = cc
masked_row_at (v ∷ values) (m ∷ marks) zero value mark at own = ap₂ (λ a b. Some (a, b)) (same_Some v value at) (same_Some m mark own)
masked_row_at (v ∷ values) (m ∷ marks) (suc i) value mark at own = masked_row_at values marks i value mark at own

-- two facts of a result that is no error
pub both_ok : {X E : Type 0} (r : Result X E) {P Q R : X → Type 0} → IfOk r P → IfOk r Q → ((x : X) → P x → Q x → R x) → IfOk r R
both_ok (Ok x) p q f = f x p q
both_ok (Err e) p q f = tt
