-- Lemmas about the least and the greatest of the values of valid slots.
use Rattle.std.proofs.Common.{◌≡◌, ℕ, zero, suc, ◌+◌, ◌-◌, ◌<◌, ◌≤◌, ◌==◌, Bool, true, false, not, List, [], ◌∷◌}
use Rattle.std.proofs.Common.{length, map, slice_get, Option, Some, None, refl, sym, ap, ◌∙◌, arith, true≢false}
use Rattle.std.specs.Prelude.{MatchOption, count_by, fold, if◌then◌else◌, option_map}
use Rattle.std.specs.Int.{bit_at}
use Rattle.std.specs.Cmp.{IsTotalOrder}
use Rattle.std.specs.declared.cmp.Ordering.{Ordering}
use Rattle.std.proofs.lemmas.List.{take_all}
use Rattle.std.proofs.lemmas.List.{length-map}
use Rattle.std.proofs.lemmas.Option.{same_Some}
use Rattle.arrow_memory.specs.Rows.{Row, slot}
use Rattle.arrow_column.specs.Column.{ColumnWith, marks_of, slots_of}
use Rattle.arrow_column.proofs.CallerLemmas.{all-valid, slot-at}
use Rattle.compute_base.specs.Words.{HoldsMarks}
use Rattle.compute_base.proofs.CallerLemmas.{all-set}
use Rattle.compute_aggregate.specs.Aggregates.{IsGreatest, IsLeast, extreme_before, extreme_of_all, extreme_slot, valid_values}
use Rattle.compute_aggregate.specs.declared.aggregate.extreme.Extreme.{Extreme}
use Rattle.compute_aggregate.specs.declared.aggregate.extreme.Extreme.TheVariants.{Greatest, Least}
use Rattle.compute_aggregate.proofs.AggregateLemmas.{greatest_slot, least_slot, slot_more}

-- ---- slots that are looked at in order

keeps_extreme : {X : Type 0} (extreme : Extreme) (cmp : X → X → Ordering) (best : Option X) → extreme_slot extreme cmp best None ≡ best
keeps_extreme Least cmp None = refl
keeps_extreme Least cmp (Some x) = refl
keeps_extreme Greatest cmp None = refl
keeps_extreme Greatest cmp (Some x) = refl

null_slot : {S : Type 0} (rows : List (Row S)) (i : ℕ) → slice_get (map (λ row. row.1) rows) i ≡ Some false
    → slice_get (map slot rows) i ≡ Some None
null_slot [] i at = cc
null_slot ((x, true) ∷ rows) zero at = absurd (true≢false (same_Some true false at))
null_slot ((x, false) ∷ rows) zero at = refl
null_slot ((x, m) ∷ rows) (suc i) at = null_slot rows i at

module _ {A X : Type 0} (extreme : Extreme) (cmp : X → X → Ordering) (column : ColumnWith A X) where
  abbrev extreme_to : ℕ → Option X
  extreme_to n = extreme_before extreme cmp column n

  -- one slot more: a valid one, and a null
  pub valid_more : (i : ℕ) (best next : Option X) (value : X) → slice_get (map (λ (row : Row X). row.0) column.rows) i ≡ Some value
      → slice_get (marks_of column) i ≡ Some true → best ≡ extreme_to i → next ≡ extreme_slot extreme cmp best (Some value)
      → next ≡ extreme_to (i + 1)
  valid_more i best next value stored mark so_far is =
      is ∙ ap (λ b. extreme_slot extreme cmp b (Some value)) so_far
      ∙ slot_more (extreme_slot extreme cmp) None (slots_of column) i (Some value) (slot-at column.rows i value true stored mark)

  pub null_more : (i : ℕ) (best : Option X) → slice_get (marks_of column) i ≡ Some false → best ≡ extreme_to i → best ≡ extreme_to (i + 1)
  null_more i best mark so_far =
      so_far ∙ sym (keeps_extreme extreme cmp (extreme_to i))
      ∙ slot_more (extreme_slot extreme cmp) None (slots_of column) i None (null_slot column.rows i mark)

  -- one slot more, by its mark
  pub mark_more : (i : ℕ) (best next chosen : Option X) (value : X) (mark : Bool)
      → slice_get (map (λ (row : Row X). row.0) column.rows) i ≡ Some value → slice_get (marks_of column) i ≡ Some mark
      → best ≡ extreme_to i → next ≡ extreme_slot extreme cmp best (Some value) → chosen ≡ (if mark then next else best)
      → chosen ≡ extreme_to (i + 1)
  mark_more i best next chosen value true stored at so_far is picked =
      picked ∙ valid_more i best next value stored at so_far is
  mark_more i best next chosen value false stored at so_far is picked = picked ∙ null_more i best at so_far

  -- nulls from a place on
  nulls_more : (i n : ℕ) (best : Option X) → ((k : ℕ) → i ≤ k → k < i + n → slice_get (marks_of column) k ≡ Some false)
      → best ≡ extreme_to i → best ≡ extreme_to (i + n)
  nulls_more i zero best null so_far = so_far ∙ ap extreme_to (let e : i ≡ i + 0 = omega arith in e)
  nulls_more i (suc n) best null so_far =
      null_more (i + n) best (null (i + n) (omega arith) (omega arith))
      (nulls_more i n best (λ k low high. null k low (omega (arith, high))) so_far)
      ∙ ap extreme_to (let e : i + n + 1 ≡ i + suc n = omega arith in e)

  pub up_to : (i j : ℕ) (best : Option X) → i ≤ j → ((k : ℕ) → i ≤ k → k < j → slice_get (marks_of column) k ≡ Some false)
      → best ≡ extreme_to i → best ≡ extreme_to j
  up_to i j best low null so_far =
      let e : i + (j - i) ≡ j = omega (arith, low) in
      nulls_more i (j - i) best (λ k at high. null k at (omega (arith, e, high))) so_far ∙ ap extreme_to e

  -- clear bits of a word are nulls
  pub clear_nulls : (word place i j : ℕ) → j ≤ 64
      → HoldsMarks word (marks_of column) place 64
      → ((k : ℕ) → i ≤ k → k < j → bit_at word k ≡ 0)
      → (k : ℕ) → place + i ≤ k → k < place + j → slice_get (marks_of column) k ≡ Some false
  clear_nulls word place i j high marks clear k from till =
      let e : k ≡ place + (k - place) = omega (arith, from) in
      ap (slice_get (marks_of column)) e ∙ marks (k - place) (omega (arith, till, high, from))
      ∙ ap (λ b. Some (b == 1)) (clear (k - place) (omega (arith, from)) (omega (arith, from, till)))

  -- all slots
  pub all_extreme : (best : Option X) (n : ℕ) → length column.rows ≤ n → best ≡ extreme_to n → best ≡ extreme_of_all extreme cmp column
  all_extreme best n past is =
      is ∙ ap (fold (extreme_slot extreme cmp) None) (take_all n (slots_of column)
      (omega (arith, past, length-map column.rows slot)))

-- ---- what is seen of the extreme value

module _ {A V X : Type 0} (seen : V → X) (cmp : X → X → Ordering) (order : IsTotalOrder cmp) (column : ColumnWith A X) where
  pub least_seen : (result : Option V) → option_map seen result ≡ extreme_of_all Least cmp column
      → MatchOption result (valid_values column ≡ []) (λ v. IsLeast cmp (valid_values column) (seen v))
  least_seen None is = least_slot cmp order (slots_of column) None is
  least_seen (Some v) is = least_slot cmp order (slots_of column) (Some (seen v)) is

  pub greatest_seen : (result : Option V) → option_map seen result ≡ extreme_of_all Greatest cmp column
      → MatchOption result (valid_values column ≡ []) (λ v. IsGreatest cmp (valid_values column) (seen v))
  greatest_seen None is = greatest_slot cmp order (slots_of column) None is
  greatest_seen (Some v) is = greatest_slot cmp order (slots_of column) (Some (seen v)) is

-- ---- all marks are set

pub set_without_null : {A S : Type 0} (column : ColumnWith A S) → count_by not (marks_of column) ≡ 0 → (k : ℕ)
    → k < length column.rows → slice_get (marks_of column) k ≡ Some true
set_without_null column none k low = all-set column.rows k (all-valid column.rows none) low
