-- Comparisons of slots. `cmp` compares two values: it says in which order they are, or whether they are equal. `test`
-- says for which result a comparison holds, as `is_lt` does for `<`, and `not` for `!=`.
use Rattle.std.specs.Prelude.{◌≡◌, ◌==◌, ◌&&◌, ◌||◌, ℕ, Bool, List, map, not, Option, Some, option_map, refl}
use Rattle.std.specs.Cmp.{IsTotalOrder}
use Rattle.std.specs.Int.{bit_at}
use Rattle.std.specs.List.{zip}
use Rattle.std.specs.Ordering.{is_eq, is_ne}
use Rattle.std.specs.declared.cmp.Ordering.{Ordering}
use Rattle.std.specs.declared.cmp.Ordering.TheVariants.{Less, Equal, Greater}
use Rattle.std.specs.Option.{option_eq}
use Rattle.arrow_column.specs.Column.{ColumnWith, slots_of, stored_values}
use Rattle.arrow_column.specs.Combined.{of_pairs}
use Rattle.compute_base.specs.Slots.{combine_valid, pairwise}
use Rattle.compute_comparison.specs.Logic.{not_slot}
-- which marks the bits of a word are: callers cite it here
pub use Rattle.compute_base.specs.Words.{HoldsMarks}

module _ {X R : Type 0} (test : R → Bool) (cmp : X → X → R) where
  -- null where either slot is null, else whether the comparison holds of the two values
  abbrev pub compare_slots : Option X → Option X → Option Bool
  compare_slots = combine_valid (λ x y. test (cmp x y))

  -- null where the slot is null, else whether the comparison holds of its value and another
  abbrev pub compare_slot : X → Option X → Option Bool
  compare_slot value slot = option_map (λ x. test (cmp x value)) slot

  -- whether the comparison holds of the two values at each index
  abbrev pub compare_values : List X → List X → List Bool
  compare_values xs ys = map (λ pair. test (cmp pair.0 pair.1)) (zip xs ys)

  -- whether it holds of the two values that two arrays store at each index
  abbrev pub compare_stored : {A B : Type 0} → ColumnWith A X → ColumnWith B X → List Bool
  compare_stored lhs rhs = compare_values (stored_values lhs) (stored_values rhs)

  -- whether it holds of each value and another, the same for all
  abbrev pub compare_scalar : List X → X → List Bool
  compare_scalar xs value = map (λ x. test (cmp x value)) xs

  -- whether it holds of each value that an array stores and another
  abbrev pub compare_stored_to : {A : Type 0} → ColumnWith A X → X → List Bool
  compare_stored_to array value = compare_scalar (stored_values array) value

-- of slots that are compared at each index, `not` of one comparison is the other
abbrev pub AreOpposites : {X : Type 0} → (Option X → Option X → Option Bool) → (Option X → Option X → Option Bool)
    → Type 0
AreOpposites {X} compare opposite = (xs ys : List (Option X))
    → map not_slot (pairwise compare xs ys) ≡ pairwise opposite xs ys

-- of slots that are each compared with one value, `not` of one comparison is the other
abbrev pub AreOpposed : {X : Type 0} → (Option X → Option Bool) → (Option X → Option Bool) → Type 0
AreOpposed {X} compare opposite = (xs : List (Option X)) → map not_slot (map compare xs) ≡ map opposite xs

-- of slots that are compared at each index, one comparison is the other with its operands exchanged
abbrev pub AreMirrored : {X : Type 0} → (Option X → Option X → Option Bool) → (Option X → Option X → Option Bool)
    → Type 0
AreMirrored {X} compare mirrored = (xs ys : List (Option X)) → pairwise compare xs ys ≡ pairwise mirrored ys xs

-- a fact of any total order of values
abbrev pub ForTotalOrders : (X : Type 0) → ((X → X → Ordering) → Type 0) → Type 0
ForTotalOrders X P = (cmp : X → X → Ordering) → IsTotalOrder cmp → P cmp

-- whether two values are not equal
abbrev pub unequal : {X : Type 0} → (X → X → Bool) → X → X → Bool
unequal equal x y = not (equal x y)

-- whether the values that two arrays store at each index are equal; and whether each value of one is equal to another
abbrev pub equal_stored : {A B X : Type 0} → (X → X → Bool) → ColumnWith A X → ColumnWith B X → List Bool
equal_stored equal lhs rhs = of_pairs equal (stored_values lhs) (stored_values rhs)

abbrev pub stored_equal_to : {A X : Type 0} → (X → X → Bool) → ColumnWith A X → X → List Bool
stored_equal_to equal array value = map (λ x. equal x value) (stored_values array)

-- whether two arrays have equal slots at each index: two nulls are equal, a null and a value are not
abbrev pub equal_slots : {A B X : Type 0} → (X → X → Bool) → ColumnWith A X → ColumnWith B X → List Bool
equal_slots equal lhs rhs = map (λ pair. option_eq equal pair.0 pair.1) (zip (slots_of lhs) (slots_of rhs))

-- whether two arrays have unequal slots at each index
abbrev pub unequal_slots : {A B X : Type 0} → (X → X → Bool) → ColumnWith A X → ColumnWith B X → List Bool
unequal_slots equal lhs rhs = map not (equal_slots equal lhs rhs)

-- whether each slot of an array is equal to a value, which no null is
abbrev pub slots_equal_to : {A X : Type 0} → (X → X → Bool) → ColumnWith A X → X → List Bool
slots_equal_to equal array value = map (λ slot. option_eq equal slot (Some value)) (slots_of array)

-- whether each slot of an array is unequal to a value, which a null is
abbrev pub slots_unequal_to : {A X : Type 0} → (X → X → Bool) → ColumnWith A X → X → List Bool
slots_unequal_to equal array value = map not (slots_equal_to equal array value)

-- whether two slots are equal, by bit k of three words: whether their values are equal, and the marks of both; only a
-- private function cites it
abbrev pub equal_slot_bit : ℕ → ℕ → ℕ → ℕ → Bool
equal_slot_bit equal left right k =
    ((bit_at equal k == 1) && ((bit_at left k == 1) && (bit_at right k == 1)))
    || not ((bit_at left k == 1) || (bit_at right k == 1))

-- values are unequal in an order exactly if they are not equal in it
pub unequal_by_order : (order : Ordering) → is_ne order ≡ not (is_eq order)
unequal_by_order Less = refl
unequal_by_order Equal = refl
unequal_by_order Greater = refl
