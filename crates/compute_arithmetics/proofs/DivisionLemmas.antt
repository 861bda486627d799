-- A division by values that are not zero needs no answer for a zero.
use Rattle.std.proofs.Common.{◌≡◌, ◌≢◌, ◌≤◌, ◌<◌, ℕ, ℤ, pos, false, List, [], ◌∷◌, length, map, take, get_or}
use Rattle.std.proofs.Common.{Option, Some, None, option_map, if◌then◌else◌, refl, sym, ap, ap₂, ◌∙◌, arith, slice_get}
use Rattle.std.specs.Prelude.{IfSome}
use Rattle.std.specs.List.{All, list_any, zip}
use Rattle.std.specs.Ordering.{int_eq}
use Rattle.std.proofs.lemmas.Bool.{false_from_ne_true, or_parts}
use Rattle.std.proofs.lemmas.Bool.Decides.{Decides-int_eq, not_from_Decides}
use Rattle.std.proofs.lemmas.List.{length-map, take_all}
use Rattle.std.proofs.lemmas.List.Elements.{All-cons, All-head, All-nil, All-tail}
use Rattle.std.proofs.lemmas.Option.{get_or_from_slice_get, slice_get_within}
use Rattle.std.proofs.lemmas.Slice.Zip.{get_or-zip, length-zip}
use Rattle.arrow_column.specs.Column.{Column, slots_of}
use Rattle.arrow_memory.specs.Rows.{slot}
use Rattle.compute_base.specs.Slots.{combine_valid, pairwise}
use Rattle.compute_arithmetics.specs.Arithmetic.{CombinesValues, MapsValues, NoSlotIsZero, NoZeroDivisor, divides_by_zero}
use Rattle.compute_arithmetics.specs.Arithmetic.{slot_is_zero, unless_zero}

-- two slots of which the second doesn't hold zero if both are valid
abbrev IsDivided : {X : Type 0} → (X → ℤ) → Option X × Option X → Type 0
IsDivided number pair = IfSome pair.0 (λ x. IfSome pair.1 (λ y. number y ≢ pos 0))

module _ {X : Type 0} (number : X → ℤ) (instead : X) (make : X → X → X) where
  divided : (x y : X) → number y ≢ pos 0 → unless_zero number instead make x y ≡ make x y
  divided x y h = ap (λ b. if b then instead else make x y)
      (false_from_ne_true (int_eq (number y) (pos 0)) (λ e. h ((Decides-int_eq (number y) (pos 0)).0 e)))

  divided_slot : (s t : Option X) → IfSome s (λ x. IfSome t (λ y. number y ≢ pos 0))
      → combine_valid (unless_zero number instead make) s t ≡ combine_valid make s t
  divided_slot (Some x) (Some y) h = ap Some (divided x y h)
  divided_slot (Some x) None h = refl
  divided_slot None t h = refl

  divided_slots : (ss ts : List (Option X)) → NoZeroDivisor number ss ts
      → pairwise (combine_valid (unless_zero number instead make)) ss ts ≡ pairwise (combine_valid make) ss ts
  divided_slots [] ts h = refl
  divided_slots (s ∷ ss) [] h = refl
  divided_slots (s ∷ ss) (t ∷ ts) h =
      ap₂ (λ front rest. front ∷ rest) (divided_slot s t (All-head (IsDivided number) (s, t) (zip ss ts) h))
      (divided_slots ss ts (All-tail (IsDivided number) (s, t) (zip ss ts) h))

  pub divides_slots : (lhs rhs made : Column X) → NoZeroDivisor number (slots_of lhs) (slots_of rhs)
      → CombinesValues (unless_zero number instead make) lhs rhs made → CombinesValues make lhs rhs made
  divides_slots lhs rhs made h combines = record {
    data_type = combines.data_type;
    count = combines.count;
    slots = combines.slots ∙ divided_slots (slots_of lhs) (slots_of rhs) h;
    held = combines.held;
  }

  divided_by : (y : X) → number y ≢ pos 0 → (ss : List (Option X))
      → map (option_map (λ x. unless_zero number instead make x y)) ss ≡ map (option_map (λ x. make x y)) ss
  divided_by y h [] = refl
  divided_by y h (Some x ∷ ss) = ap₂ (λ front rest. Some front ∷ rest) (divided x y h) (divided_by y h ss)
  divided_by y h (None ∷ ss) = ap (λ rest. None ∷ rest) (divided_by y h ss)

  pub divides_by : (array : Column X) (y : X) (made : Column X) → number y ≢ pos 0
      → MapsValues (λ x. unless_zero number instead make x y) array made → MapsValues (λ x. make x y) array made
  divides_by array y made h maps = record {
    data_type = maps.data_type;
    count = maps.count;
    slots = maps.slots ∙ divided_by y h (slots_of array);
    held = maps.held;
  }

-- ---- whether a slot holds zero

module _ {X : Type 0} (number : X → ℤ) where
  not_zero : (slots : List (Option X)) → list_any (slot_is_zero number) slots ≡ false → NoSlotIsZero number slots
  not_zero [] e = All-nil (λ slot. IfSome slot (λ y. number y ≢ pos 0))
  not_zero (None ∷ slots) e = All-cons (λ slot. IfSome slot (λ y. number y ≢ pos 0)) None slots tt (not_zero slots e)
  not_zero (Some y ∷ slots) e =
      let parts = or_parts (int_eq (number y) (pos 0)) (list_any (slot_is_zero number) slots) e in
      All-cons (λ slot. IfSome slot (λ y. number y ≢ pos 0)) (Some y) slots
      (not_from_Decides (int_eq (number y) (pos 0)) (Decides-int_eq (number y) (pos 0)) parts.0) (not_zero slots parts.1)

  pub no_zero_left : (slots : List (Option X)) (n : ℕ) → length slots ≤ n
      → list_any (slot_is_zero number) (take n slots) ≡ false → NoSlotIsZero number slots
  no_zero_left slots n all e = not_zero slots (ap (list_any (slot_is_zero number)) (sym (take_all n slots all)) ∙ e)

-- ---- whether one of two slots divides by zero

-- the pair of two slots at one place
module _ {X : Type 0} (ss ts : List (Option X)) (i : ℕ) (s t : Option X) (first : slice_get ss i ≡ Some s)
    (second : slice_get ts i ≡ Some t) where
  pub pair_within : i < length (zip ss ts)
  pair_within = omega (arith, length-zip ss ts, slice_get_within ss i s first, slice_get_within ts i t second)

  pub pair_got : get_or (zip ss ts) i (s, t) ≡ (s, t)
  pair_got = get_or-zip ss ts i (s, t) (slice_get_within ss i s first) (slice_get_within ts i t second)
      ∙ ap₂ (λ x y. (x, y)) (get_or_from_slice_get ss i s s first) (get_or_from_slice_get ts i t t second)

module _ {X : Type 0} (number : X → ℤ) where
  not_by_zero : (pairs : List (Option X × Option X))
      → list_any (λ pair. divides_by_zero number pair.0 pair.1) pairs ≡ false → All (IsDivided number) pairs
  not_by_zero [] e = All-nil (IsDivided number)
  not_by_zero ((None, t) ∷ pairs) e = All-cons (IsDivided number) (None, t) pairs tt (not_by_zero pairs e)
  not_by_zero ((Some x, None) ∷ pairs) e = All-cons (IsDivided number) (Some x, None) pairs tt (not_by_zero pairs e)
  not_by_zero ((Some x, Some y) ∷ pairs) e =
      let parts = or_parts (int_eq (number y) (pos 0)) (list_any (λ pair. divides_by_zero number pair.0 pair.1) pairs) e in
      All-cons (IsDivided number) (Some x, Some y) pairs
      (not_from_Decides (int_eq (number y) (pos 0)) (Decides-int_eq (number y) (pos 0)) parts.0) (not_by_zero pairs parts.1)

  -- at the end of a loop over all places
  module _ (lhs rhs : Column X) (n : ℕ) (all : length lhs.rows ≤ n)
      (none : list_any (λ pair. divides_by_zero number pair.0 pair.1) (take n (zip (slots_of lhs) (slots_of rhs))) ≡ false) where
    pub no_division : list_any (λ pair. divides_by_zero number pair.0 pair.1) (zip (slots_of lhs) (slots_of rhs)) ≡ false
    no_division = ap (list_any (λ pair. divides_by_zero number pair.0 pair.1)) (sym (take_all n (zip (slots_of lhs) (slots_of rhs))
        (omega (arith, all, length-zip (slots_of lhs) (slots_of rhs), length-map lhs.rows slot)))) ∙ none

    pub no_division_left : NoZeroDivisor number (slots_of lhs) (slots_of rhs)
    no_division_left = not_by_zero (zip (slots_of lhs) (slots_of rhs)) no_division

  slot_divided : (s t : Option X) → IfSome t (λ y. number y ≢ pos 0) → IsDivided number (s, t)
  slot_divided None t h = tt
  slot_divided (Some x) t h = h

  -- slots of which none holds zero divide any others
  pub divides_any : (ts : List (Option X)) → NoSlotIsZero number ts → (ss : List (Option X)) → NoZeroDivisor number ss ts
  divides_any ts h [] = All-nil (IsDivided number)
  divides_any [] h (s ∷ ss) = All-nil (IsDivided number)
  divides_any (t ∷ ts) h (s ∷ ss) = All-cons (IsDivided number) (s, t) (zip ss ts)
      (slot_divided s t (All-head (λ slot. IfSome slot (λ y. number y ≢ pos 0)) t ts h))
      (divides_any ts (All-tail (λ slot. IfSome slot (λ y. number y ≢ pos 0)) t ts h) ss)
