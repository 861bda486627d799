-- Sums, least and greatest values of the valid slots of arrays.
use Rattle.std.specs.Prelude.{◌≡◌, ℕ, ℤ, pos, ◌+ℤ◌, IsTrue, List, [], ◌∷◌, ◌++◌, All, Contains, fold, take, Option, Some, None}
use Rattle.std.specs.List.{filter_map}
use Rattle.std.specs.Cmp.Lexicographic.{slice_cmp}
use Rattle.std.specs.Ordering.{is_le, nat_cmp, ord_max, ord_min}
use Rattle.std.specs.declared.cmp.Ordering.{Ordering}
use Rattle.arrow_column.specs.Column.{ColumnWith, slots_of}
use Rattle.compute_aggregate.specs.declared.aggregate.extreme.Extreme.{Extreme}
use Rattle.compute_aggregate.specs.declared.aggregate.extreme.Extreme.TheVariants.{Greatest, Least}

-- the values of the valid slots, in order
abbrev pub valid_values : {A S : Type 0} → ColumnWith A S → List S
valid_values column = filter_map (λ slot. slot) (slots_of column)

-- the slots of an array are those of two others in a row
abbrev pub JoinsSlots : {A S : Type 0} → ColumnWith A S → ColumnWith A S → ColumnWith A S → Type 0
JoinsSlots column first second = slots_of column ≡ slots_of first ++ slots_of second

-- the sum of integers, however great
abbrev pub sum_all : List ℤ → ℤ
sum_all xs = fold (λ sum x. sum +ℤ x) (pos 0) xs

-- their sum, or none of no integer
abbrev pub sum_of : List ℤ → Option ℤ
sum_of [] = None
sum_of (x ∷ xs) = Some (sum_all (x ∷ xs))

module _ {X : Type 0} (cmp : X → X → Ordering) where
  -- one of the values, and no value is less
  pub record IsLeast (xs : List X) (least : X) : Type 0 where
    pub member : Contains xs least
    pub bound : All (λ x. IsTrue (is_le (cmp least x))) xs

  -- one of the values, and no value is greater
  pub record IsGreatest (xs : List X) (greatest : X) : Type 0 where
    pub member : Contains xs greatest
    pub bound : All (λ x. IsTrue (is_le (cmp x greatest))) xs

  -- the lesser of two slots, or the valid one if the other is null
  abbrev pub lesser_slot : Option X → Option X → Option X
  lesser_slot None slot = slot
  lesser_slot (Some x) None = Some x
  lesser_slot (Some x) (Some y) = Some (ord_min cmp x y)

  -- the greater of two slots, or the valid one if the other is null
  abbrev pub greater_slot : Option X → Option X → Option X
  greater_slot None slot = slot
  greater_slot (Some x) None = Some x
  greater_slot (Some x) (Some y) = Some (ord_max cmp x y)

-- the lesser of two slots, or the greater
abbrev pub extreme_slot : {X : Type 0} → Extreme → (X → X → Ordering) → Option X → Option X → Option X
extreme_slot Least cmp = lesser_slot cmp
extreme_slot Greatest cmp = greater_slot cmp

-- the extreme of the first n slots, and null if none is valid
abbrev pub extreme_before : {A X : Type 0} → Extreme → (X → X → Ordering) → ColumnWith A X → ℕ → Option X
extreme_before extreme cmp column n = fold (extreme_slot extreme cmp) None (take n (slots_of column))

-- the extreme of all slots
abbrev pub extreme_of_all : {A X : Type 0} → Extreme → (X → X → Ordering) → ColumnWith A X → Option X
extreme_of_all extreme cmp column = fold (extreme_slot extreme cmp) None (slots_of column)

-- the order of texts, that of their bytes
abbrev pub text_cmp : List ℕ → List ℕ → Ordering
text_cmp = slice_cmp nat_cmp
