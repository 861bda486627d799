-- Arrays that kernels make slot by slot, of the slots of other arrays or of slots that are computed; and their masks.
use Rattle.std.specs.Prelude.{⊤, ◌≡◌, ◌&&◌, ◌||◌, ℕ, Bool, true, List, [], ◌∷◌, length, map, min, Option, Some, None}
use Rattle.std.specs.Prelude.{is_some, slice_get, unwrap_or}
use Rattle.std.specs.Option.{option_and_then}
use Rattle.std.specs.List.{zip}
use Rattle.arrow_types.specs.Types.{LogicalType}
use Rattle.arrow_column.specs.Column.{Column, ColumnWith, slots_of}

-- what is made of the two elements at each index of two lists; a recursion, so that a call shows what it is made of
abbrev pub pairwise : {X Y Z : Type 0} → (X → Y → Z) → List X → List Y → List Z
pairwise make [] ys = []
pairwise make (x ∷ xs) [] = []
pairwise make (x ∷ xs) (y ∷ ys) = make x y ∷ pairwise make xs ys

-- an array of this type whose slots are each made of the two slots at its place; it holds a mask if either array does
pub record CombinesSlots {A B X Y Z : Type 0} (t : LogicalType) (combine : Option X → Option Y → Option Z)
    (lhs : ColumnWith A X) (rhs : ColumnWith B Y) (made : Column Z) : Type 0 where
  pub data_type : made.data_type ≡ t
  pub count : length made.rows ≡ min (length lhs.rows) (length rhs.rows)
  pub slots : slots_of made ≡ pairwise combine (slots_of lhs) (slots_of rhs)
  pub held : made.held ≡ (lhs.held || rhs.held)

-- an array of this type whose slots are each made of the slot at its place; it holds a mask if the array does
pub record MapsSlots {A X Z : Type 0} (t : LogicalType) (change : Option X → Option Z) (array : ColumnWith A X)
    (made : Column Z) : Type 0 where
  pub data_type : made.data_type ≡ t
  pub count : length made.rows ≡ length array.rows
  pub slots : slots_of made ≡ map change (slots_of array)
  pub held : made.held ≡ array.held

-- an array of this type whose slots are the results of a function on the slots of another, null where there is no
-- result; it holds a mask
pub record MapsSlotsIf {X Z : Type 0} (t : LogicalType) (make : X → Option Z) (array : Column X) (made : Column Z)
    : Type 0 where
  pub data_type : made.data_type ≡ t
  pub slots : slots_of made ≡ map (option_and_then make) (slots_of array)
  pub held : made.held ≡ true

-- what a function makes of the values of two slots; null where either slot is null
abbrev pub combine_valid : {X Y Z : Type 0} → (X → Y → Z) → Option X → Option Y → Option Z
combine_valid f (Some x) (Some y) = Some (f x y)
combine_valid f (Some x) None = None
combine_valid f None y = None

-- what is made of the two elements at an index of two lists, if there are both
abbrev pub made_at : {X Y Z : Type 0} → (X → Y → Z) → List X → List Y → ℕ → Option Z
made_at make xs ys i = combine_valid make (slice_get xs i) (slice_get ys i)

-- a fact of any function that makes a slot of one, and of any slots
abbrev pub ForMaps : (X Y : Type 0) → ((Option X → Option Y) → List (Option X) → Type 0) → Type 0
ForMaps X Y P = (f : Option X → Option Y) (xs : List (Option X)) → P f xs

-- a fact of any function that makes a slot of two, and of any slots of both kinds
abbrev pub ForPairs : (X Y Z : Type 0)
    → ((Option X → Option Y → Option Z) → List (Option X) → List (Option Y) → Type 0) → Type 0
ForPairs X Y Z P = (op : Option X → Option Y → Option Z) (xs : List (Option X)) (ys : List (Option Y)) → P op xs ys

-- a fact of any such function, any two functions that make its slots of one, and any slots
abbrev pub ForTwoMaps : (W X Y Z : Type 0) → ((Option X → Option Y → Option Z) → (Option W → Option X)
    → (Option W → Option Y) → List (Option W) → Type 0) → Type 0
ForTwoMaps W X Y Z P = (op : Option X → Option Y → Option Z) (f : Option W → Option X) (g : Option W → Option Y)
    (ws : List (Option W)) → P op f g ws

-- a fact of any function that makes a slot of what such a function makes, and of any slots of both kinds
abbrev pub ForMapPairs : (W X Y Z : Type 0) → ((Option Z → Option W) → (Option X → Option Y → Option Z)
    → List (Option X) → List (Option Y) → Type 0) → Type 0
ForMapPairs W X Y Z P = (h : Option Z → Option W) (op : Option X → Option Y → Option Z) (xs : List (Option X))
    (ys : List (Option Y)) → P h op xs ys

-- two masks are equally long if both are held
abbrev pub FitEachOther : Option (List Bool) → Option (List Bool) → Type 0
FitEachOther (Some lhs) (Some rhs) = length lhs ≡ length rhs
FitEachOther (Some lhs) None = ⊤
FitEachOther None rhs = ⊤

-- the mask of the slots that are valid in both of two arrays
abbrev pub both_masks : Option (List Bool) → Option (List Bool) → Option (List Bool)
both_masks (Some lhs) (Some rhs) = Some (map (λ pair. pair.0 && pair.1) (zip lhs rhs))
both_masks (Some lhs) None = Some lhs
both_masks None rhs = rhs

-- what slots store: the value of each, and a default where it is null
abbrev pub stored_of : {X : Type 0} → X → List (Option X) → List X
stored_of default slots = map (λ slot. unwrap_or slot default) slots

-- which slots are valid
abbrev pub valid_of : {X : Type 0} → List (Option X) → List Bool
valid_of slots = map is_some slots
