-- Lemmas about groups of slots that are added one after the other.
use Rattle.std.proofs.Common.{◌≡◌, ◌≢◌, ℕ, zero, suc, ◌+◌, ◌<◌, Bool, true, false, if◌then◌else◌, List, [], ◌∷◌, ◌++◌, length, map}
use Rattle.std.proofs.Common.{slice_get, get_or, Option, Some, None, add-one, refl, sym, ap, ap₂, ◌∙◌, ◌⊎◌, inl, inr, arith, subst, true≢false}
use Rattle.std.specs.Bool.{Decides}
use Rattle.std.specs.Hash as fed
use Rattle.std.specs.List.{filter, list_any, range_with_len}
use Rattle.std.specs.Prelude.{◌≤◌, count_by, nat_le, not, option_map}
use Rattle.std.proofs.Common.{◌*◌, ◌/◌, ◌==◌, append-nil, cond, take, zero-add}
use Rattle.std.proofs.Math.Nat.{pow-suc}
use Rattle.std.proofs.lemmas.List.{length-map, length_push, map-id, map_more, map_push}
use Rattle.std.proofs.lemmas.List.Elements.{All-from_get_or}
use Rattle.std.proofs.lemmas.List.FromFn.{filter_of_map_range_with_len_more}
use Rattle.std.proofs.lemmas.Map.Keys.{any_passes_from_place}
use Rattle.std.proofs.lemmas.Bool.{cases_order, leb-false, leb-true}
use Rattle.std.proofs.lemmas.Option.{get_or_from_slice_get, none-some, same_Some, slice_get-get_or, slice_get-map, slice_get_within}
use Rattle.arrow_types.proofs.CallerLemmas.{get-last, get-map, get-push, get-some}
use Rattle.arrow_memory.specs.Rows.{slot}
use Rattle.arrow_column.specs.Column.{ColumnWith, marks_of, slots_of, stored_values}
use Rattle.arrow_column.proofs.CallerLemmas.{all-valid, slots_valid}
use Rattle.compute_group.specs.Hashes.{hash_of, hash_slot}
use Rattle.compute_group.specs.Grouping.{AddsHint, AreGroups, ArePlaces, HintsNumber, IsGrouping, is_in_group, null_first}
use Rattle.compute_group.specs.Grouping.{null_number, number_of}

-- ---- the element at a place of a list with one element more

get_before : {X : Type 0} (xs : List X) (y : X) (i : ℕ) (x : X) → slice_get xs i ≡ Some x → slice_get (xs ++ y ∷ []) i ≡ Some x
get_before [] y i x at = cc
get_before (z ∷ xs) y zero x at = at
get_before (z ∷ xs) y (suc i) x at = get_before xs y i x at

-- ---- the groups of the first slots

pub record GroupsFirst {X : Type 0} (slots : List X) (n : ℕ) (groups : List X) (first numbers : List ℕ) : Type 0 where
  pub same : length first ≡ length groups
  pub count : length numbers ≡ n
  pub firsts : (g f : ℕ) → slice_get first g ≡ Some f → (f < n) × (slice_get slots f ≡ slice_get groups g)
  pub members : (i g : ℕ) → slice_get numbers i ≡ Some g → (x : X) × (slice_get groups g ≡ Some x) × (slice_get slots i ≡ Some x)
  pub news : (g f i : ℕ) → slice_get first g ≡ Some f → i < f → slice_get slots i ≢ slice_get slots f
  pub order : (g h e f : ℕ) → g < h → slice_get first g ≡ Some e → slice_get first h ≡ Some f → e < f

no_groups : {X : Type 0} (slots : List X) → GroupsFirst slots 0 [] [] []
no_groups slots = record {
  same = refl;
  count = refl;
  firsts = λ g f at. absurd (none-some f at);
  members = λ i g at. absurd (none-some g at);
  news = λ g f i at. absurd (none-some f at);
  order = λ g h e f below at. absurd (none-some e at);
}

module _ {X : Type 0} (slots : List X) (n : ℕ) (x : X) (is : slice_get slots n ≡ Some x) (groups : List X) (first numbers : List ℕ)
    (before : GroupsFirst slots n groups first numbers) where
  -- the members of the first n slots stay, and the next is one too
  members_more : (others : List X) (index : ℕ)
      → ((g : ℕ) (y : X) → slice_get groups g ≡ Some y → slice_get others g ≡ Some y)
      → slice_get others index ≡ Some x
      → (i g : ℕ) → slice_get (numbers ++ index ∷ []) i ≡ Some g
      → (y : X) × (slice_get others g ≡ Some y) × (slice_get slots i ≡ Some y)
  members_more others index stays at i g number = elim (get-push numbers index i g number) [
    | inl here ↦ old (before.members i g here)
    | inr last ↦ (
      x,
      ap (slice_get others) (sym last.1) ∙ at,
      ap (slice_get slots) (last.0 ∙ before.count) ∙ is,
    )
  ]
    where
      old : (y : X) × (slice_get groups g ≡ Some y) × (slice_get slots i ≡ Some y)
          → (y : X) × (slice_get others g ≡ Some y) × (slice_get slots i ≡ Some y)
      old (y, own, e) = (y, stays g y own, e)

  old_group : (index : ℕ) → slice_get groups index ≡ Some x → GroupsFirst slots (n + 1) groups first (numbers ++ index ∷ [])
  old_group index at = record {
    same = before.same;
    count = length_push numbers index ∙ ap (λ m. m + 1) before.count;
    firsts = λ g f here. let h = before.firsts g f here in (omega (arith, h.0), h.1);
    members = members_more groups index (λ g y own. own) at;
    news = before.news;
    order = before.order;
  }

  -- no slot before is equal to one that no group has
  apart : ((g : ℕ) → slice_get groups g ≢ Some x) → (i : ℕ) → i < n → slice_get slots i ≢ Some x
  apart none i low e =
      let index : ℕ = get_or numbers i 0 in
      let number : slice_get numbers i ≡ Some index = slice_get-get_or numbers i 0 (omega (arith, low, before.count)) in
      found index (before.members i index number)
    where
      found : (index : ℕ) → (y : X) × (slice_get groups index ≡ Some y) × (slice_get slots i ≡ Some y) → ⊥
      found index (y, own, same) = none index (own ∙ sym same ∙ e)

  new_group : ((g : ℕ) → slice_get groups g ≢ Some x) → (index : ℕ) → slice_get (groups ++ x ∷ []) index ≡ Some x
      → GroupsFirst slots (n + 1) (groups ++ x ∷ []) (first ++ n ∷ []) (numbers ++ index ∷ [])
  new_group none index at = record {
    same = length_push first n ∙ ap (λ m. m + 1) before.same ∙ sym (length_push groups x);
    count = length_push numbers index ∙ ap (λ m. m + 1) before.count;
    firsts = λ g f here. firsts g f (get-push first n g f here);
    members = members_more (groups ++ x ∷ []) index (λ g y own. get_before groups x g y own) at;
    news = λ g f i here low. news g f i (get-push first n g f here) low;
    order = λ g h e f below here there. order g h e f below (get-push first n g e here) (get-push first n h f there);
  }
    where
      firsts : (g f : ℕ) → (slice_get first g ≡ Some f) ⊎ ((g ≡ length first) × (n ≡ f))
          → (f < n + 1) × (slice_get slots f ≡ slice_get (groups ++ x ∷ []) g)
      firsts g f (inl here) =
          let h = before.firsts g f here in
          let low = slice_get_within first g f here in
          let own : slice_get groups g ≡ Some (get_or groups g x) = slice_get-get_or groups g x (omega (arith, low, before.same)) in
          (omega (arith, h.0), h.1 ∙ own ∙ sym (get_before groups x g (get_or groups g x) own))
      firsts g f (inr (place, e)) = (
        omega (arith, e),
        ap (slice_get slots) (sym e) ∙ is ∙ sym (get-last groups x)
            ∙ ap (slice_get (groups ++ x ∷ [])) (sym (place ∙ before.same)),
      )

      news : (g f i : ℕ) → (slice_get first g ≡ Some f) ⊎ ((g ≡ length first) × (n ≡ f)) → i < f
          → slice_get slots i ≢ slice_get slots f
      news g f i (inl here) low same = before.news g f i here low same
      news g f i (inr (place, e)) low same =
          apart none i (omega (arith, low, e)) (same ∙ ap (slice_get slots) (sym e) ∙ is)

      order : (g h e f : ℕ) → g < h → (slice_get first g ≡ Some e) ⊎ ((g ≡ length first) × (n ≡ e))
          → (slice_get first h ≡ Some f) ⊎ ((h ≡ length first) × (n ≡ f)) → e < f
      order g h e f below (inl here) (inl there) = before.order g h e f below here there
      order g h e f below (inl here) (inr (place, is_last)) =
          let early = (before.firsts g e here).0 in
          omega (arith, is_last, early)
      order g h e f below (inr (place, is_last)) (inl there) =
          let low = slice_get_within first h f there in
          absurd (omega (arith, low, place, below))
      order g h e f below (inr (place, is_last)) (inr (other, also)) = absurd (omega (arith, place, other, below))

-- the groups after a slot was added; `is_old` says whether a group has it
added_slot : {X : Type 0} (slots : List X) (n : ℕ) (x : X) → slice_get slots n ≡ Some x
    → (groups others : List X) (first firsts numbers : List ℕ) (index : ℕ) → GroupsFirst slots n groups first numbers
    → (is_old : Bool) → (is_old ≡ false → (g : ℕ) → slice_get groups g ≢ Some x)
    → others ≡ (if is_old then groups else groups ++ x ∷ [])
    → firsts ≡ (if is_old then first else first ++ n ∷ [])
    → slice_get others index ≡ Some x → GroupsFirst slots (n + 1) others firsts (numbers ++ index ∷ [])
added_slot slots n x is groups others first firsts numbers index before true none stay also at =
    subst (λ o. GroupsFirst slots (n + 1) o firsts (numbers ++ index ∷ [])) (sym stay)
    (subst (λ f. GroupsFirst slots (n + 1) groups f (numbers ++ index ∷ [])) (sym also)
    (old_group slots n x is groups first numbers before index (ap (λ o. slice_get o index) (sym stay) ∙ at)))
added_slot slots n x is groups others first firsts numbers index before false none more also at =
    subst (λ o. GroupsFirst slots (n + 1) o firsts (numbers ++ index ∷ [])) (sym more)
    (subst (λ f. GroupsFirst slots (n + 1) (groups ++ x ∷ []) f (numbers ++ index ∷ [])) (sym also)
    (new_group slots n x is groups first numbers before (none refl) index (ap (λ o. slice_get o index) (sym more) ∙ at)))

-- ---- the group of the null slots among those of keys

abbrev pub insert_null : {X : Type 0} → ℕ → List X → List (Option X)
insert_null zero xs = None ∷ map Some xs
insert_null (suc n) [] = None ∷ []
insert_null (suc n) (x ∷ xs) = Some x ∷ insert_null n xs

-- the slot of each group, by the number of that of the null slots
abbrev pub with_null : {X : Type 0} → Option ℕ → List X → List (Option X)
with_null None xs = map Some xs
with_null (Some n) xs = insert_null n xs

abbrev pub IsNullWithin : Option ℕ → ℕ → Type 0
IsNullWithin None count = Unit {0}
IsNullWithin (Some n) count = n ≤ count

insert_push : {X : Type 0} (n : ℕ) (xs : List X) (x : X) → n ≤ length xs
    → insert_null n (xs ++ x ∷ []) ≡ insert_null n xs ++ Some x ∷ []
insert_push zero xs x low = ap (λ ys. None ∷ ys) (map_push Some xs x)
insert_push (suc n) [] x low = absurd (omega (arith, low))
insert_push (suc n) (y ∷ xs) x low = ap (λ ys. Some y ∷ ys) (insert_push n xs x (omega (arith, low)))

insert_end : {X : Type 0} (xs : List X) → insert_null (length xs) xs ≡ map Some xs ++ None ∷ []
insert_end [] = refl
insert_end (x ∷ xs) = ap (λ ys. Some x ∷ ys) (insert_end xs)

insert_get : {X : Type 0} (n : ℕ) (xs : List X) → n ≤ length xs → slice_get (insert_null n xs) n ≡ Some None
insert_get zero xs low = refl
insert_get (suc n) [] low = absurd (omega (arith, low))
insert_get (suc n) (x ∷ xs) low = insert_get n xs (omega (arith, low))

insert_after : {X : Type 0} (n : ℕ) (xs : List X) (i : ℕ) (x : X) → slice_get xs i ≡ Some x → n ≤ i
    → slice_get (insert_null n xs) (suc i) ≡ Some (Some x)
insert_after zero xs i x at low = slice_get-map Some xs i ∙ ap (option_map Some) at
insert_after (suc n) [] i x at low = absurd (none-some x at)
insert_after (suc n) (y ∷ xs) zero x at low = absurd (omega (arith, low))
insert_after (suc n) (y ∷ xs) (suc i) x at low = insert_after n xs i x at (omega (arith, low))

insert_before : {X : Type 0} (n : ℕ) (xs : List X) (i : ℕ) (x : X) → slice_get xs i ≡ Some x → i < n
    → slice_get (insert_null n xs) i ≡ Some (Some x)
insert_before zero xs i x at low = absurd (omega (arith, low))
insert_before (suc n) [] i x at low = absurd (none-some x at)
insert_before (suc n) (y ∷ xs) zero x at low = ap (option_map Some) at
insert_before (suc n) (y ∷ xs) (suc i) x at low = insert_before n xs i x at (omega (arith, low))

map_from : {X : Type 0} (xs : List X) (g : ℕ) (x : X) → slice_get (map Some xs) g ≡ Some (Some x) → slice_get xs g ≡ Some x
map_from [] g x at = absurd (none-some (Some x) at)
map_from (y ∷ xs) zero x at = same_Some (Some y) (Some x) at
map_from (y ∷ xs) (suc g) x at = map_from xs g x at

no_null : {X : Type 0} (xs : List X) (g : ℕ) → slice_get (map Some xs) g ≢ Some None
no_null [] g at = none-some None at
no_null (y ∷ xs) zero at = none-some y (sym (same_Some (Some y) None at))
no_null (y ∷ xs) (suc g) at = no_null xs g at

insert_from : {X : Type 0} (n : ℕ) (xs : List X) (g : ℕ) (x : X) → slice_get (insert_null n xs) g ≡ Some (Some x)
    → (i : ℕ) × (slice_get xs i ≡ Some x)
insert_from zero xs zero x at = absurd (none-some x (same_Some None (Some x) at))
insert_from zero xs (suc g) x at = (g, map_from xs g x at)
insert_from (suc n) [] zero x at = absurd (none-some x (same_Some None (Some x) at))
insert_from (suc n) [] (suc g) x at = absurd (none-some (Some x) at)
insert_from (suc n) (y ∷ xs) zero x at = (0, same_Some (Some y) (Some x) at)
insert_from (suc n) (y ∷ xs) (suc g) x at =
    let found = insert_from n xs g x at in
    (suc found.0, found.1)

number_at : {X : Type 0} (null : Option ℕ) (xs : List X) (g : ℕ) (x : X) → slice_get xs g ≡ Some x
    → slice_get (with_null null xs) (number_of null g) ≡ Some (Some x)
number_at None xs g x at = slice_get-map Some xs g ∙ ap (option_map Some) at
number_at (Some n) xs g x at = by (nat_le n g) refl
  where
    by : (b : Bool) → nat_le n g ≡ b → slice_get (insert_null n xs) (if b then g + 1 else g) ≡ Some (Some x)
    by true e = ap (slice_get (insert_null n xs)) (add-one g) ∙ insert_after n xs g x at (leb-true n g e)
    by false e = insert_before n xs g x at (omega (arith, leb-false n g e))

number_from : {X : Type 0} (null : Option ℕ) (xs : List X) (g : ℕ) (x : X) → slice_get (with_null null xs) g ≡ Some (Some x)
    → (i : ℕ) × (slice_get xs i ≡ Some x)
number_from None xs g x at = (g, map_from xs g x at)
number_from (Some n) xs g x at = insert_from n xs g x at

push_within : {X : Type 0} (null : Option ℕ) (xs : List X) (x : X) → IsNullWithin null (length xs)
    → with_null null (xs ++ x ∷ []) ≡ with_null null xs ++ Some x ∷ []
push_within None xs x low = map_push Some xs x
push_within (Some n) xs x low = insert_push n xs x low

-- the groups of the first slots, by a key of each valid one
pub record IsGroupedSoFar {K X : Type 0} (seen : K → X) (slots : List (Option X)) (n : ℕ) (keys : List K) (null : Option ℕ)
    (first numbers : List ℕ) : Type 0 where
  pub groups : GroupsFirst slots n (with_null null (map seen keys)) first numbers
  pub within : IsNullWithin null (length keys)

-- each hint is at the group of its key
abbrev pub HintsAre : {K X : Type 0} → (K → X) → List K → Option ℕ → List (K × ℕ) → Type 0
HintsAre {K} {X} seen keys null hints = (i : ℕ) (k : K) (n : ℕ) → slice_get hints i ≡ Some (k, n)
    → slice_get (with_null null (map seen keys)) n ≡ Some (Some (seen k))

pub no_hints : {K X : Type 0} (seen : K → X) (keys : List K) (null : Option ℕ) (hints : List (K × ℕ)) → hints ≡ []
    → HintsAre seen keys null hints
no_hints seen keys null hints none i k n at = absurd (none-some (k, n) (ap (λ hs. slice_get hs i) (sym none) ∙ at))

-- ---- keys: their test decides whether contracts see a difference

module _ {K X : Type 0} (eq : K → K → Bool) (seen : K → X) (decides : (x y : K) → Decides (eq x y) (seen x ≡ seen y)) where
  -- no group has the slot of a key that equals no group's key
  absent : (keys : List K) (key : K) → list_any (eq key) keys ≡ false → (null : Option ℕ) (g : ℕ)
      → slice_get (with_null null (map seen keys)) g ≢ Some (Some (seen key))
  absent keys key none null g at =
      let found = number_from null (map seen keys) g (seen key) at in
      let i = found.0 in
      let low = slice_get_within (map seen keys) i (seen key) found.1 in
      let own : slice_get keys i ≡ Some (get_or keys i key) = slice_get-get_or keys i key (omega (arith, low, length-map keys seen)) in
      let same : seen key ≡ seen (get_or keys i key) =
      same_Some (seen key) (seen (get_or keys i key)) (sym found.1 ∙ get-map seen keys i (get_or keys i key) own) in
      true≢false (sym (any_passes_from_place (eq key) keys i (get_or keys i key) own ((decides key (get_or keys i key)).1 same)) ∙ none)

  more_keys : (null : Option ℕ) (keys : List K) (x : K) → IsNullWithin null (length keys) → (b : Bool)
      → with_null null (map seen (if b then keys else keys ++ x ∷ []))
      ≡ (if b then with_null null (map seen keys) else with_null null (map seen keys) ++ Some (seen x) ∷ [])
  more_keys null keys x low true = refl
  more_keys null keys x low false =
      ap (with_null null) (map_push seen keys x)
      ∙ push_within null (map seen keys) (seen x) (subst (IsNullWithin null) (sym (length-map keys seen)) low)

  still_within : (null : Option ℕ) (keys : List K) (x : K) → IsNullWithin null (length keys) → (b : Bool)
      → IsNullWithin null (length (if b then keys else keys ++ x ∷ []))
  still_within null keys x low true = low
  still_within None keys x low false = tt
  still_within (Some n) keys x low false = omega (arith, low, length_push keys x)

  -- no slot
  pub begun : (slots : List (Option X)) (keys : List K) (first numbers : List ℕ) → keys ≡ [] → first ≡ [] → numbers ≡ []
      → IsGroupedSoFar seen slots 0 keys None first numbers
  begun slots keys first numbers a b c =
      subst (λ ks. IsGroupedSoFar seen slots 0 ks None first numbers) (sym a)
      (subst (λ f. IsGroupedSoFar seen slots 0 [] None f numbers) (sym b)
      (subst (IsGroupedSoFar seen slots 0 [] None []) (sym c) (record { groups = no_groups slots; within = tt })))

  -- after `add_key`
  pub added_key : (slots : List (Option X)) (n : ℕ) (x : K) → slice_get slots n ≡ Some (Some (seen x))
      → (keys others : List K) (null : Option ℕ) (first firsts numbers : List ℕ) (number : ℕ)
      → IsGroupedSoFar seen slots n keys null first numbers
      → others ≡ (if list_any (eq x) keys then keys else keys ++ x ∷ [])
      → firsts ≡ (if list_any (eq x) keys then first else first ++ n ∷ [])
      → (g : ℕ) × (k : K) × (number ≡ number_of null g) × (slice_get others g ≡ Some k) × (eq x k ≡ true)
      → IsGroupedSoFar seen slots (n + 1) others null firsts (numbers ++ number ∷ [])
  added_key slots n x is keys others null first firsts numbers number before is_others is_firsts (g, k, is_number, at, equal) =
      subst (λ m. IsGroupedSoFar seen slots (n + 1) others null firsts (numbers ++ m ∷ [])) (sym is_number) (record {
        groups = added_slot slots n (Some (seen x)) is (with_null null (map seen keys)) (with_null null (map seen others)) first firsts
            numbers (number_of null g) before.groups (list_any (eq x) keys) (λ none. absent keys x none null)
            (ap (λ ks. with_null null (map seen ks)) is_others ∙ more_keys null keys x before.within (list_any (eq x) keys)) is_firsts
            (number_at null (map seen others) g (seen k) (get-map seen others g k at)
            ∙ ap (λ (y : X). Some (Some y)) (sym ((decides x k).0 equal)));
        within = subst (λ ks. IsNullWithin null (length ks)) (sym is_others)
            (still_within null keys x before.within (list_any (eq x) keys));
      })

  with_new_null : (slots : List (Option X)) (n : ℕ) → slice_get slots n ≡ Some None → (keys : List K) (null : Option ℕ)
      (first numbers : List ℕ) → IsGroupedSoFar seen slots n keys null first numbers
      → IsGroupedSoFar seen slots (n + 1) keys (Some (null_number null first)) (null_first null first n)
      (numbers ++ null_number null first ∷ [])
  with_new_null slots n is keys (Some m) first numbers before = record {
    groups = added_slot slots n None is (insert_null m (map seen keys)) (insert_null m (map seen keys)) first first numbers m
        before.groups true (λ e. absurd (true≢false e)) refl refl
        (insert_get m (map seen keys) (omega (arith, before.within, length-map keys seen)));
    within = before.within;
  }
  with_new_null slots n is keys None first numbers before =
      let xs = map seen keys in
      let long : length first ≡ length xs = before.groups.same ∙ length-map xs Some in
      let ends : insert_null (length first) xs ≡ map Some xs ++ None ∷ [] = ap (λ m. insert_null m xs) long ∙ insert_end xs in
      record {
        groups = added_slot slots n None is (map Some xs) (insert_null (length first) xs) first (first ++ n ∷ []) numbers
            (length first) before.groups false (λ e. no_null xs) ends refl
            (insert_get (length first) xs (omega (arith, long)));
        within = omega (arith, long, length-map keys seen);
      }

  -- after `add_null`
  pub added_null : (slots : List (Option X)) (n : ℕ) → slice_get slots n ≡ Some None
      → (keys : List K) (null : Option ℕ) (first firsts numbers : List ℕ) (number : ℕ)
      → IsGroupedSoFar seen slots n keys null first numbers → firsts ≡ null_first null first n → number ≡ null_number null first
      → IsGroupedSoFar seen slots (n + 1) keys (Some number) firsts (numbers ++ number ∷ [])
  added_null slots n is keys null first firsts numbers number before is_firsts is_number =
      subst (λ f. IsGroupedSoFar seen slots (n + 1) keys (Some number) f (numbers ++ number ∷ [])) (sym is_firsts)
      (subst (λ m. IsGroupedSoFar seen slots (n + 1) keys (Some m) (null_first null first n) (numbers ++ m ∷ [])) (sym is_number)
      (with_new_null slots n is keys null first numbers before))

  -- ---- hints

  -- a slot whose group is known: by a hint at that of its key, or as that of the null slots
  pub known_slot : (slots : List (Option X)) (n : ℕ) (x : K) (is_valid : Bool)
      → slice_get slots n ≡ Some (slot (seen x, is_valid)) → (keys : List K) (null : Option ℕ) (first numbers : List ℕ)
      → (hints : List (K × ℕ)) (hinted : ℕ) (is_hinted : Bool) (number : ℕ)
      → IsGroupedSoFar seen slots n keys null first numbers
      → HintsAre seen keys null hints → (is_hinted ≡ true → HintsNumber eq hints x hinted)
      → Some number ≡ (if is_valid then (if is_hinted then Some hinted else None) else null)
      → IsGroupedSoFar seen slots (n + 1) keys null first (numbers ++ number ∷ [])
  known_slot slots n x true is keys null first numbers hints hinted false number before are found e =
      absurd (none-some number (sym e))
  known_slot slots n x true is keys null first numbers hints hinted true number before are found e = by (found refl)
    where
      by : HintsNumber eq hints x hinted → IsGroupedSoFar seen slots (n + 1) keys null first (numbers ++ number ∷ [])
      by (i, k, at, equal) = record {
        groups = old_group slots n (Some (seen x)) is (with_null null (map seen keys)) first numbers before.groups number
            (ap (slice_get (with_null null (map seen keys))) (same_Some number hinted e) ∙ are i k hinted at
            ∙ ap (λ (y : X). Some (Some y)) (sym ((decides x k).0 equal)));
        within = before.within;
      }
  known_slot slots n x false is keys None first numbers hints hinted is_hinted number before are found e =
      absurd (none-some number (sym e))
  known_slot slots n x false is keys (Some m) first numbers hints hinted is_hinted number before are found e =
      subst (λ g. IsGroupedSoFar seen slots (n + 1) keys (Some m) first (numbers ++ g ∷ [])) (sym (same_Some number m e))
      (with_new_null slots n is keys (Some m) first numbers before)

  -- the groups before a key was added are groups after it
  groups_stay : (null : Option ℕ) (keys : List K) (x : K) → IsNullWithin null (length keys) → (b : Bool) (n : ℕ)
      (y : Option X) → slice_get (with_null null (map seen keys)) n ≡ Some y
      → slice_get (with_null null (map seen (if b then keys else keys ++ x ∷ []))) n ≡ Some y
  groups_stay null keys x low true n y at = at
  groups_stay null keys x low false n y at =
      ap (λ groups. slice_get groups n) (more_keys null keys x low false)
      ∙ get_before (with_null null (map seen keys)) (Some (seen x)) n y at

  -- after `add_key`
  pub hints_more : (x : K) (keys others : List K) (null : Option ℕ) (number : ℕ) (hints more : List (K × ℕ))
      → IsNullWithin null (length keys) → HintsAre seen keys null hints
      → others ≡ (if list_any (eq x) keys then keys else keys ++ x ∷ [])
      → (g : ℕ) × (k : K) × (number ≡ number_of null g) × (slice_get others g ≡ Some k) × (eq x k ≡ true)
      → AddsHint hints (x, number) more → HintsAre seen others null more
  hints_more x keys others null number hints more low are is_others (g, k, is_number, at, equal) adds i j n hint =
      by (adds i (j, n) hint)
    where
      groups : List (Option X)
      groups = with_null null (map seen others)

      own : slice_get groups number ≡ Some (Some (seen x))
      own = ap (slice_get groups) is_number ∙ number_at null (map seen others) g (seen k) (get-map seen others g k at)
          ∙ ap (λ (y : X). Some (Some y)) (sym ((decides x k).0 equal))

      by : ((m : ℕ) × (slice_get hints m ≡ Some (j, n))) ⊎ (◌≡◌ {A = K × ℕ} (j, n) (x, number))
          → slice_get groups n ≡ Some (Some (seen j))
      by (inl (m, old)) =
          subst (λ ks. slice_get (with_null null (map seen ks)) n ≡ Some (Some (seen j))) (sym is_others)
          (groups_stay null keys x low (list_any (eq x) keys) n (Some (seen j)) (are m j n old))
      by (inr same) =
          ap (λ (h : K × ℕ). slice_get groups h.1) same ∙ own ∙ ap (λ (h : K × ℕ). Some (Some (seen h.0))) (sym same)

  -- after `add_null`
  pub hints_null : (slots : List (Option X)) (n : ℕ) (keys : List K) (null : Option ℕ) (first numbers : List ℕ)
      (hints : List (K × ℕ)) (number : ℕ) → IsGroupedSoFar seen slots n keys null first numbers
      → HintsAre seen keys null hints → number ≡ null_number null first → HintsAre seen keys (Some number) hints
  hints_null slots n keys (Some m) first numbers hints number before are is_number =
      subst (λ g. HintsAre seen keys (Some g) hints) (sym is_number) are
  hints_null slots n keys None first numbers hints number before are is_number = λ i k g hint.
      let xs = map seen keys in
      let long : number ≡ length xs = is_number ∙ before.groups.same ∙ length-map xs Some in
      ap (λ groups. slice_get groups g) (ap (λ m. insert_null m xs) long ∙ insert_end xs)
      ∙ get_before (map Some xs) None g (Some (seen k)) (are i k g hint)

-- ---- places for hints

-- four times as many places, if there are few enough for that
pub places_more : (count places : ℕ) → ArePlaces count places → places ≤ 4096 → places ≤ count / 4 → ArePlaces count (places * 4)
places_more count places (inl none) small few = inl (omega (arith, none))
places_more count places (inr ((k, is), most, within)) small few = inr (
  (suc (suc k), omega (arith, is, pow-suc 2 (suc k), pow-suc 2 k)),
  omega (arith, small),
  omega (arith, few),
)

-- all slots
pub all_groups : {X : Type 0} (slots : List X) (n : ℕ) (groups : List X) (first numbers : List ℕ)
    → n ≡ length slots → GroupsFirst slots n groups first numbers → IsGrouping slots first numbers
all_groups {X} slots n groups first numbers all found = record {
  count = found.count ∙ all;
  members = λ i g number. member i g (found.members i g number);
  within = λ g f at. omega (arith, all, (found.firsts g f at).0);
  news = found.news;
  order = found.order;
}
  where
    member : (i g : ℕ) → (x : X) × (slice_get groups g ≡ Some x) × (slice_get slots i ≡ Some x)
        → (f : ℕ) × (slice_get first g ≡ Some f) × (slice_get slots f ≡ slice_get slots i)
    member i g (x, own, e) =
        let low = slice_get_within groups g x own in
        let at : slice_get first g ≡ Some (get_or first g 0) = slice_get-get_or first g 0 (omega (arith, low, found.same)) in
        (get_or first g 0, at, (found.firsts g (get_or first g 0) at).1 ∙ own ∙ sym e)

-- ---- slots of values, of which none is null

-- a list has the groups of its valid slots
pub grouped_values : {X : Type 0} (xs : List X) (first numbers : List ℕ) → IsGrouping (map Some xs) first numbers
    → IsGrouping xs first numbers
grouped_values {X} xs first numbers found = record {
  count = found.count ∙ length-map xs Some;
  members = λ i g at. member i g (found.members i g at);
  within = λ g f at. omega (arith, found.within g f at, length-map xs Some);
  news = λ g f i at low e. found.news g f i at low (slice_get-map Some xs i ∙ ap (option_map Some) e ∙ sym (slice_get-map Some xs f));
  order = found.order;
}
  where
    inner : (o p : Option X) → option_map Some o ≡ option_map Some p → o ≡ p
    inner None None e = refl
    inner None (Some y) e = absurd (none-some (Some y) e)
    inner (Some x) None e = absurd (none-some (Some x) (sym e))
    inner (Some x) (Some y) e = same_Some (Some x) (Some y) e

    member : (i g : ℕ) → (f : ℕ) × (slice_get first g ≡ Some f) × (slice_get (map Some xs) f ≡ slice_get (map Some xs) i)
        → (f : ℕ) × (slice_get first g ≡ Some f) × (slice_get xs f ≡ slice_get xs i)
    member i g (f, at, e) = (
      f,
      at,
      inner (slice_get xs f) (slice_get xs i) (sym (slice_get-map Some xs f) ∙ e ∙ slice_get-map Some xs i),
    )

pub slots_no_null : {A S : Type 0} (column : ColumnWith A S) → 0 ≡ count_by not (marks_of column)
    → slots_of column ≡ map Some (stored_values column)
slots_no_null column none = slots_valid column.rows (all-valid column.rows (sym none))

-- ---- hashes

-- the hash of one more slot
pub hashes_more : {K X : Type 0} (fed_key : K → List (List ℕ)) (input : X → List (List ℕ)) (seen : K → X)
    → ((x : K) → fed_key x ≡ input (seen x)) → (slots : List (Option X)) (i : ℕ) (slot : Option K) (hash : ℕ) (hashes all : List ℕ)
    → hashes ≡ map (hash_slot input) (take i slots) → slice_get slots i ≡ Some (option_map seen slot)
    → hash ≡ hash_of (fed.option fed_key slot) → all ≡ hashes ++ hash ∷ [] → all ≡ map (hash_slot input) (take (i + 1) slots)
hashes_more {K} {X} fed_key input seen same slots i slot hash hashes all before at is pushed =
    let key : Option X = option_map seen slot in
    pushed ∙ ap₂ (λ xs x. xs ++ x ∷ []) before (is ∙ ap hash_of (fed_slot slot)
    ∙ ap (hash_slot input) (sym (get_or_from_slice_get slots i key key at)))
    ∙ sym (map_more (hash_slot input) slots i key (slice_get_within slots i key at))
  where
    fed_slot : (slot : Option K) → fed.option fed_key slot ≡ fed.option input (option_map seen slot)
    fed_slot None = refl
    fed_slot (Some x) = ap (λ writes. fed.option (λ (y : X). writes) (Some (seen x))) (same x)

-- what contracts see of the slot of a key
pub seen_slot : {K X : Type 0} (seen : K → X) (key : K) (is_valid : Bool)
    → slot (seen key, is_valid) ≡ option_map seen (slot (key, is_valid))
seen_slot seen key true = refl
seen_slot seen key false = refl

-- ---- groups of any slots

module _ {Z : Type 0} (zs : List Z) (first numbers : List ℕ) (groups : IsGrouping zs first numbers) where
  -- two slots are equal if their numbers are
  pub same-slots : (i j g : ℕ) → slice_get numbers i ≡ Some g → slice_get numbers j ≡ Some g
      → slice_get zs i ≡ slice_get zs j
  same-slots i j g at also =
      let left = groups.members i g at in
      let right = groups.members j g also in
      let one : left.0 ≡ right.0 = same_Some left.0 right.0 (sym left.1 ∙ right.1) in
      sym left.2 ∙ ap (slice_get zs) one ∙ right.2

  -- and their numbers are if the slots are: no two groups have equal slots
  pub same-numbers : (i j : ℕ) (z : Z) → slice_get zs i ≡ Some z → slice_get zs j ≡ Some z
      → slice_get numbers i ≡ slice_get numbers j
  same-numbers i j z at also =
      let g = get-some numbers i (omega (arith, groups.count, slice_get_within zs i z at)) in
      let h = get-some numbers j (omega (arith, groups.count, slice_get_within zs j z also)) in
      let left = groups.members i g.0 g.1 in
      let right = groups.members j h.0 h.1 in
      let same : slice_get zs left.0 ≡ slice_get zs right.0 = left.2 ∙ at ∙ sym also ∙ sym right.2 in
      g.1 ∙ ap Some (by g.0 h.0 left.0 right.0 left.1 right.1 same) ∙ sym h.1
    where
      by : (g h e f : ℕ) → slice_get first g ≡ Some e → slice_get first h ≡ Some f → slice_get zs e ≡ slice_get zs f → g ≡ h
      by g h e f a b same = elim (cases_order e f) [
        | inl equal ↦ one g h e a (b ∙ ap Some (sym equal)) (cases_order g h)
        | inr (inl less) ↦ absurd (groups.news h f e b less same)
        | inr (inr more) ↦ absurd (groups.news g e f a more (sym same))
      ]
        where
          one : (g h e : ℕ) → slice_get first g ≡ Some e → slice_get first h ≡ Some e → (g ≡ h) ⊎ ((g < h) ⊎ (h < g)) → g ≡ h
          one g h e a b (inl equal) = equal
          one g h e a b (inr (inl less)) = absurd (omega (arith, groups.order g h e e less a b))
          one g h e a b (inr (inr more)) = absurd (omega (arith, groups.order h g e e more b a))

  -- groups are those of their own numbers
  own-groups : IsGrouping numbers first numbers
  own-groups = record {
    count = refl;
    members = λ i g at. member i g at (groups.members i g at);
    within = λ g f at. omega (arith, groups.within g f at, groups.count);
    news = λ g f i at low e. new g f i at low e;
    order = groups.order;
  }
    where
      member : (i g : ℕ) → slice_get numbers i ≡ Some g
          → (f : ℕ) × (slice_get first g ≡ Some f) × (slice_get zs f ≡ slice_get zs i)
          → (f : ℕ) × (slice_get first g ≡ Some f) × (slice_get numbers f ≡ slice_get numbers i)
      member i g number (f, at, e) =
          let z = get-some zs i (omega (arith, groups.count, slice_get_within numbers i g number)) in
          (f, at, same-numbers f i z.0 (e ∙ z.1) z.1)

      new : (g f i : ℕ) → slice_get first g ≡ Some f → i < f → slice_get numbers i ≢ slice_get numbers f
      new g f i at low e =
          let h = get-some numbers f (omega (arith, groups.count, groups.within g f at)) in
          groups.news g f i at low (same-slots i f h.0 (e ∙ h.1) h.1)

  pub are-groups : AreGroups first numbers
  are-groups = record {
    groups = own-groups;
    within = All-from_get_or (λ number. number < length first) numbers 0 (λ i low.
        let member = groups.members i (get_or numbers i 0) (slice_get-get_or numbers i 0 low) in
        slice_get_within first (get_or numbers i 0) member.0 member.1);
    firsts = All-from_get_or (λ place. place < length numbers) first 0 (λ g low.
        let within = groups.within g (get_or first g 0) (slice_get-get_or first g 0 low) in
        omega (arith, within, groups.count));
  }

-- ---- the slots of a group

-- one slot more
pub rows-more : (numbers : List ℕ) (group n : ℕ) (rows : List ℕ)
    → rows ≡ filter (is_in_group numbers group) (range_with_len 0 n)
    → (if get_or numbers n 0 == group then rows ++ n ∷ [] else rows)
    ≡ filter (is_in_group numbers group) (range_with_len 0 (n + 1))
rows-more numbers group n rows before =
    pushed (is_in_group numbers group n) rows
    ∙ ap (λ xs. xs ++ cond (is_in_group numbers group n) (n ∷ []) []) before ∙ sym next
  where
    pushed : (b : Bool) (rows : List ℕ) → (if b then rows ++ n ∷ [] else rows) ≡ rows ++ cond b (n ∷ []) []
    pushed true rows = refl
    pushed false rows = sym (append-nil rows)

    next : filter (is_in_group numbers group) (range_with_len 0 (n + 1))
        ≡ filter (is_in_group numbers group) (range_with_len 0 n) ++ cond (is_in_group numbers group n) (n ∷ []) []
    next =
        ap (filter (is_in_group numbers group)) (sym (map-id (range_with_len 0 (n + 1))))
        ∙ filter_of_map_range_with_len_more (is_in_group numbers group) (λ x. x) 0 n n (zero-add n)
        ∙ ap (λ xs. filter (is_in_group numbers group) xs ++ cond (is_in_group numbers group n) (n ∷ []) [])
        (map-id (range_with_len 0 n))
