-- Selections of the first elements of a list.
use Rattle.std.proofs.Common.{◌≡◌, ◌∙◌, ℕ, zero, suc, ◌+◌, ◌-◌, ◌<◌, ◌≤◌, Bool, true, false, cond, not, List, [], ◌∷◌, ◌++◌, length, get_or, take, drop, refl, ap, sym, subst, arith, inl, inr, true≢false, Option, Some, option_map, slice_get, map, IsTrue}
use Rattle.std.specs.Cmp.{IsStrictWeakOrder}
use Rattle.std.specs.List.{All, count_by, filter}
use Rattle.std.specs.List.Sorted.{IsPermutation, IsSortedBy}
use Rattle.std.specs.Ordering.{is_ge, is_lt}
use Rattle.std.specs.declared.cmp.Ordering.{Ordering}
use Rattle.std.specs.declared.cmp.Ordering.TheVariants.{Less, Equal, Greater}
use Rattle.std.proofs.lemmas.Bool.{cases_lt, not-true}
use Rattle.std.proofs.lemmas.List.{append-nil, append_assoc, get_or-append_right, get_or-drop, get_or-take, length-take, length-take-le, length_push, length-drop, take-append-drop, take-take, take_at, take_more, take-map}
use Rattle.std.proofs.lemmas.List.Elements.{All-append, All-cons, All-from_get_or, All-head, All-nil, All-push, All-tail, All-weaker, filter_passes}
use Rattle.std.proofs.lemmas.List.Kept.{IsSortedBy-filter}
use Rattle.std.proofs.lemmas.List.Sorted.{All-permutation, IsPermutation-append_comm, IsPermutation-append_left, IsPermutation-append_right, IsPermutation-cons, IsPermutation-filter_both, IsPermutation-refl, IsPermutation-trans, length_permutation, sorted_far, sum_by-IsPermutation}
use Rattle.std.proofs.lemmas.List.Sums.{count_by-le-length, sum_by-append, sum_by-cons, sum_by_push}
use Rattle.compute_sort.specs.IndexedValues.{AppendsToFirst, AreFirst, BeginsWithFirst, IsPastFirst, KeepsFirst, KeepsSlots, OffersSlot, PushesPair, SelectsFirst, SortsFirst, SortsFirstSlots, pair_order_by, first_nulls}
use Rattle.compute_sort.specs.Sort.{AreSortedSlots}
use Rattle.compute_sort.specs.declared.indexed_values.IndexedValues.{IndexedValues}
use Rattle.compute_sort.specs.declared.options.SortOptions.{SortOptions}
use Rattle.compute_sort.proofs.OrderLemmas.{next-slot, no-slot, sorted-append, sorts-all}

-- ---- counts
abbrev one_if : {X : Type 0} → (X → Bool) → X → ℕ
one_if p x = cond (p x) 1 0

all-counted : {X : Type 0} (p : X → Bool) (xs : List X) → All (λ x. p x ≡ true) xs → count_by p xs ≡ length xs
all-counted p [] all = refl
all-counted p (x ∷ xs) all =
    let one : one_if p x ≡ 1 = ap (λ b. cond b 1 0) (All-head (λ y. p y ≡ true) x xs all) in
    omega (arith, sum_by-cons (one_if p) x xs, one, all-counted p xs (All-tail (λ y. p y ≡ true) x xs all))

none-counted : {X : Type 0} (p : X → Bool) (xs : List X) → All (λ x. p x ≡ false) xs → count_by p xs ≡ 0
none-counted p [] all = refl
none-counted p (x ∷ xs) all =
    let none : one_if p x ≡ 0 = ap (λ b. cond b 1 0) (All-head (λ y. p y ≡ false) x xs all) in
    omega (arith, sum_by-cons (one_if p) x xs, none, none-counted p xs (All-tail (λ y. p y ≡ false) x xs all))

-- ---- the first of lists one after the other
cut-right : {X : Type 0} (xs ys : List X) (k n : ℕ) → k ≤ n → take k (xs ++ take n ys) ≡ take k (xs ++ ys)
cut-right [] ys k n within = take-take k n ys within
cut-right (x ∷ xs) ys zero n within = refl
cut-right (x ∷ xs) ys (suc k) n within = ap (λ l. x ∷ l) (cut-right xs ys k n (omega (arith, within)))

cut-left : {X : Type 0} (xs ys : List X) (k n : ℕ) → k ≤ n → take k (take n xs ++ ys) ≡ take k (xs ++ ys)
cut-left xs ys zero n within = refl
cut-left xs ys (suc k) zero within = absurd (omega (arith, within))
cut-left [] ys (suc k) (suc n) within = refl
cut-left (x ∷ xs) ys (suc k) (suc n) within = ap (λ l. x ∷ l) (cut-left xs ys k n (omega (arith, within)))

pub cut-others : (nulls_first : Bool) (nulls others : List ℕ) (k n : ℕ) → k ≤ n
    → take k (first_nulls nulls_first nulls (take n others)) ≡ take k (first_nulls nulls_first nulls others)
cut-others true nulls others k n within = cut-right nulls others k n within
cut-others false nulls others k n within = cut-left others nulls k n within

-- ---- tests
pub ge-not-lt : (o : Ordering) (b : Bool) → b ≡ is_ge o → IsTrue b → is_lt o ≡ false
ge-not-lt Less b e t = cc
ge-not-lt Equal b e t = refl
ge-not-lt Greater b e t = refl

module _ {X : Type 0} (cmp : X → X → Ordering) (weak : IsStrictWeakOrder (λ x y. is_lt (cmp x y))) where
  abbrev lt : X → X → Bool
  lt x y = is_lt (cmp x y)

  abbrev Low : X → X → Type 0
  Low x y = lt x y ≡ false

  abbrev High : X → X → Type 0
  High x y = lt y x ≡ false

  apart : (x y z : X) → Low x y → High x z → lt z y ≡ false
  apart x y z low high = weak.chain z x y high low

  itself : (x : X) → lt x x ≡ false
  itself x = decided (lt x x) refl
    where
      decided : (t : Bool) → lt x x ≡ t → lt x x ≡ false
      decided true e = weak.one_way x x e
      decided false e = e

  -- ---- a list has a sorted permutation
  inserted : (x : X) (xs ys : List X) → IsPermutation xs ys → IsSortedBy lt ys
      → (zs : List X) × IsPermutation (x ∷ xs) zs × IsSortedBy lt zs
  inserted x xs ys moves up =
      let below : List X = filter (λ y. not (lt x y)) ys in
      let above : List X = filter (lt x) ys in
      let low : All (Low x) below =
      All-weaker (λ y. not (lt x y)
      ≡ true) (Low x) (λ y e. not-true (lt x y) e) below (filter_passes (λ y. not (lt x y)) ys) in
      let high : All (High x) above =
      All-weaker (λ y. lt x y ≡ true) (High x) (λ y e. weak.one_way x y e) above (filter_passes (lt x) ys) in
      let alone : IsSortedBy lt (x ∷ []) = λ k d from within. absurd (omega (arith, within)) in
      let rest : IsSortedBy lt (x ∷ above) =
      sorted-append lt (Low x) (High x) (apart x) (x ∷ []) above alone (IsSortedBy-filter lt weak (lt x) ys up)
      (All-cons (Low x) x [] (itself x) (All-nil (Low x))) high in (
        below ++ x ∷ above,
        IsPermutation-trans (x ∷ xs) (x ∷ (above ++ below)) (below ++ x ∷ above)
            (IsPermutation-cons x xs (above ++ below)
            (IsPermutation-trans xs ys (above ++ below) moves
            (IsPermutation-filter_both (lt x) (λ y. not (lt x y)) (λ y. refl) ys)))
            (IsPermutation-append_comm (x ∷ above) below),
        sorted-append lt (Low x) (High x) (apart x) below (x ∷ above)
            (IsSortedBy-filter lt weak (λ y. not (lt x y)) ys up) rest low
            (All-cons (High x) x above (itself x) high),
      )

  sortable : (xs : List X) → (ys : List X) × IsPermutation xs ys × IsSortedBy lt ys
  sortable [] = ([], IsPermutation-refl [], λ k d from within. absurd (omega (arith, within)))
  sortable (x ∷ xs) = let rest = sortable xs in inserted x xs rest.0 rest.1 rest.2

  -- ---- elements of which the last comes after none of as many others
  all-low : (limit : ℕ) (first rest : List X) (are : AreFirst cmp limit first rest) → All (Low are.last) first
  all-low limit first rest are =
      subst (All (Low are.last)) (sym are.is)
      (All-push (Low are.last) are.others are.last are.low (itself are.last))

  not-after : (limit : ℕ) (first more rest first' rest' : List X) (are : AreFirst cmp limit first rest)
      (are' : AreFirst cmp limit first' rest') → IsPermutation (first ++ more) (first' ++ rest')
      → lt are.last are'.last ≡ false
  not-after limit first more rest first' rest' are are' moves = decided (lt are.last are'.last) refl
    where
      low : X → Bool
      low x = not (lt are.last x)

      beyond : lt are.last are'.last ≡ true → (x : X) → High are'.last x → (t : Bool) → lt are.last x ≡ t → low x ≡ false
      beyond e x high true at = ap not at
      beyond e x high false at = absurd (true≢false (sym e ∙ weak.chain are.last x are'.last at high))

      decided : (t : Bool) → lt are.last are'.last ≡ t → lt are.last are'.last ≡ false
      decided false e = e
      decided true e =
          let whole : count_by low first ≡ length first =
          all-counted low first (All-weaker (Low are.last) (λ x. low x ≡ true) (λ x at. ap not at) first
          (all-low limit first rest are)) in
          let none : count_by low rest' ≡ 0 =
          none-counted low rest' (All-weaker (High are'.last) (λ x. low x ≡ false)
          (λ x high. beyond e x high (lt are.last x) refl) rest' are'.high) in
          let last : one_if low are'.last ≡ 0 = ap (λ b. cond (not b) 1 0) e in
          absurd (omega (
            arith,
            whole,
            none,
            last,
            are.count,
            are'.count,
            ap length are'.is,
            length_push are'.others are'.last,
            ap (count_by low) are'.is,
            sum_by_push (one_if low) are'.others are'.last,
            count_by-le-length low are'.others,
            sum_by-append (one_if low) first more,
            sum_by-append (one_if low) first' rest',
            sum_by-IsPermutation (one_if low) (first ++ more) (first' ++ rest') moves,
          ))

  -- ---- the steps of a selection
  again : (limit : ℕ) (all kept first : List X) → BeginsWithFirst cmp limit all kept
      → SelectsFirst cmp limit kept first → SelectsFirst cmp limit all first
  again limit all kept first begins selects =
      let moves : IsPermutation (begins.first ++ begins.more) (first ++ selects.rest) =
      subst (λ l. IsPermutation l (first ++ selects.rest)) begins.is selects.permutation in
      let order : lt begins.are.last selects.are.last ≡ false =
      not-after limit begins.first begins.more begins.rest first selects.rest begins.are selects.are moves in
      record {
        rest = selects.rest ++ begins.rest;
        permutation =
            IsPermutation-trans all (kept ++ begins.rest) (first ++ (selects.rest ++ begins.rest)) begins.permutation
            (subst (IsPermutation (kept ++ begins.rest)) (append_assoc first selects.rest begins.rest)
            (IsPermutation-append_left begins.rest kept (first ++ selects.rest) selects.permutation));
        are = record {
          others = selects.are.others;
          last = selects.are.last;
          is = selects.are.is;
          count = selects.are.count;
          low = selects.are.low;
          high =
              All-append (High selects.are.last) selects.rest begins.rest selects.are.high
              (All-weaker (High begins.are.last) (High selects.are.last)
              (λ x high. weak.chain x begins.are.last selects.are.last high order) begins.rest begins.are.high);
        };
      }

  begins-selected : (limit : ℕ) (all first : List X) → SelectsFirst cmp limit all first → KeepsFirst cmp limit all first
  begins-selected limit all first selects =
      record {
        few = λ less. absurd (omega (arith, less, selects.are.count));
        many = λ enough. record {
          first = first;
          more = [];
          rest = selects.rest;
          is = sym (append-nil first);
          permutation = selects.permutation;
          are = selects.are;
        };
      }

  begins-pushed : (limit : ℕ) (all kept : List X) (element : X) → BeginsWithFirst cmp limit all kept
      → BeginsWithFirst cmp limit (all ++ element ∷ []) (kept ++ element ∷ [])
  begins-pushed limit all kept element begins =
      let one : List X = element ∷ [] in
      record {
        first = begins.first;
        more = begins.more ++ one;
        rest = begins.rest;
        is = ap (λ l. l ++ one) begins.is ∙ append_assoc begins.first begins.more one;
        permutation =
            IsPermutation-trans (all ++ one) ((kept ++ begins.rest) ++ one) ((kept ++ one) ++ begins.rest)
            (IsPermutation-append_left one all (kept ++ begins.rest) begins.permutation)
            (subst (λ l. IsPermutation l ((kept ++ one) ++ begins.rest)) (sym (append_assoc kept begins.rest one))
            (subst (IsPermutation (kept ++ (begins.rest ++ one))) (sym (append_assoc kept one begins.rest))
            (IsPermutation-append_right kept (begins.rest ++ one) (one ++ begins.rest)
            (IsPermutation-append_comm begins.rest one))));
        are = begins.are;
      }

  pub keeps-none : (limit : ℕ) → 0 < limit → KeepsFirst cmp limit [] []
  keeps-none limit positive =
      record { few = λ less. refl; many = λ enough. absurd (omega (arith, positive, enough)) }

  -- an element is pushed, and there are not yet as many that they are selected
  pub keeps-pushed : (limit : ℕ) (all kept : List X) (element : X) → (length (kept ++ element ∷ []) ≡ limit → ⊥)
      → KeepsFirst cmp limit all kept → KeepsFirst cmp limit (all ++ element ∷ []) (kept ++ element ∷ [])
  keeps-pushed limit all kept element other keeps =
      record {
        few = λ less. ap (λ l. l ++ element ∷ []) (keeps.few (omega (arith, less, length_push kept element)));
        many = λ enough. elim (cases_lt (length kept) limit) [
          | inl less ↦ absurd (other (omega (arith, less, enough, length_push kept element)))
          | inr within ↦ begins-pushed limit all kept element (keeps.many within)
        ];
      }

  -- an element is pushed, and the first are selected
  keeps-selected : (limit : ℕ) (all kept : List X) (element : X) (first : List X)
      → SelectsFirst cmp limit (kept ++ element ∷ []) first → KeepsFirst cmp limit all kept
      → KeepsFirst cmp limit (all ++ element ∷ []) first
  keeps-selected limit all kept element first selects keeps = elim (cases_lt (length kept) limit) [
    | inl less ↦ begins-selected limit (all ++ element ∷ []) first
        (subst (λ l. SelectsFirst cmp limit (l ++ element ∷ []) first) (keeps.few less) selects)
    | inr within ↦ begins-selected limit (all ++ element ∷ []) first
        (again limit (all ++ element ∷ []) (kept ++ element ∷ []) first
        (begins-pushed limit all kept element (keeps.many within)) selects)
  ]

  last-at : (limit : ℕ) (first rest more : List X) (are : AreFirst cmp limit first rest) (d : X)
      → get_or (first ++ more) (limit - 1) d ≡ are.last
  last-at limit first rest more are d =
      let n : length are.others ≡ limit - 1 =
      omega (arith, are.count, ap length are.is, length_push are.others are.last) in
      let here : limit - 1 - (limit - 1) ≡ 0 = omega arith in
      ap (λ l. get_or (l ++ more) (limit - 1) d) are.is
      ∙ ap (λ l. get_or l (limit - 1) d) (append_assoc are.others (are.last ∷ []) more)
      ∙ get_or-append_right are.others (are.last ∷ more) (limit - 1) (limit - 1) d n (omega arith)
      ∙ ap (λ i. get_or (are.last ∷ more) i d) here

  -- an element is passed over
  pub keeps-past : (limit : ℕ) (all kept : List X) (element : X) → IsPastFirst cmp limit kept element
      → KeepsFirst cmp limit all kept → KeepsFirst cmp limit (all ++ element ∷ []) kept
  keeps-past limit all kept element past keeps =
      let one : List X = element ∷ [] in
      let begins : BeginsWithFirst cmp limit all kept = keeps.many past.enough in
      let last : past.last ≡ begins.are.last =
      past.at ∙ ap (λ l. get_or l (limit - 1) past.last) begins.is
      ∙ last-at limit begins.first begins.rest begins.more begins.are past.last in
      record {
        few = λ less. absurd (omega (arith, less, past.enough));
        many = λ enough. record {
          first = begins.first;
          more = begins.more;
          rest = begins.rest ++ one;
          is = begins.is;
          permutation =
              subst (IsPermutation (all ++ one)) (append_assoc kept begins.rest one)
              (IsPermutation-append_left one all (kept ++ begins.rest) begins.permutation);
          are = record {
            others = begins.are.others;
            last = begins.are.last;
            is = begins.are.is;
            count = begins.are.count;
            low = begins.are.low;
            high =
                All-push (High begins.are.last) begins.rest element begins.are.high
                (subst (λ x. lt element x ≡ false) last past.past);
          };
        };
      }

  -- ---- the sort of what was kept
  take-sorted : (n : ℕ) (xs : List X) → IsSortedBy lt xs → IsSortedBy lt (take n xs)
  take-sorted n xs up k d from within =
      let next : k + 1 < n = omega (arith, within, length-take n xs) in
      let inside : k + 1 < length xs = omega (arith, within, length-take n xs) in
      ap (λ x. lt x (get_or (take n xs) k d)) (get_or-take n xs (k + 1) d next)
      ∙ ap (lt (get_or xs (k + 1) d)) (get_or-take n xs k d (omega (arith, next)))
      ∙ up k d from inside

  selects-sorted : (n : ℕ) (all : List X) (x : X) (xs : List X) → n < length (x ∷ xs) → IsPermutation all (x ∷ xs)
      → IsSortedBy lt (x ∷ xs) → SelectsFirst cmp (n + 1) all (take (n + 1) (x ∷ xs))
  selects-sorted n all x xs within moves up =
      let sorted : List X = x ∷ xs in
      let last : X = get_or sorted n x in
      record {
        rest = drop (n + 1) sorted;
        permutation = subst (IsPermutation all) (sym (take-append-drop (n + 1) sorted)) moves;
        are = record {
          others = take n sorted;
          last = last;
          is = take_more sorted n x within;
          count = length-take-le (n + 1) sorted (omega (arith, within));
          low =
              All-from_get_or (Low last) (take n sorted) x (λ i inside.
              let below : i < n = omega (arith, inside, length-take n sorted) in
              ap (lt last) (get_or-take n sorted i x below)
              ∙ sorted_far lt weak sorted up i n x (omega (arith, below)) within);
          high =
              All-from_get_or (High last) (drop (n + 1) sorted) x (λ i inside.
              ap (λ y. lt y last) (get_or-drop (n + 1) sorted i x)
              ∙ sorted_far lt weak sorted up n (n + 1 + i) x (omega arith)
              (omega (arith, inside, length-drop (n + 1) sorted)));
        };
      }

  selects-first : (limit : ℕ) (all sorted : List X) → 0 < limit → limit ≤ length sorted → IsPermutation all sorted
      → IsSortedBy lt sorted → SelectsFirst cmp limit all (take limit sorted)
  selects-first limit all [] positive within moves up = absurd (omega (arith, positive, within))
  selects-first limit all (x ∷ xs) positive within moves up =
      let one : limit - 1 + 1 ≡ limit = omega (arith, positive) in
      subst (λ n. SelectsFirst cmp n all (take n (x ∷ xs))) one
      (selects-sorted (limit - 1) all x xs (omega (arith, positive, within)) moves up)

  -- an element is pushed, and the first are kept, sorted
  pub keeps-sorted : (limit : ℕ) (all kept : List X) (element : X) (first : List X) → 0 < limit
      → limit ≤ length (kept ++ element ∷ []) → SortsFirst cmp limit (kept ++ element ∷ []) first
      → KeepsFirst cmp limit all kept → KeepsFirst cmp limit (all ++ element ∷ []) first
  keeps-sorted limit all kept element first positive enough sorts keeps =
      let more : List X = kept ++ element ∷ [] in
      keeps-selected limit all kept element first
      (subst (SelectsFirst cmp limit more) (sym sorts.is)
      (selects-first limit more sorts.whole positive
      (omega (arith, enough, length_permutation more sorts.whole sorts.permutation)) sorts.permutation sorts.sorted))
      keeps

  sorts-selected : (limit : ℕ) (all first : List X) → SelectsFirst cmp limit all first → IsSortedBy lt first
      → SortsFirst cmp limit all first
  sorts-selected limit all first selects up =
      let after = sortable selects.rest in
      let last : X = selects.are.last in
      record {
        whole = first ++ after.0;
        permutation =
            IsPermutation-trans all (first ++ selects.rest) (first ++ after.0) selects.permutation
            (IsPermutation-append_right first selects.rest after.0 after.1);
        sorted =
            sorted-append lt (Low last) (High last) (apart last) first after.0 up after.2
            (all-low limit first selects.rest selects.are)
            (All-permutation (High last) selects.rest after.0 after.1 selects.are.high);
        is = sym (take_at first after.0 limit selects.are.count);
      }

  pub sorts-kept : (limit : ℕ) (all kept first : List X) → 0 < limit → KeepsFirst cmp limit all kept
      → SortsFirst cmp limit kept first → SortsFirst cmp limit all first
  sorts-kept limit all kept first positive keeps sorts = elim (cases_lt (length kept) limit) [
    | inl less ↦ subst (λ l. SortsFirst cmp limit l first) (keeps.few less) sorts
    | inr enough ↦
        let within : limit ≤ length sorts.whole =
        omega (arith, enough, length_permutation kept sorts.whole sorts.permutation) in
        let selects : SelectsFirst cmp limit all (take limit sorts.whole) =
        again limit all kept (take limit sorts.whole) (keeps.many enough)
        (selects-first limit kept sorts.whole positive within sorts.permutation sorts.sorted) in
        subst (SortsFirst cmp limit all) (sym sorts.is)
        (sorts-selected limit all (take limit sorts.whole) selects (take-sorted limit sorts.whole sorts.sorted))
  ]

-- ---- the loop over the slots
module _ {V X : Type 0} (seen : V → X) (order : V × ℕ → V × ℕ → Ordering)
    (weak : IsStrictWeakOrder (λ x y. is_lt (order x y))) (limit : ℕ) (slots : List (Option X)) where
  pub keeps-no-slot : 0 < limit → (kept : List (V × ℕ)) (nulls : List ℕ) → kept ≡ [] → nulls ≡ []
      → KeepsSlots seen order limit slots 0 kept nulls
  keeps-no-slot positive kept nulls no-kept no-nulls =
      subst (λ l. KeepsSlots seen order limit slots 0 l nulls) (sym no-kept)
      (subst (KeepsSlots seen order limit slots 0 []) (sym no-nulls)
      (record { all = []; split = no-slot seen slots; keeps = keeps-none order weak limit positive }))

  pub keeps-next : (n : ℕ) (old new : IndexedValues V) (slot : Option V) → slice_get slots n ≡ Some (option_map seen slot)
      → KeepsSlots seen order limit slots n old.values.items old.nulls.items → OffersSlot order limit slot n old new
      → KeepsSlots seen order limit slots (n + 1) new.values.items new.nulls.items
  keeps-next n old new slot found keeps offers =
      let next = offers keeps.all keeps.keeps in
      record {
        all = next.0;
        split =
            next-slot seen slots n keeps.all old.nulls.items next.0 new.nulls.items slot found keeps.split next.1;
        keeps = next.2;
      }

pub offers-past : {V : Type 0} (order : V × ℕ → V × ℕ → Ordering) → IsStrictWeakOrder (λ x y. is_lt (order x y))
    → (limit : ℕ) (slot : Option V) (value : V) (i : ℕ) (kept : IndexedValues V) → slot ≡ Some value
    → IsPastFirst order limit kept.values.items (value, i) → OffersSlot order limit slot i kept kept
offers-past order weak limit slot value i kept is past all keeps =
    let one : List (_ × ℕ) = (value, i) ∷ [] in
    let values : List (_ × ℕ) = kept.values.items in
    let nulls : List ℕ = kept.nulls.items in
    subst (λ s. (all' : List (_ × ℕ)) × PushesPair s i all nulls all' nulls × KeepsFirst order limit all' values) (sym is)
    (all ++ one, (refl, refl), keeps-past order weak limit all values (value, i) past keeps)

pub offers-kept : {V : Type 0} (order : V × ℕ → V × ℕ → Ordering) (limit : ℕ) (slot : Option V) (value : V) (i : ℕ)
    (nulls : List ℕ) (old new : List (V × ℕ)) → slot ≡ Some value → AppendsToFirst order limit (value, i) old new
    → (all : List (V × ℕ)) → KeepsFirst order limit all old
    → (all' : List (V × ℕ)) × PushesPair slot i all nulls all' nulls × KeepsFirst order limit all' new
offers-kept order limit slot value i nulls old new is appends all keeps =
    subst (λ s. (all' : List (_ × ℕ)) × PushesPair s i all nulls all' nulls × KeepsFirst order limit all' new) (sym is)
    (all ++ (value, i) ∷ [], (refl, refl), appends all keeps)

-- ---- the indexes of the first slots
pub selected : {V X : Type 0} (seen : V → X) (slots : List (Option X)) (options : SortOptions) (cmp : V → V → Ordering)
    (order : X → X → Ordering) → ((x y : V) → cmp x y ≡ order (seen x) (seen y)) → (limit room : ℕ) → limit ≤ room
    → (first : IndexedValues V) (indexes keys : List ℕ)
    → SortsFirstSlots seen (pair_order_by options.descending cmp) room slots first
    → indexes ≡ first_nulls options.nulls_first first.nulls.items (map (λ element. element.1) first.values.items)
    → keys ≡ take limit indexes → AreSortedSlots options order slots (Some limit) keys
selected {V} seen slots options cmp order agrees limit room within first indexes keys firsts joined cut =
    let number : V × ℕ → ℕ = λ element. element.1 in
    let whole : List (V × ℕ) = firsts.sorts.whole in
    let nulls : List ℕ = first.nulls.items in
    let numbers : map number first.values.items ≡ take room (map number whole) =
    ap (map number) firsts.sorts.is ∙ sym (take-map number room whole) in (
      first_nulls options.nulls_first nulls (map number whole),
      sorts-all seen slots options cmp order agrees (length slots) firsts.all whole nulls firsts.split
          firsts.sorts.permutation firsts.sorts.sorted,
      cut ∙ ap (take limit) joined ∙ ap (λ l. take limit (first_nulls options.nulls_first nulls l)) numbers
          ∙ cut-others options.nulls_first nulls (map number whole) limit room within,
    )
