-- Pairs of a value and its index that are sorted, and the indexes that they give.
use Rattle.std.proofs.Common.{◌≡◌, reverse, ◌&&◌, ◌∙◌, ℕ, ◌+◌, ◌-◌, ◌<◌, ◌≤◌, ◌⊎◌, Bool, true, false, cond, if◌then◌else◌, not, List, [], ◌∷◌, ◌++◌, map, length, get_or, Option, Some, None, is_some, option_map, slice_get, refl, ap, ap₂, sym, subst, arith, zero-add, inl, inr, true≢false, length-append}
use Rattle.std.specs.List.{All, filter, range_with_len}
use Rattle.std.specs.List.Sorted.{IsPermutation, IsSorted, IsSortedBy, IsStableBy, IsStrictlyIncreasing}
use Rattle.std.specs.Cmp.{IsTotalOrder, IsStrictWeakOrder, back_total, nat_cmp_total, on_total, then_total, tied_back}
use Rattle.std.specs.Ordering.{is_lt, nat_cmp, on, ordering_reverse, ordering_then}
use Rattle.std.specs.declared.cmp.Ordering.{Ordering}
use Rattle.std.specs.declared.cmp.Ordering.TheVariants.{Less, Equal, Greater}
use Rattle.std.proofs.lemmas.Bool.{cases_lt}
use Rattle.std.proofs.lemmas.List.{append-nil, get_or-reverse, length-reverse, get_or-append_right, get_or-map, get_or_append_left, length-map, map-id, map_push}
use Rattle.std.proofs.lemmas.List.Elements.{All-get_or, All-map, All-nil, All-push, All-weaker, filter_passes}
use Rattle.std.proofs.lemmas.List.FromFn.{filter_of_map_range_with_len_more, get_or-range_with_len}
use Rattle.std.proofs.lemmas.List.FromFn.{length-range_with_len}
use Rattle.std.proofs.lemmas.List.Kept.{IsSortedBy-filter}
use Rattle.std.proofs.lemmas.List.Sorted.{All-permutation, IsPermutation-refl, IsPermutation-reverse, IsPermutation-append_comm, IsPermutation-append_left, IsPermutation-filter_both, IsPermutation-map, IsPermutation-trans, ranks_by, ties_stay_sorted}
use Rattle.std.proofs.lemmas.Option.{get_or_from_slice_get}
use Rattle.compute_sort.specs.declared.options.SortOptions.{SortOptions}
use Rattle.compute_sort.specs.IndexedValues.{AreInOrder, AreInReverse, PushesPair, SortsPairs, SplitsList, SplitsSlots, pair_order, pair_order_by, first_nulls, is_null_at, is_valid_at}
use Rattle.arrow_types.proofs.CallerLemmas.{range-more}
use Rattle.arrow_types.specs.Types.{LogicalType, plain, uint64}
use Rattle.arrow_column.specs.Column.{Column, column_of_parts, stored_values}
use Rattle.compute_sort.specs.Sort.{AreSorted, HoldsSorted, SortsIndexes, index_order, slot_at, slot_order}

-- elements in some order that are sorted by another, and stay so where this calls them equal
module _ {E : Type 0} (cmp : E → E → Ordering) (total : IsTotalOrder cmp) where
  abbrev by_value : E → E → Bool
  by_value x y = is_lt (cmp x y)

  pub values-order : IsStrictWeakOrder by_value
  values-order = ranks_by total (λ element. element)

  pub stable : (rest : E → E → Ordering) → IsTotalOrder rest → (xs ys : List E) → IsSorted rest xs
      → IsSortedBy by_value ys → IsStableBy by_value xs ys → IsSorted (λ x y. ordering_then (cmp x y) (rest x y)) ys
  stable rest rest_total xs ys rising sorted kept k d low high =
      by-order (cmp (get_or ys (k + 1) d) (get_or ys k d)) refl
    where
      by-order : (o : Ordering) → cmp (get_or ys (k + 1) d) (get_or ys k d) ≡ o
          → is_lt (ordering_then (cmp (get_or ys (k + 1) d) (get_or ys k d))
          (rest (get_or ys (k + 1) d) (get_or ys k d))) ≡ false
      by-order Less e = absurd (true≢false (sym (ap is_lt e) ∙ sorted k d low high))
      by-order Greater e = ap (λ o. is_lt (ordering_then o (rest (get_or ys (k + 1) d) (get_or ys k d)))) e
      by-order Equal e =
          ap (λ o. is_lt (ordering_then o (rest (get_or ys (k + 1) d) (get_or ys k d)))) e
          ∙ ties_stay_sorted (λ x y. is_lt (rest x y)) by_value (ranks_by rest_total (λ element. element)) values-order
          xs ys rising kept k d high
          (ap₂ (λ p q. not (is_lt p) && not (is_lt q)) (tied_back total (get_or ys (k + 1) d) (get_or ys k d) e) e)

-- the same of pairs of a value and its index
module _ {V : Type 0} (cmp : V → V → Ordering) (total : IsTotalOrder cmp) where
  abbrev by_first : V × ℕ → V × ℕ → Ordering
  by_first x y = cmp x.0 y.0

  first-total : IsTotalOrder by_first
  first-total = on_total (λ (pair : V × ℕ). pair.0) total

  pub pairs-order : IsStrictWeakOrder (λ x y. is_lt (by_first x y))
  pairs-order = values-order by_first first-total

  pub stable-pairs : (xs ys : List (V × ℕ)) → IsSortedBy (λ x y. is_lt (by_first x y)) ys
      → IsStableBy (λ x y. is_lt (by_first x y)) xs ys → SortsPairs cmp xs ys
  stable-pairs xs ys sorted kept rest rest_total rising =
      stable by_first first-total (λ x y. rest x.1 y.1) (on_total (λ (pair : V × ℕ). pair.1) rest_total) xs ys rising
      sorted kept

-- the order of pairs is one
pairs-weak : {V : Type 0} (cmp : V → V → Ordering) → IsTotalOrder cmp → (descending : Bool)
    → IsStrictWeakOrder (λ x y. is_lt (pair_order_by descending cmp x y))
pairs-weak cmp total true =
    ranks_by (then_total (on_total (λ (pair : _ × ℕ). pair.0) (back_total total)) (on_total (λ pair. pair.1) nat_cmp_total)) (λ pair. pair)
pairs-weak cmp total false =
    ranks_by (then_total (on_total (λ (pair : _ × ℕ). pair.0) total) (on_total (λ pair. pair.1) nat_cmp_total)) (λ pair. pair)

-- and so is one by what is seen of the values
pub seen-weak : {V X : Type 0} (seen : V → X) (order : X → X → Ordering) → IsTotalOrder order → (descending : Bool)
    → IsStrictWeakOrder (λ x y. is_lt (pair_order_by descending (on seen order) x y))
seen-weak seen order total descending = pairs-weak (on seen order) (on_total seen total) descending

-- ---- the indexes below a number that a test chooses
filter-next : (p : ℕ → Bool) (n : ℕ)
    → filter p (range_with_len 0 (n + 1)) ≡ filter p (range_with_len 0 n) ++ cond (p n) (n ∷ []) []
filter-next p n =
    ap (filter p) (sym (map-id (range_with_len 0 (n + 1))))
    ∙ filter_of_map_range_with_len_more p (λ x. x) 0 n n (zero-add n)
    ∙ ap (λ xs. filter p xs ++ cond (p n) (n ∷ []) []) (map-id (range_with_len 0 n))

pub filter-more : (p : ℕ → Bool) (n : ℕ) → p n ≡ true
    → filter p (range_with_len 0 (n + 1)) ≡ filter p (range_with_len 0 n) ++ n ∷ []
filter-more p n e = filter-next p n ∙ ap (λ b. filter p (range_with_len 0 n) ++ cond b (n ∷ []) []) e

pub filter-same : (p : ℕ → Bool) (n : ℕ) → p n ≡ false
    → filter p (range_with_len 0 (n + 1)) ≡ filter p (range_with_len 0 n)
filter-same p n e =
    filter-next p n ∙ ap (λ b. filter p (range_with_len 0 n) ++ cond b (n ∷ []) []) e
    ∙ append-nil (filter p (range_with_len 0 n))

-- ---- the loop over the slots
filter-push : {X : Type 0} (p : X → Bool) (xs : List X) (x : X)
    → filter p (xs ++ x ∷ []) ≡ filter p xs ++ cond (p x) (x ∷ []) []
filter-push p [] x = by-test (p x)
  where
    by-test : (b : Bool) → cond b (x ∷ []) [] ≡ [] ++ cond b (x ∷ []) []
    by-test true = refl
    by-test false = refl
filter-push p (y ∷ ys) x = by-test (p y) (filter-push p ys x)
  where
    by-test : (b : Bool) → filter p (ys ++ x ∷ []) ≡ filter p ys ++ cond (p x) (x ∷ []) []
        → cond b (y ∷ filter p (ys ++ x ∷ [])) (filter p (ys ++ x ∷ []))
        ≡ cond b (y ∷ filter p ys) (filter p ys) ++ cond (p x) (x ∷ []) []
    by-test true e = ap (λ l. y ∷ l) e
    by-test false e = e

module _ {V X : Type 0} (seen : V → X) (slots : List (Option X)) where
  pub no-slot : SplitsList seen slots [] [] []
  no-slot = record { shown = All-nil (λ pair. slot_at slots pair.1 ≡ Some (seen pair.0)); valid = refl; null = refl }

  chosen : (p : ℕ → Bool) (indexes : List ℕ) (i : ℕ) → p i ≡ true
      → filter p (indexes ++ i ∷ []) ≡ filter p indexes ++ i ∷ []
  chosen p indexes i e = filter-push p indexes i ∙ ap (λ b. filter p indexes ++ cond b (i ∷ []) []) e

  passed : (p : ℕ → Bool) (indexes : List ℕ) (i : ℕ) → p i ≡ false → filter p (indexes ++ i ∷ []) ≡ filter p indexes
  passed p indexes i e =
      filter-push p indexes i ∙ ap (λ b. filter p indexes ++ cond b (i ∷ []) []) e ∙ append-nil (filter p indexes)

  pub next-index : (indexes : List ℕ) (i : ℕ) (values : List (V × ℕ)) (nulls : List ℕ) (values' : List (V × ℕ))
      (nulls' : List ℕ) (slot : Option V) → option_map seen slot ≡ slot_at slots i
      → SplitsList seen slots indexes values nulls → PushesPair slot i values nulls values' nulls'
      → SplitsList seen slots (indexes ++ i ∷ []) values' nulls'
  next-index indexes i values nulls values' nulls' None found split pushed = record {
    shown = subst (All (λ pair. slot_at slots pair.1 ≡ Some (seen pair.0))) (sym pushed.0) split.shown;
    valid =
        ap (map (λ pair. pair.1)) pushed.0 ∙ split.valid
        ∙ sym (passed (is_valid_at slots) indexes i (ap is_some (sym found)));
    null =
        pushed.1 ∙ ap (λ xs. xs ++ i ∷ []) split.null
        ∙ sym (chosen (is_null_at slots) indexes i (ap (λ o. not (is_some o)) (sym found)));
  }
  next-index indexes i values nulls values' nulls' (Some value) found split pushed = record {
    shown =
        subst (All (λ pair. slot_at slots pair.1 ≡ Some (seen pair.0))) (sym pushed.0)
        (All-push (λ pair. slot_at slots pair.1 ≡ Some (seen pair.0)) values (value, i) split.shown (sym found));
    valid =
        ap (map (λ pair. pair.1)) pushed.0 ∙ map_push (λ pair. pair.1) values (value, i)
        ∙ ap (λ xs. xs ++ i ∷ []) split.valid
        ∙ sym (chosen (is_valid_at slots) indexes i (ap is_some (sym found)));
    null =
        pushed.1 ∙ split.null ∙ sym (passed (is_null_at slots) indexes i (ap (λ o. not (is_some o)) (sym found)));
  }

  pub next-slot : (n : ℕ) (values : List (V × ℕ)) (nulls : List ℕ) (values' : List (V × ℕ)) (nulls' : List ℕ)
      (slot : Option V) → slice_get slots n ≡ Some (option_map seen slot) → SplitsSlots seen slots n values nulls
      → PushesPair slot n values nulls values' nulls' → SplitsSlots seen slots (n + 1) values' nulls'
  next-slot n values nulls values' nulls' slot found split pushed =
      subst (λ indexes. SplitsList seen slots indexes values' nulls') (sym (range-more n))
      (next-index (range_with_len 0 n) n values nulls values' nulls' slot
      (sym (get_or_from_slice_get slots n (option_map seen slot) None found)) split pushed)

-- ---- sorted lists one after the other
module _ {X : Type 0} (lt : X → X → Bool) (P Q : X → Type 0) (apart : (x y : X) → P x → Q y → lt y x ≡ false) where
  at-seam : (xs ys : List X) → IsSortedBy lt xs → IsSortedBy lt ys → All P xs → All Q ys → (k : ℕ) (d : X)
      → k + 1 < length (xs ++ ys) → (k + 1 < length xs) ⊎ (length xs ≤ k + 1)
      → lt (get_or (xs ++ ys) (k + 1) d) (get_or (xs ++ ys) k d) ≡ false
  at-seam xs ys low high all each k d within (inl below) =
      ap₂ lt (get_or_append_left xs ys d (k + 1) below) (get_or_append_left xs ys d k (omega (arith, below)))
      ∙ low k d (omega arith) below
  at-seam xs ys low high all each k d within (inr above) = beyond (cases_lt k (length xs))
    where
      here : k + 1 - length xs < length ys
      here = omega (arith, length-append xs ys, within, above)

      next : get_or (xs ++ ys) (k + 1) d ≡ get_or ys (k + 1 - length xs) d
      next = get_or-append_right xs ys (length xs) (k + 1) d refl above

      beyond : (k < length xs) ⊎ (length xs ≤ k) → lt (get_or (xs ++ ys) (k + 1) d) (get_or (xs ++ ys) k d) ≡ false
      beyond (inl last) =
          ap₂ lt next (get_or_append_left xs ys d k last)
          ∙ apart (get_or xs k d) (get_or ys (k + 1 - length xs) d) (All-get_or P xs k d last all)
          (All-get_or Q ys (k + 1 - length xs) d here each)
      beyond (inr past) =
          let j : k + 1 - length xs ≡ k - length xs + 1 = omega (arith, past) in
          ap₂ lt (next ∙ ap (λ i. get_or ys i d) j) (get_or-append_right xs ys (length xs) k d refl past)
          ∙ high (k - length xs) d (omega arith) (omega (arith, here, j))

  pub sorted-append : (xs ys : List X) → IsSortedBy lt xs → IsSortedBy lt ys → All P xs → All Q ys
      → IsSortedBy lt (xs ++ ys)
  sorted-append xs ys low high all each k d from within =
      at-seam xs ys low high all each k d within (cases_lt (k + 1) (length xs))

-- ---- nulls
none-of : {X : Type 0} (slot : Option X) → not (is_some slot) ≡ true → slot ≡ None
none-of None e = refl
none-of (Some x) e = absurd (true≢false (sym e))

pub not-less : (a b : ℕ) → b ≤ a → is_lt (nat_cmp a b) ≡ false
not-less a b low = grind (arith, low)

pub increasing : (n : ℕ) → IsStrictlyIncreasing (range_with_len 0 n)
increasing n k within =
    let here : k + 1 < n = omega (arith, length-range_with_len 0 n, within) in
    omega (
      arith,
      get_or-range_with_len 0 n k 0 (omega (arith, here)),
      get_or-range_with_len 0 n (k + 1) 0 here,
    )

-- the numbers below another are in their order
pub rising-range : (n : ℕ) → IsSortedBy (λ i j. is_lt (nat_cmp i j)) (range_with_len 0 n)
rising-range n k d low high =
    let here : k + 1 < n = omega (arith, length-range_with_len 0 n, high) in
    not-less (get_or (range_with_len 0 n) (k + 1) d) (get_or (range_with_len 0 n) k d)
    (omega (arith, get_or-range_with_len 0 n k d (omega (arith, here)), get_or-range_with_len 0 n (k + 1) d here))

-- the indexes of rows that are in order, and of rows of which each is less than the one before it
module _ (order : ℕ → ℕ → Ordering) (n : ℕ) where
  abbrev range : List ℕ
  range = range_with_len 0 n

  pub in-order : AreInOrder order n → SortsIndexes (λ i j. ordering_then (order i j) (nat_cmp i j)) n range
  in-order up = record {
    permutation = IsPermutation-refl range;
    sorted = λ k d low high.
        let here : k + 1 < n = omega (arith, length-range_with_len 0 n, high) in
        ap₂ (λ i j. is_lt (ordering_then (order i j) (nat_cmp i j)))
        (get_or-range_with_len 0 n (k + 1) d here ∙ zero-add (k + 1))
        (get_or-range_with_len 0 n k d (omega (arith, here)) ∙ zero-add k)
        ∙ by-order (k + 1) k (omega arith) (order (k + 1) k) refl (up k here);
  }
    where
      by-order : (i j : ℕ) → j ≤ i → (o : Ordering) → order i j ≡ o → is_lt (order i j) ≡ false
          → is_lt (ordering_then (order i j) (nat_cmp i j)) ≡ false
      by-order i j le Less e not_less = absurd (true≢false (sym (ap is_lt e) ∙ not_less))
      by-order i j le Greater e not_less = ap (λ o. is_lt (ordering_then o (nat_cmp i j))) e
      by-order i j le Equal e not_less = ap (λ o. is_lt (ordering_then o (nat_cmp i j))) e ∙ not-less i j le

  pub in-reverse : IsTotalOrder order → AreInReverse order n
      → SortsIndexes (λ i j. ordering_then (order i j) (nat_cmp i j)) n (reverse range)
  in-reverse total down = record {
    permutation = IsPermutation-reverse range;
    sorted = λ k d low high.
        let many : length (reverse range) ≡ n = length-reverse range ∙ length-range_with_len 0 n in
        let here : k + 1 < n = omega (arith, many, high) in
        let last : length range ≡ n = length-range_with_len 0 n in
        ap₂ (λ i j. is_lt (ordering_then (order i j) (nat_cmp i j)))
        (get_or-reverse range (k + 1) d (omega (arith, last, here))
        ∙ get_or-range_with_len 0 n (length range - 1 - (k + 1)) d (omega (arith, last, here))
        ∙ zero-add (length range - 1 - (k + 1)))
        (get_or-reverse range k d (omega (arith, last, here))
        ∙ get_or-range_with_len 0 n (length range - 1 - k) d (omega (arith, last, here))
        ∙ zero-add (length range - 1 - k))
        ∙ by-order (length range - 1 - (k + 1)) (length range - 1 - k) (omega (arith, last, here)) (omega (arith, last));
  }
    where
      greater : (i : ℕ) (o : Ordering) → order (i + 1) i ≡ o → is_lt (order (i + 1) i) ≡ true → order i (i + 1) ≡ Greater
      greater i Less e less = total.antisymm i (i + 1) ∙ ap ordering_reverse e
      greater i Equal e less = absurd (true≢false (sym less ∙ ap is_lt e))
      greater i Greater e less = absurd (true≢false (sym less ∙ ap is_lt e))

      by-order : (i j : ℕ) → j ≡ i + 1 → j < n → is_lt (ordering_then (order i j) (nat_cmp i j)) ≡ false
      by-order i j next within =
          ap (λ m. is_lt (ordering_then (order i m) (nat_cmp i m))) next
          ∙ ap (λ o. is_lt (ordering_then o (nat_cmp i (i + 1))))
          (greater i (order (i + 1) i) refl (down i (omega (arith, next, within))))

-- the values of slots are in the order of their indexes
pub rising-pairs : {V X : Type 0} (seen : V → X) (slots : List (Option X)) (rest : ℕ → ℕ → Ordering) → IsTotalOrder rest
    → (indexes : List ℕ) → IsSorted rest indexes → (values : List (V × ℕ)) (nulls : List ℕ)
    → SplitsList seen slots indexes values nulls → IsSorted (λ x y. rest x.1 y.1) values
rising-pairs {V} seen slots rest total indexes rising values nulls split k d low high =
    let number : V × ℕ → ℕ = λ pair. pair.1 in
    let by_rest : ℕ → ℕ → Bool = λ i j. is_lt (rest i j) in
    let sorted : IsSortedBy by_rest (map number values) =
    subst (IsSortedBy by_rest) (sym split.valid)
    (IsSortedBy-filter by_rest (ranks_by total (λ i. i)) (is_valid_at slots) indexes rising) in
    let here : k < length values = omega (arith, high) in
    sym (ap₂ by_rest (get_or-map number values (k + 1) d d.1 high) (get_or-map number values k d d.1 here))
    ∙ sorted k d.1 low (omega (arith, length-map values number, high))

module _ {V X : Type 0} (seen : V → X) (slots : List (Option X)) (options : SortOptions) (cmp : V → V → Ordering)
    (order : X → X → Ordering) (agrees : (x y : V) → cmp x y ≡ order (seen x) (seen y)) (rest : ℕ → ℕ → Ordering)
    (rest_total : IsTotalOrder rest) where
  abbrev directed : V → V → Ordering
  directed x y = if options.descending then cmp y x else cmp x y

  abbrev by_slots : ℕ → ℕ → Ordering
  by_slots i j = ordering_then (slot_order options order (slot_at slots i) (slot_at slots j)) (rest i j)

  abbrev by_pairs : V × ℕ → V × ℕ → Ordering
  by_pairs x y = ordering_then (directed x.0 y.0) (rest x.1 y.1)

  abbrev Shown : V × ℕ → Type 0
  Shown pair = slot_at slots pair.1 ≡ Some (seen pair.0)

  abbrev IsValue : ℕ → Type 0
  IsValue i = (value : V) × (slot_at slots i ≡ Some (seen value))

  abbrev IsNull : ℕ → Type 0
  IsNull i = slot_at slots i ≡ None

  -- two pairs are ordered as their indexes
  compares : (x y : V × ℕ) → Shown x → Shown y → by_slots x.1 y.1 ≡ by_pairs x y
  compares x y p q =
      ap (λ o. ordering_then o (rest x.1 y.1))
      (ap₂ (slot_order options order) p q
      ∙ sym (ap₂ (λ a b. if options.descending then a else b) (agrees y.0 x.0) (agrees x.0 y.0)))

  values-sorted : (values : List (V × ℕ)) → All Shown values → IsSorted by_pairs values
      → IsSorted by_slots (map (λ pair. pair.1) values)
  values-sorted [] all sorted k d low high = absurd (omega (arith, high))
  values-sorted (first ∷ rest) all sorted k d low high =
      let values : List (V × ℕ) = first ∷ rest in
      let number : V × ℕ → ℕ = λ pair. pair.1 in
      let next : k + 1 < length values = omega (arith, length-map values number, high) in
      let here : k < length values = omega (arith, next) in
      ap₂ (λ i j. is_lt (by_slots i j)) (get_or-map number values (k + 1) first d next)
      (get_or-map number values k first d here)
      ∙ ap is_lt (compares (get_or values (k + 1) first) (get_or values k first)
      (All-get_or Shown values (k + 1) first next all) (All-get_or Shown values k first here all))
      ∙ sorted k first low next

  nulls-sorted : (nulls : List ℕ) → All IsNull nulls → IsSorted rest nulls → IsSorted by_slots nulls
  nulls-sorted nulls all rising k d low high =
      let here : k < length nulls = omega (arith, high) in
      ap₂ (λ x y. is_lt (ordering_then (slot_order options order x y)
      (rest (get_or nulls (k + 1) d) (get_or nulls k d))))
      (All-get_or IsNull nulls (k + 1) d high all) (All-get_or IsNull nulls k d here all)
      ∙ rising k d low high

  null-then-value : options.nulls_first ≡ true → (i j : ℕ) → IsNull i → IsValue j → is_lt (by_slots j i) ≡ false
  null-then-value e i j null (value, at) =
      ap₂ (λ x y. is_lt (ordering_then (slot_order options order x y) (rest j i))) at null
      ∙ ap (λ b. is_lt (ordering_then (if b then Greater else Less) (rest j i))) e

  value-then-null : options.nulls_first ≡ false → (i j : ℕ) → IsValue i → IsNull j → is_lt (by_slots j i) ≡ false
  value-then-null e i j (value, at) null =
      ap₂ (λ x y. is_lt (ordering_then (slot_order options order x y) (rest j i))) null at
      ∙ ap (λ b. is_lt (ordering_then (if b then Less else Greater) (rest j i))) e

  arranged : (first : Bool) → options.nulls_first ≡ first → (nulls indexes : List ℕ) → IsSorted by_slots nulls
      → IsSorted by_slots indexes → All IsNull nulls → All IsValue indexes
      → IsSorted by_slots (first_nulls first nulls indexes)
  arranged true e nulls indexes low high all each =
      sorted-append (λ i j. is_lt (by_slots i j)) IsNull IsValue (null-then-value e) nulls indexes low high all each
  arranged false e nulls indexes low high all each =
      sorted-append (λ i j. is_lt (by_slots i j)) IsValue IsNull (value-then-null e) indexes nulls high low each all

  moved : (first : Bool) (old nulls indexes : List ℕ) → IsPermutation old (indexes ++ nulls)
      → IsPermutation old (first_nulls first nulls indexes)
  moved true old nulls indexes moves =
      IsPermutation-trans old (indexes ++ nulls) (nulls ++ indexes) moves (IsPermutation-append_comm indexes nulls)
  moved false old nulls indexes moves = moves

  pub sorts : (old : List ℕ) (values sorted : List (V × ℕ)) (nulls : List ℕ) → IsSorted rest old
      → SplitsList seen slots old values nulls → IsPermutation values sorted → IsSorted by_pairs sorted
      → IsSorted by_slots (first_nulls options.nulls_first nulls (map (λ pair. pair.1) sorted))
  sorts old values sorted nulls rising split moves up =
      let number : V × ℕ → ℕ = λ pair. pair.1 in
      let by_rest : ℕ → ℕ → Bool = λ i j. is_lt (rest i j) in
      let indexes : List ℕ = map number sorted in
      let shown : All Shown sorted = All-permutation Shown values sorted moves split.shown in
      let null : All IsNull nulls =
      subst (All IsNull) (sym split.null)
      (All-weaker (λ i. is_null_at slots i ≡ true) IsNull (λ i e. none-of (slot_at slots i) e)
      (filter (is_null_at slots) old) (filter_passes (is_null_at slots) old)) in
      let apart : IsSortedBy by_rest nulls =
      subst (IsSortedBy by_rest) (sym split.null)
      (IsSortedBy-filter by_rest (ranks_by rest_total (λ i. i)) (is_null_at slots) old rising) in
      let each : All IsValue indexes =
      All-map IsValue number sorted (All-weaker Shown (λ pair. IsValue (number pair)) (λ pair at. (pair.0, at)) sorted shown) in
      arranged options.nulls_first refl nulls indexes (nulls-sorted nulls null apart)
      (values-sorted sorted shown up) null each

  pub permutes : (old : List ℕ) (values sorted : List (V × ℕ)) (nulls : List ℕ) → SplitsList seen slots old values nulls
      → IsPermutation values sorted
      → IsPermutation old (first_nulls options.nulls_first nulls (map (λ pair. pair.1) sorted))
  permutes old values sorted nulls split moves =
      let number : V × ℕ → ℕ = λ pair. pair.1 in
      let chosen_ones : IsPermutation old (map number values ++ nulls) =
      subst (IsPermutation old) (ap₂ (λ a b. a ++ b) (sym split.valid) (sym split.null))
      (IsPermutation-filter_both (is_valid_at slots) (is_null_at slots) (λ i. refl) old) in
      moved options.nulls_first old nulls (map number sorted)
      (IsPermutation-trans old (map number values ++ nulls) (map number sorted ++ nulls) chosen_ones
      (IsPermutation-append_left nulls (map number values) (map number sorted)
      (IsPermutation-map number values sorted moves)))

-- the indexes of all slots, sorted
pub sorts-all : {V X : Type 0} (seen : V → X) (slots : List (Option X)) (options : SortOptions)
    (cmp : V → V → Ordering) (order : X → X → Ordering) → ((x y : V) → cmp x y ≡ order (seen x) (seen y)) → (n : ℕ)
    (values sorted : List (V × ℕ)) (nulls : List ℕ) → SplitsSlots seen slots n values nulls
    → IsPermutation values sorted → IsSorted (pair_order (λ x y. if options.descending then cmp y x else cmp x y)) sorted
    → SortsIndexes (index_order (slot_order options order) slots) n
    (first_nulls options.nulls_first nulls (map (λ pair. pair.1) sorted))
sorts-all seen slots options cmp order agrees n values sorted nulls split moves up = record {
  permutation =
      permutes seen slots options cmp order agrees nat_cmp nat_cmp_total (range_with_len 0 n) values sorted nulls split
      moves;
  sorted =
      sorts seen slots options cmp order agrees nat_cmp nat_cmp_total (range_with_len 0 n) values sorted nulls
      (rising-range n) split moves up;
}

-- ---- the array of the indexes
stored-bare : {X : Type 0} (t : LogicalType) (xs : List X) → stored_values (column_of_parts t xs None) ≡ xs
stored-bare t [] = refl
stored-bare t (x ∷ xs) = ap (λ rest. x ∷ rest) (stored-bare t xs)

pub holds-sorted : (order : ℕ → ℕ → Ordering) (n : ℕ) (limit : Option ℕ) (made : Column ℕ) (keys : List ℕ)
    → made ≡ column_of_parts (plain uint64) keys None → AreSorted order n limit keys → HoldsSorted order n limit made
holds-sorted order n limit made keys is sorted =
    let stored : stored_values made ≡ keys = ap stored_values is ∙ stored-bare (plain uint64) keys in
    record {
      keys = subst (AreSorted order n limit) (sym stored) sorted;
      unmasked = is ∙ ap (λ xs. column_of_parts (plain uint64) xs None) (sym stored);
    }
