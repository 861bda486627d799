-- What sorted slots and the indexes that sort them are.
use Rattle.std.proofs.Common.{◌≡◌, ◌∙◌, ℕ, zero, suc, ◌≤◌, true, false, if◌then◌else◌, true≢false, List, [], ◌∷◌, Option, Some, None, ap, ap₂, arith, length, map, refl, slice_get, subst, sym, take}
use Rattle.std.specs.Cmp.{IsTotalOrder, IsStrictWeakOrder, tied_back}
use Rattle.std.specs.List.{range_with_len}
use Rattle.std.specs.List.Sorted.{IsPermutation, IsSorted}
use Rattle.std.specs.Ordering.{is_lt, nat_cmp, ordering_then}
use Rattle.std.specs.declared.cmp.Ordering.{Ordering}
use Rattle.std.specs.declared.cmp.Ordering.TheVariants.{Less, Equal, Greater}
use Rattle.std.proofs.lemmas.List.{length-map, length-take}
use Rattle.std.proofs.lemmas.List.FromFn.{fill_by_all, length-range_with_len}
use Rattle.std.proofs.lemmas.List.Sorted.{IsPermutation-map, length_permutation, ranks_by, sorted_far}
use Rattle.std.proofs.lemmas.Option.{get_or_from_slice_get, none-some, same_Some, slice_get_within}
use Rattle.arrow_types.proofs.CallerLemmas.{get-take}
use Rattle.compute_sort.specs.declared.options.SortOptions.{SortOptions}
use Rattle.compute_sort.specs.Sort.{AreSortedSlots, Ascend, HasSortedSlots, KeepOrder, NullsComeFirst, NullsComeLast}
use Rattle.compute_sort.specs.Sort.{index_order, slot_at, slot_order, up_to}
use Rattle.compute_sort.proofs.TotalLemmas.{indexes-total, slots-total}

-- ---- lists

uncut : {X : Type 0} (limit : Option ℕ) (xs : List X) (i : ℕ) (x : X) → slice_get (up_to limit xs) i ≡ Some x
    → slice_get xs i ≡ Some x
uncut None xs i x at = at
uncut (Some limit) xs i x at =
    sym (get-take xs limit i (omega (arith, slice_get_within (take limit xs) i x at, length-take limit xs))) ∙ at

unmapped : {X Y : Type 0} (f : X → Y) (xs : List X) (i : ℕ) (y : Y) → slice_get (map f xs) i ≡ Some y
    → (x : X) × (slice_get xs i ≡ Some x) × (f x ≡ y)
unmapped f [] i y at = absurd (none-some y at)
unmapped f (x ∷ xs) zero y at = (x, refl, same_Some (f x) y at)
unmapped f (x ∷ xs) (suc i) y at = unmapped f xs i y at

length-up_to : {X Y : Type 0} (limit : Option ℕ) (xs : List X) (ys : List Y) → length xs ≡ length ys
    → length (up_to limit xs) ≡ length (up_to limit ys)
length-up_to None xs ys same = same
length-up_to (Some limit) xs ys same = omega (arith, same, length-take limit xs, length-take limit ys)

uncut-all : {X : Type 0} (limit : Option ℕ) (xs : List X) → limit ≡ None → up_to limit xs ≡ xs
uncut-all limit xs none = ap (λ l. up_to l xs) none

-- ---- numbers

pub not-below : (i j : ℕ) → is_lt (nat_cmp j i) ≡ false → i ≤ j
not-below i j e = grind (arith, e)

first-decides : (o p : Ordering) → is_lt (ordering_then o p) ≡ false → is_lt o ≡ false
first-decides Less p e = e
first-decides Equal p e = refl
first-decides Greater p e = refl

-- ---- sorts

module _ {X : Type 0} (options : SortOptions) (cmp : X → X → Ordering) (slots : List (Option X)) where
  abbrev order : Option X → Option X → Ordering
  order = slot_order options cmp

  pub count-indexes : (limit : Option ℕ) (keys : List ℕ) → AreSortedSlots options cmp slots limit keys
      → length keys ≡ length (up_to limit slots)
  count-indexes limit keys (all, sorts, is) =
      let range : List ℕ = range_with_len 0 (length slots) in
      let every : length all ≡ length slots =
      length_permutation range all sorts.permutation ∙ length-range_with_len 0 (length slots) in
      ap length is ∙ length-up_to limit all slots every

  pub count-slots : (limit : Option ℕ) (shown : List (Option X)) → HasSortedSlots options cmp slots limit shown
      → length shown ≡ length (up_to limit slots)
  count-slots limit shown (keys, sorted, is) =
      ap length is ∙ length-map keys (slot_at slots) ∙ count-indexes limit keys sorted

  pub every-index : (limit : Option ℕ) (keys : List ℕ) → AreSortedSlots options cmp slots limit keys → limit ≡ None
      → IsPermutation (range_with_len 0 (length slots)) keys
  every-index limit keys (all, sorts, is) none =
      subst (IsPermutation (range_with_len 0 (length slots))) (sym (is ∙ uncut-all limit all none)) sorts.permutation

  pub every-slot : (limit : Option ℕ) (shown : List (Option X)) → HasSortedSlots options cmp slots limit shown
      → limit ≡ None → IsPermutation slots shown
  every-slot limit shown (keys, sorted, is) none =
      let range : List ℕ = range_with_len 0 (length slots) in
      let whole : slots ≡ map (slot_at slots) range =
      fill_by_all (slot_at slots) slots (length slots) None refl (λ k within. refl) in
      subst (IsPermutation slots) (sym is)
      (subst (λ xs. IsPermutation xs (map (slot_at slots) keys)) (sym whole)
      (IsPermutation-map (slot_at slots) range keys (every-index limit keys sorted none)))

  module _ (total : IsTotalOrder cmp) where
    weak : IsStrictWeakOrder (λ i j. is_lt (index_order order slots i j))
    weak = ranks_by (indexes-total order slots (slots-total options cmp total)) (λ i. i)

    far : (limit : Option ℕ) (all : List ℕ) → IsSorted (index_order order slots) all → (a b i j : ℕ) → a ≤ b
        → slice_get (up_to limit all) a ≡ Some i → slice_get (up_to limit all) b ≡ Some j
        → is_lt (index_order order slots j i) ≡ false
    far limit all up a b i j within at_a at_b =
        let first : slice_get all a ≡ Some i = uncut limit all a i at_a in
        let last : slice_get all b ≡ Some j = uncut limit all b j at_b in
        ap₂ (λ y x. is_lt (index_order order slots y x)) (sym (get_or_from_slice_get all b j 0 last))
        (sym (get_or_from_slice_get all a i 0 first))
        ∙ sorted_far (λ x y. is_lt (index_order order slots x y)) weak all up a b 0 within
        (slice_get_within all b j last)

    pub keep-order : (limit : Option ℕ) (keys : List ℕ) → AreSortedSlots options cmp slots limit keys
        → KeepOrder options cmp slots keys
    keep-order limit keys (all, sorts, is) a b i j within at_a at_b tied =
        let back : order (slot_at slots j) (slot_at slots i) ≡ Equal =
        tied_back (slots-total options cmp total) (slot_at slots i) (slot_at slots j) tied in
        not-below i j (sym (ap (λ o. is_lt (ordering_then o (nat_cmp j i))) back)
        ∙ far limit all sorts.sorted a b i j within (subst (λ l. slice_get l a ≡ Some i) is at_a)
        (subst (λ l. slice_get l b ≡ Some j) is at_b))

    pub ascend : (limit : Option ℕ) (shown : List (Option X)) → HasSortedSlots options cmp slots limit shown
        → Ascend options cmp shown
    ascend limit shown (keys, (all, sorts, cut), is) a b x y within at_a at_b =
        let first = unmapped (slot_at slots) keys a x (subst (λ l. slice_get l a ≡ Some x) is at_a) in
        let last = unmapped (slot_at slots) keys b y (subst (λ l. slice_get l b ≡ Some y) is at_b) in
        ap₂ (λ s t. is_lt (order s t)) (sym last.2) (sym first.2)
        ∙ first-decides (order (slot_at slots last.0) (slot_at slots first.0)) (nat_cmp last.0 first.0)
        (far limit all sorts.sorted a b first.0 last.0 within (subst (λ l. slice_get l a ≡ Some first.0) cut first.1)
        (subst (λ l. slice_get l b ≡ Some last.0) cut last.1))

-- ---- nulls

module _ {X : Type 0} (options : SortOptions) (cmp : X → X → Ordering) where
  before-null : options.nulls_first ≡ true → (x : Option X) → is_lt (slot_order options cmp None x) ≡ false → x ≡ None
  before-null first None e = refl
  before-null first (Some x) e = absurd (true≢false (sym (ap (λ b. is_lt (if b then Less else Greater)) first) ∙ e))

  after-null : options.nulls_first ≡ false → (y : Option X) → is_lt (slot_order options cmp y None) ≡ false → y ≡ None
  after-null last None e = refl
  after-null last (Some y) e = absurd (true≢false (sym (ap (λ b. is_lt (if b then Greater else Less)) last) ∙ e))

  pub nulls-first : (shown : List (Option X)) → Ascend options cmp shown → options.nulls_first ≡ true
      → NullsComeFirst shown
  nulls-first shown up first a b x within at_a at_b = before-null first x (up a b x None within at_a at_b)

  pub nulls-last : (shown : List (Option X)) → Ascend options cmp shown → options.nulls_first ≡ false
      → NullsComeLast shown
  nulls-last shown up last a b y within at_a at_b = after-null last y (up a b None y within at_a at_b)
