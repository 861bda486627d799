-- Ranges of equal neighbours, one row more at a time.
use Rattle.std.proofs.Common.{◌≡◌, ◌∙◌, ℕ, zero, suc, ◌+◌, ◌-◌, ◌<◌, ◌≤◌, ◌==◌, ◌||◌, Bool, true, false, cond, if◌then◌else◌, inl, inr, List, [], ◌∷◌, ◌++◌, Some, ap, ap₂, arith, drop, get_or, length, map, refl, slice_get, sym}
use Rattle.std.specs.Cmp.{nat_cmp_total}
use Rattle.std.specs.List.{All, filter, range_with_len}
use Rattle.std.specs.List.Sorted.{IsSorted, IsStrictlyIncreasing}
use Rattle.std.specs.Ordering.{is_lt, is_ne, nat_cmp}
use Rattle.std.specs.declared.cmp.Ordering.{Ordering}
use Rattle.std.specs.declared.ops.Range.{Range}
use Rattle.std.proofs.lemmas.Bool.{cases_lt}
use Rattle.std.proofs.lemmas.List.{append-nil, drop-append-le, get_or_default, length_push, map_push}
use Rattle.std.proofs.lemmas.List.Elements.{All-filter, filter_passes}
use Rattle.std.proofs.lemmas.List.FromFn.{get_or-range_with_len, length-range_with_len}
use Rattle.std.proofs.lemmas.List.Kept.{IsStrictlyIncreasing-filter}
use Rattle.std.proofs.lemmas.List.Sorted.{ranks_by, sorted_far}
use Rattle.std.proofs.lemmas.Option.{get_or_from_slice_get, none-some, same_Some, slice_get-get_or, slice_get_within}
use Rattle.arrow_types.proofs.CallerLemmas.{all-at, get-drop, get-map, get-push, get-some, range-below}
use Rattle.compute_sort.specs.Partition.{AreEqualWithin, ArePartition, DifferAtStarts, FollowEachOther, begins_range}
use Rattle.compute_sort.specs.Partition.{one_range, range_starts}
use Rattle.compute_sort.proofs.LawLemmas.{not-below}
use Rattle.compute_sort.proofs.OrderLemmas.{filter-more, filter-same, increasing, not-less}

abbrev pub first_of : Range ℕ → ℕ
first_of range = range.start

abbrev pub end_of : Range ℕ → ℕ
end_of range = range.end

abbrev range_of : ℕ → ℕ → Range ℕ
range_of start end = record { start = start; end = end }

-- the ranges among the rows below n that have ended; the last begins at `start`
pub record RangesBelow (order : ℕ → ℕ → Ordering) (n start : ℕ) (ranges : List (Range ℕ)) : Type 0 where
  pub starts : map first_of ranges ++ start ∷ [] ≡ range_starts order n
  pub ends : map end_of ranges ≡ drop 1 (range_starts order n)

module _ (order : ℕ → ℕ → Ordering) where
  pub one-row : RangesBelow order 1 0 []
  one-row = record { starts = refl; ends = refl }

  later : (n : ℕ) → 0 < n → begins_range order n ≡ is_ne (order (n - 1) n)
  later n positive =
      let some : (n == 0) ≡ false = grind (arith, positive) in
      ap (λ none. none || is_ne (order (n - 1) n)) some

  some-start : (n start : ℕ) (ranges : List (Range ℕ)) → RangesBelow order n start ranges
      → 1 ≤ length (range_starts order n)
  some-start n start ranges below = omega (arith, ap length below.starts, length_push (map first_of ranges) start)

  -- one row more, which differs from the one before it or doesn't
  more-rows : (n start next : ℕ) (ranges after : List (Range ℕ)) (differs : Bool) → begins_range order n ≡ differs
      → RangesBelow order n start ranges → next ≡ (if differs then n else start)
      → after ≡ ranges ++ (if differs then one_range start n else []) → RangesBelow order (n + 1) next after
  more-rows n start next ranges after false begins below next_is after_is =
      let same : range_starts order (n + 1) ≡ range_starts order n = filter-same (begins_range order) n begins in
      let kept : after ≡ ranges = after_is ∙ append-nil ranges in
      record {
        starts = ap₂ (λ rs s. map first_of rs ++ s ∷ []) kept next_is ∙ below.starts ∙ sym same;
        ends = ap (map end_of) kept ∙ below.ends ∙ ap (drop 1) (sym same);
      }
  more-rows n start next ranges after true begins below next_is after_is =
      let starts : List ℕ = range_starts order n in
      let more : range_starts order (n + 1) ≡ starts ++ n ∷ [] = filter-more (begins_range order) n begins in
      record {
        starts =
            ap₂ (λ rs s. map first_of rs ++ s ∷ []) after_is next_is
            ∙ ap (λ xs. xs ++ n ∷ []) (map_push first_of ranges (range_of start n) ∙ below.starts) ∙ sym more;
        ends =
            ap (map end_of) after_is ∙ map_push end_of ranges (range_of start n) ∙ ap (λ xs. xs ++ n ∷ []) below.ends
            ∙ sym (ap (drop 1) more ∙ drop-append-le 1 starts (n ∷ []) (some-start n start ranges below));
      }

  pub next-row : (n start next : ℕ) (ranges after : List (Range ℕ)) (differs : Bool) → 0 < n
      → differs ≡ is_ne (order (n - 1) n) → RangesBelow order n start ranges → next ≡ (if differs then n else start)
      → after ≡ ranges ++ (if differs then one_range start n else []) → RangesBelow order (n + 1) next after
  next-row n start next ranges after differs positive is = more-rows n start next ranges after differs
      (later n positive ∙ sym is)

  -- the last range ends
  pub all-rows : (n start : ℕ) (ranges after : List (Range ℕ)) → RangesBelow order n start ranges
      → after ≡ ranges ++ range_of start n ∷ [] → ArePartition order n after
  all-rows n start ranges after below after_is = record {
    starts = ap (map first_of) after_is ∙ map_push first_of ranges (range_of start n) ∙ below.starts;
    ends =
        ap (map end_of) after_is ∙ map_push end_of ranges (range_of start n) ∙ ap (λ xs. xs ++ n ∷ []) below.ends
        ∙ sym (drop-append-le 1 (range_starts order n) (n ∷ []) (some-start n start ranges below));
  }

-- ---- what the ranges are

kept-at : (p : ℕ → Bool) (xs : List ℕ) (i x : ℕ) → slice_get xs i ≡ Some x → p x ≡ true
    → (j : ℕ) × (slice_get (filter p xs) j ≡ Some x)
kept-at p [] i x at passes = absurd (none-some x at)
kept-at p (y ∷ xs) zero x at passes =
    (0, ap (λ b. slice_get (cond b (y ∷ filter p xs) (filter p xs)) 0) (ap p (same_Some y x at) ∙ passes) ∙ at)
kept-at p (y ∷ xs) (suc i) x at passes = by-test (kept-at p xs i x at passes) (p y) refl
  where
    by-test : (j : ℕ) × (slice_get (filter p xs) j ≡ Some x) → (b : Bool) → p y ≡ b
        → (j : ℕ) × (slice_get (filter p (y ∷ xs)) j ≡ Some x)
    by-test rest true e = (
      suc rest.0,
      ap (λ b. slice_get (cond b (y ∷ filter p xs) (filter p xs)) (suc rest.0)) e
          ∙ rest.1,
    )
    by-test rest false e = (rest.0, ap (λ b. slice_get (cond b (y ∷ filter p xs) (filter p xs)) rest.0) e ∙ rest.1)

in-front : {X : Type 0} (xs ys : List X) (i : ℕ) (x : X) → slice_get xs i ≡ Some x → slice_get (xs ++ ys) i ≡ Some x
in-front [] ys i x at = absurd (none-some x at)
in-front (y ∷ xs) ys zero x at = at
in-front (y ∷ xs) ys (suc i) x at = in-front xs ys i x at

module _ (order : ℕ → ℕ → Ordering) (n : ℕ) where
  abbrev heads : List ℕ
  heads = range_starts order n

  rising : IsSorted nat_cmp heads
  rising k d low high =
      let up : IsStrictlyIncreasing heads =
      IsStrictlyIncreasing-filter (begins_range order) (range_with_len 0 n) (increasing n) in
      not-less (get_or heads (k + 1) d) (get_or heads k d) (omega (
        arith,
        up k high,
        get_or_default heads (k + 1) d 0 high,
        get_or_default heads k d 0 (omega (arith, high)),
      ))

  in-order : (a b i j : ℕ) → a ≤ b → slice_get heads a ≡ Some i → slice_get heads b ≡ Some j → i ≤ j
  in-order a b i j within at_a at_b = not-below i j
      (ap₂ (λ y x. is_lt (nat_cmp y x)) (sym (get_or_from_slice_get heads b j 0 at_b))
      (sym (get_or_from_slice_get heads a i 0 at_a))
      ∙ sorted_far (λ x y. is_lt (nat_cmp x y)) (ranks_by nat_cmp_total (λ i. i)) heads rising a b 0 within
      (slice_get_within heads b j at_b))

  heads-below : All (λ i. i < n) heads
  heads-below = All-filter (begins_range order) (λ i. i < n) (range_with_len 0 n) (range-below n)

  module _ (ranges : List (Range ℕ)) (are : ArePartition order n ranges) where
    start-at : (k : ℕ) (range : Range ℕ) → slice_get ranges k ≡ Some range → slice_get heads k ≡ Some range.start
    start-at k range at = ap (λ l. slice_get l k) (sym are.starts) ∙ get-map first_of ranges k range at

    end-at : (k : ℕ) (range : Range ℕ) → slice_get ranges k ≡ Some range
        → slice_get (heads ++ n ∷ []) (1 + k) ≡ Some range.end
    end-at k range at = sym (get-drop (heads ++ n ∷ []) 1 k) ∙ ap (λ l. slice_get l k) (sym are.ends)
        ∙ get-map end_of ranges k range at

    end-within : (k : ℕ) (range : Range ℕ) → slice_get ranges k ≡ Some range → range.end ≤ n
    end-within k range at = elim (get-push heads n (1 + k) range.end (end-at k range at)) [
      | inl before ↦ omega (arith, all-at (λ i. i < n) heads (1 + k) range.end heads-below before)
      | inr last ↦ omega (arith, last.1)
    ]

    -- a row that begins a range is not inside of one
    outside : (k : ℕ) (range : Range ℕ) (i : ℕ) → slice_get ranges k ≡ Some range → range.start < i → i < range.end
        → begins_range order i ≡ true → ⊥
    outside k range i at low high begins =
        let here : i < n = omega (arith, end-within k range at, high) in
        let same : 0 + i ≡ i = omega arith in
        let listed : slice_get (range_with_len 0 n) i ≡ Some i =
        slice_get-get_or (range_with_len 0 n) i 0 (omega (arith, here, length-range_with_len 0 n))
        ∙ ap Some (get_or-range_with_len 0 n i 0 here ∙ same) in
        let found = kept-at (begins_range order) (range_with_len 0 n) i i listed begins in
        elim (cases_lt k found.0) [
          | inl late ↦
              let next = get-some heads (1 + k) (omega (arith, late, slice_get_within heads found.0 i found.1)) in
              let ends : next.0 ≡ range.end =
              same_Some next.0 range.end (sym (in-front heads (n ∷ []) (1 + k) next.0 next.1) ∙ end-at k range at) in
              absurd (omega (arith, high, ends, in-order (1 + k) found.0 next.0 i (omega (arith, late)) next.1 found.1))
          | inr early ↦ absurd (omega (
            arith,
            low,
            in-order found.0 k i range.start early found.1
                (start-at k range at),
          ))
        ]

pub equal-within : (order : ℕ → ℕ → Ordering) (n : ℕ) (ranges : List (Range ℕ)) → ArePartition order n ranges
    → AreEqualWithin order ranges
equal-within order n ranges are k range i at low high = decided (is_ne (order (i - 1) i)) refl
  where
    decided : (b : Bool) → is_ne (order (i - 1) i) ≡ b → is_ne (order (i - 1) i) ≡ false
    decided false e = e
    decided true e = absurd (outside order n ranges are k range i at low high (later order i (omega (arith, low)) ∙ e))

pub differ-at-starts : (order : ℕ → ℕ → Ordering) (n : ℕ) (ranges : List (Range ℕ)) → ArePartition order n ranges
    → DifferAtStarts order ranges
differ-at-starts order n ranges are k range at positive =
    sym (later order range.start positive)
    ∙ all-at (λ i. begins_range order i ≡ true) (range_starts order n) k range.start
    (filter_passes (begins_range order) (range_with_len 0 n)) (start-at order n ranges are k range at)

pub follow-each-other : (order : ℕ → ℕ → Ordering) (n : ℕ) (ranges : List (Range ℕ)) → ArePartition order n ranges
    → FollowEachOther ranges
follow-each-other order n ranges are k range next at after =
    let one : k + 1 ≡ 1 + k = omega arith in
    let begins : slice_get (range_starts order n) (1 + k) ≡ Some next.start =
    ap (slice_get (range_starts order n)) (sym one) ∙ start-at order n ranges are (k + 1) next after in
    same_Some range.end next.start (sym (end-at order n ranges are k range at)
    ∙ in-front (range_starts order n) (n ∷ []) (1 + k) next.start begins)
