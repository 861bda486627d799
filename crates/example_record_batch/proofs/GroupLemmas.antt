-- Lemmas about groups of slots.
use Rattle.std.proofs.Common.{◌≡◌, ◌∙◌, ℕ, ◌+◌, ◌<◌, ◌≤◌, ◌⊎◌, ◌^◌, List, [], ◌∷◌, ◌++◌, Option, Some, ap, arith, get_or, inl, inr, length, refl, slice_get, subst, suc, sym, take, zero}
use Rattle.std.specs.Prelude.{All, IfOk, Result, Ok, Err}
use Rattle.std.specs.List.{range_with_len}
use Rattle.std.specs.List.Sorted.{IsPermutation}
use Rattle.std.proofs.lemmas.Bool.{cases_order}
use Rattle.std.proofs.lemmas.List.{take_at}
use Rattle.std.proofs.lemmas.List.Elements.{All-from_get_or}
use Rattle.std.proofs.lemmas.List.Sorted.{IsPermutation-cons, IsPermutation-middle, IsPermutation-refl, IsPermutation-sym, IsPermutation-trans}
use Rattle.std.proofs.lemmas.Option.{slice_get-get_or, slice_get_within}
use Rattle.dethrugn.specs.Column.{ColumnWith, slots_of}
use Rattle.dethrugn.specs.Grouping.{IsGrouping}
use Rattle.dethrugn.specs.Sort.{PickOnce}
use Rattle.dethrugn.proofs.CallerLemmas.Sort.{picks-below}
use Rattle.dethrugn.proofs.CallerLemmas.Column.{length-slots}
use Rattle.example_record_batch.specs.declared.any.AnyArray.{AnyArray}
use Rattle.example_record_batch.specs.declared.any.AnyArray.TheVariants.{Int64, Boolean, Binary, Utf8}
use Rattle.example_record_batch.specs.AnyArrays.{slot_count}
use Rattle.example_record_batch.specs.Grouping.{AnyGrouping, NumbersRows}
use Rattle.example_record_batch.specs.Taking.{any_taken}
use Rattle.example_record_batch.proofs.TakeLemmas.{slot_count-taken}

-- ascending indexes are the first of all indexes, in some order
record Ascends (a n : ℕ) (xs : List ℕ) : Type 0 where
  low : (i x : ℕ) → slice_get xs i ≡ Some x → a ≤ x
  high : (i x : ℕ) → slice_get xs i ≡ Some x → x < a + n
  order : (i j x y : ℕ) → i < j → slice_get xs i ≡ Some x → slice_get xs j ≡ Some y → x < y

-- without the first
ascends-tail : (a n x : ℕ) (xs : List ℕ) → Ascends a (suc n) (x ∷ xs) → Ascends (a + 1) n xs
ascends-tail a n x xs h = record {
  low = λ i y at. let first : a ≤ x = h.low 0 x refl in
      let more : x < y = h.order 0 (suc i) x y (omega arith) refl at in omega arith;
  high = λ i y at. let top : y < a + suc n = h.high (suc i) y at in omega arith;
  order = λ i j y z less at next. h.order (suc i) (suc j) y z (omega arith) at next;
}

ascends-above : (a n x : ℕ) (xs : List ℕ) → a < x → Ascends a (suc n) (x ∷ xs) → Ascends (a + 1) n (x ∷ xs)
ascends-above a n x xs less h = record {
  low = λ i y at. above i y at;
  high = λ i y at. let top : y < a + suc n = h.high i y at in omega arith;
  order = h.order;
}
  where
    above : (i y : ℕ) → slice_get (x ∷ xs) i ≡ Some y → a + 1 ≤ y
    above zero y at = let same : x ≡ y = cc in omega arith
    above (suc i) y at = let more : x < y = h.order 0 (suc i) x y (omega arith) refl at in omega arith

ascending : (n a : ℕ) (xs : List ℕ) → Ascends a n xs → (rest : List ℕ) × IsPermutation (range_with_len a n) (xs ++ rest)
ascending zero a [] h = ([], IsPermutation-refl [])
ascending zero a (x ∷ xs) h = absurd (none (h.low 0 x refl) (h.high 0 x refl))
  where
    none : a ≤ x → x < a + 0 → ⊥
    none low high = omega arith
ascending (suc n) a [] h = (range_with_len a (suc n), IsPermutation-refl (range_with_len a (suc n)))
ascending (suc n) a (x ∷ xs) h = elim (cases_order a x) [
  | inl same ↦
      let others = ascending n (a + 1) xs (ascends-tail a n x xs h) in (
        others.0,
        subst (λ y. IsPermutation (range_with_len a (suc n)) (y ∷ (xs ++ others.0))) same
            (IsPermutation-cons a (range_with_len (a + 1) n) (xs ++ others.0) others.1),
      )
  | inr apart ↦ elim apart [
    | inl above ↦
        let others = ascending n (a + 1) (x ∷ xs) (ascends-above a n x xs above h) in (
          a ∷ others.0,
          IsPermutation-trans (a ∷ range_with_len (a + 1) n) (a ∷ ((x ∷ xs) ++ others.0)) ((x ∷ xs) ++ a ∷ others.0)
              (IsPermutation-cons a (range_with_len (a + 1) n) ((x ∷ xs) ++ others.0) others.1)
              (IsPermutation-sym ((x ∷ xs) ++ a ∷ others.0) (a ∷ ((x ∷ xs) ++ others.0))
              (IsPermutation-middle (x ∷ xs) a others.0)),
        )
    | inr below ↦ absurd (not_below below (h.low 0 x refl))
  ]
]
  where
    not_below : x < a → a ≤ x → ⊥
    not_below less low = omega arith

-- the first slots of groups are there once
first-once : {X : Type 0} (slots : List X) (first numbers : List ℕ) → IsGrouping slots first numbers → PickOnce (length slots) first
first-once slots first numbers groups =
    let rest = ascending (length slots) 0 first (record {
      low = λ i x at. omega arith;
      high = λ i x at. let within : x < length slots = groups.within i x at in omega arith;
      order = λ i j x y less at next. groups.order i j x y less at next;
    }) in
    (first ++ rest.0, Some (length first), rest.1, sym (take_at first rest.0 (length first) refl))

-- each number is that of a group
numbers-within : {X : Type 0} (slots : List X) (first numbers : List ℕ) → IsGrouping slots first numbers
    → All (λ g. g < length first) numbers
numbers-within slots first numbers groups = All-from_get_or (λ g. g < length first) numbers 0 (λ i low.
    let member = groups.members i (get_or numbers i 0) (slice_get-get_or numbers i 0 low) in
    slice_get_within first (get_or numbers i 0) member.0 member.1)

grouping-rows : {A S : Type 0} (column : ColumnWith A S) (first numbers : List ℕ) → IsGrouping (slots_of column) first numbers
    → NumbersRows (length column.rows) first numbers
grouping-rows column first numbers groups = record {
  count = groups.count ∙ length-slots column;
  within = numbers-within (slots_of column) first numbers groups;
  once = subst (λ n. PickOnce n first) (length-slots column) (first-once (slots_of column) first numbers groups);
}

pub any-grouping-rows : (array : AnyArray) (first numbers : List ℕ) → AnyGrouping array first numbers
    → NumbersRows (slot_count array) first numbers
any-grouping-rows (Int64 column) first numbers groups = grouping-rows column first numbers groups
any-grouping-rows (Boolean column) first numbers groups = grouping-rows column first numbers groups
any-grouping-rows (Binary column) first numbers groups = grouping-rows column first numbers groups
any-grouping-rows (Utf8 column) first numbers groups = grouping-rows column first numbers groups

-- the groups of an array of one kind that a call returns
pub ok-rows : {G E : Type 0} (first numbers : G → List ℕ) (self array : AnyArray) (r : Result G E) → self ≡ array
    → IfOk r (λ groups. AnyGrouping array (first groups) (numbers groups))
    → IfOk r (λ groups. NumbersRows (slot_count self) (first groups) (numbers groups))
ok-rows first numbers self array (Ok groups) is h =
    subst (λ one. NumbersRows (slot_count one) (first groups) (numbers groups)) (sym is)
    (any-grouping-rows array (first groups) (numbers groups) h)
ok-rows first numbers self array (Err e) is h = tt

-- the keys that a take at first slots returns
pub ok-count : {E : Type 0} (array : AnyArray) (keys : List ℕ) (r : Result AnyArray E) → slot_count array < 2 ^ 64
    → PickOnce (slot_count array) keys → IfOk r (λ made. made ≡ any_taken array keys)
    → IfOk r (λ made. slot_count made ≡ length keys)
ok-count array keys (Ok made) small once is =
    ap slot_count is ∙ slot_count-taken array keys small (picks-below (slot_count array) keys once)
ok-count array keys (Err e) small once is = tt
