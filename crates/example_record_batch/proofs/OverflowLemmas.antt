-- Lemmas about the sums of groups, to which numbers are added one after the other, and about the first that does not
-- fit.
use Rattle.std.proofs.Common.{◌≡◌, ◌≢◌, ◌⊎◌, ◌∙◌, ◌==◌, ◌+◌, ◌-◌, ◌*◌, ◌^◌, ◌<◌, ◌≤◌, ℕ, zero, suc, ℤ, pos, ◌+ℤ◌, if◌then◌else◌, List, [], ◌∷◌, ◌++◌}
use Rattle.std.proofs.Common.{Option, Some, None, ap, append-nil, arith, eq-eqb, get_or, inl, inr, length, map, refl}
use Rattle.std.proofs.Common.{set, slice_get}
use Rattle.std.proofs.Common.{Bool, true, false, subst, sym, take, unsigned_abs, zero-add}
use Rattle.std.specs.Prelude.{IsSome, find, fold, not, unwrap_or}
use Rattle.std.specs.Option.{option_or}
use Rattle.std.specs.List.{filter_map, range_with_len}
use Rattle.std.proofs.Math.IntN.{+ℤ_idr}
use Rattle.std.proofs.lemmas.Bool.{cases_eq, ne_eqb}
use Rattle.std.proofs.lemmas.Int.{ints}
use Rattle.std.proofs.lemmas.List.{get_or-set_other, get_or-set_same, length-set}
use Rattle.std.proofs.lemmas.List.Folds.{find-append}
use Rattle.std.proofs.lemmas.List.Sums.{fold_push}
use Rattle.std.proofs.lemmas.Option.{slice_get-get_or, slice_get_within}
use Rattle.dethrugn.specs.Aggregates.{sum_all}
use Rattle.dethrugn.specs.Groups.{values_at}
use Rattle.dethrugn.proofs.CallerLemmas.Aggregate.{values-more}

-- the sum of values and of those of a slot, whether it is of the group or not
sum-with : (values : List ℤ) (is : Bool) (slot : Option ℤ)
    → sum_all (values ++ filter_map (λ (pair : ℕ × Option ℤ). if is then pair.1 else None) ((0, slot) ∷ []))
    ≡ sum_all values +ℤ (if is then unwrap_or slot (pos 0) else pos 0)
sum-with values true (Some x) = fold_push (λ sum y. sum +ℤ y) (pos 0) values x
sum-with values true None = ap sum_all (append-nil values) ∙ sym (+ℤ_idr (sum_all values))
sum-with values false slot = ap sum_all (append-nil values) ∙ sym (+ℤ_idr (sum_all values))

sum-more : (pairs : List (ℕ × Option ℤ)) (i k g : ℕ) (slot : Option ℤ) → slice_get pairs i ≡ Some (k, slot)
    → sum_all (values_at (take (i + 1) pairs) g)
    ≡ sum_all (values_at (take i pairs) g) +ℤ (if k == g then unwrap_or slot (pos 0) else pos 0)
sum-more pairs i k g slot at =
    ap sum_all (values-more pairs i k g slot at) ∙ sum-with (values_at (take i pairs) g) (k == g) slot

-- the sums of groups among the first pairs, each of which is at most 2 ^ 63 from zero
pub record SumsTo (pairs : List (ℕ × Option ℤ)) (i groups : ℕ) (sums : List ℤ) : Type 0 where
  pub each : (g : ℕ) → g < groups → slice_get sums g ≡ Some (sum_all (values_at (take i pairs) g))
  pub small : (g : ℕ) → g < groups → unsigned_abs (sum_all (values_at (take i pairs) g)) ≤ i * 2 ^ 63

-- after one pair more, that of group k
pub sums-more : (pairs : List (ℕ × Option ℤ)) (i k groups : ℕ) (slot : Option ℤ) (sums : List ℤ) (next : ℤ)
    → SumsTo pairs i groups sums → slice_get pairs i ≡ Some (k, slot) → k < groups
    → next ≡ sum_all (values_at (take i pairs) k) +ℤ unwrap_or slot (pos 0)
    → unsigned_abs next ≤ unsigned_abs (sum_all (values_at (take i pairs) k)) + 2 ^ 63
    → SumsTo pairs (i + 1) groups (set sums k next)
sums-more pairs i k groups slot sums next before at low is bound = record {
  each = λ g within. each g within (cases_eq g k);
  small = λ g within. small g within (cases_eq g k);
}
  where
    own : sum_all (values_at (take (i + 1) pairs) k) ≡ next
    own = sum-more pairs i k k slot at ∙ ap (λ b. sum_all (values_at (take i pairs) k)
        +ℤ (if b then unwrap_or slot (pos 0) else pos 0)) (eq-eqb k k refl) ∙ sym is

    other : (g : ℕ) → g ≢ k → sum_all (values_at (take (i + 1) pairs) g) ≡ sum_all (values_at (take i pairs) g)
    other g apart = sum-more pairs i k g slot at ∙ ap (λ b. sum_all (values_at (take i pairs) g)
        +ℤ (if b then unwrap_or slot (pos 0) else pos 0)) (ne_eqb k g (λ e. apart (sym e)))
        ∙ +ℤ_idr (sum_all (values_at (take i pairs) g))

    each : (g : ℕ) → g < groups → (g ≡ k) ⊎ (g ≢ k)
        → slice_get (set sums k next) g ≡ Some (sum_all (values_at (take (i + 1) pairs) g))
    each g within (inl e) =
        let inside : k < length sums = slice_get_within sums k _ (before.each k low) in
        ap (slice_get (set sums k next)) e
        ∙ slice_get-get_or (set sums k next) k next (subst (λ n. k < n) (sym (length-set sums k next)) inside)
        ∙ ap Some (get_or-set_same sums k next next inside) ∙ ap Some (sym own) ∙ ap (λ j. Some (sum_all (values_at (take (i + 1) pairs) j))) (sym e)
    each g within (inr apart) =
        let inside : g < length sums = slice_get_within sums g _ (before.each g within) in
        slice_get-get_or (set sums k next) g next (subst (λ n. g < n) (sym (length-set sums k next)) inside)
        ∙ ap Some (get_or-set_other sums k g next next apart) ∙ sym (slice_get-get_or sums g next inside)
        ∙ before.each g within ∙ ap Some (sym (other g apart))

    small : (g : ℕ) → g < groups → (g ≡ k) ⊎ (g ≢ k)
        → unsigned_abs (sum_all (values_at (take (i + 1) pairs) g)) ≤ (i + 1) * 2 ^ 63
    small g within (inl e) =
        let this : unsigned_abs (sum_all (values_at (take (i + 1) pairs) g)) ≡ unsigned_abs next =
        ap (λ j. unsigned_abs (sum_all (values_at (take (i + 1) pairs) j))) e ∙ ap unsigned_abs own in
        omega (arith, this, before.small k low, bound)
    small g within (inr apart) = omega (arith, ap unsigned_abs (other g apart), before.small g within)

-- ---- the first that does not fit

-- numbers in a row, in two parts
range-split : (a m n : ℕ) → range_with_len a (m + suc n) ≡ range_with_len a m ++ (a + m) ∷ range_with_len (a + m + 1) n
range-split a zero n =
    let all : zero + suc n ≡ suc n = omega arith in
    let here : a ≡ a + 0 = omega arith in
    ap (range_with_len a) all ∙ ap (λ k. k ∷ range_with_len (k + 1) n) here
range-split a (suc m) n =
    let all : suc m + suc n ≡ suc (m + suc n) = omega arith in
    let here : a + 1 + m ≡ a + suc m = omega arith in
    ap (range_with_len a) all ∙ ap (λ is. a ∷ is) (range-split (a + 1) m n
    ∙ ap (λ k. range_with_len (a + 1) m ++ k ∷ range_with_len (k + 1) n) here)

-- no number before one more passes a test that it does not pass
pub none-more : (test : ℕ → Bool) (n : ℕ) → find test (range_with_len 0 n) ≡ None → test n ≡ false
    → find test (range_with_len 0 (n + 1)) ≡ None
none-more test n none fails =
    ap (find test) (range-split 0 n 0 ∙ ap (λ k. range_with_len 0 n ++ k ∷ []) (zero-add n))
    ∙ find-append test (range_with_len 0 n) (n ∷ []) ∙ rw (none, fails) refl

-- a number is the first that passes a test which none before it passes
pub first-found : (test : ℕ → Bool) (g groups : ℕ) → g < groups → find test (range_with_len 0 g) ≡ None → test g ≡ true
    → find test (range_with_len 0 groups) ≡ Some g
first-found test g groups low none passes =
    let rest = groups - g - 1 in
    let all : groups ≡ g + suc rest = omega arith in
    let split = range-split 0 g rest ∙ ap (λ k. range_with_len 0 g ++ k ∷ range_with_len (k + 1) rest) (zero-add g) in
    ap (λ n. find test (range_with_len 0 n)) all ∙ ap (find test) split
    ∙ find-append test (range_with_len 0 g) (g ∷ range_with_len (g + 1) rest) ∙ rw (none, passes) refl

-- a number that passes a test is found, or one before it
pub some-found : (test : ℕ → Bool) (g groups : ℕ) → g < groups → test g ≡ true → IsSome (find test (range_with_len 0 groups))
some-found test g groups low passes =
    let rest = groups - g - 1 in
    let all : groups ≡ g + suc rest = omega arith in
    let split = range-split 0 g rest ∙ ap (λ k. range_with_len 0 g ++ k ∷ range_with_len (k + 1) rest) (zero-add g) in
    let found = ap (λ n. find test (range_with_len 0 n)) all ∙ ap (find test) split
    ∙ find-append test (range_with_len 0 g) (g ∷ range_with_len (g + 1) rest)
    ∙ ap (option_or (find test (range_with_len 0 g))) (rw passes refl) in
    subst IsSome (sym found) (either (find test (range_with_len 0 g)))
  where
    either : (first : Option ℕ) → IsSome (option_or first (Some g))
    either None = refl
    either (Some x) = refl
