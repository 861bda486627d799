-- How many of the inner offsets lie before the end of a window.
use Rattle.std.proofs.Common.{◌≡◌, ℕ, zero, suc, ◌+◌, ◌-◌, ◌<◌, ◌≤◌, Bool, true, false, List, length, take, drop}
use Rattle.std.proofs.Common.{get_or, refl, sym, ap, ◌∙◌, arith, length-take, length-drop, inl, inr}
use Rattle.std.specs.Prelude.{count_by, nat_lt}
use Rattle.std.proofs.lemmas.Bool.{cases_lt}
use Rattle.std.proofs.lemmas.Bool.Decides.{nat_tests}
use Rattle.std.proofs.lemmas.List.{get_or-take, get_or-drop, take_all}
use Rattle.std.proofs.lemmas.List.Sums.{count_by_more_yes, count_by_more_no}
use Rattle.arrow_memory.specs.Offsets.{last_of, IsOffsets}
use Rattle.arrow_check.specs.Windows.{inner_of, inner_before_end}

-- how many of the first n inner offsets lie before the end
abbrev pub inner_before : ℕ → List ℕ → ℕ
inner_before n offsets = count_by (λ offset. nat_lt offset (last_of offsets)) (take n (inner_of offsets))

length-inner : (offsets : List ℕ) → length (inner_of offsets) ≡ length offsets - 2
length-inner offsets = simp (length-take, length-drop) (omega arith)

inner-at : (offsets : List ℕ) (n : ℕ) → n + 2 < length offsets
    → get_or (inner_of offsets) n 0 ≡ get_or offsets (n + 1) 0
inner-at offsets n more =
    get_or-take (length offsets - 2) (drop 1 offsets) n 0 (omega arith)
    ∙ get_or-drop 1 offsets n 0
    ∙ ap (λ k. get_or offsets k 0) (let e : 1 + n ≡ n + 1 = omega arith in e)

below-true : (a b : ℕ) → a < b → nat_lt a b ≡ true
below-true a b low = grind (arith, nat_tests)

above-false : (a b : ℕ) → b ≤ a → nat_lt a b ≡ false
above-false a b high = grind (arith, nat_tests)

pub inner-more : (offsets : List ℕ) (n : ℕ) → n + 2 < length offsets → get_or offsets (n + 1) 0 < last_of offsets
    → inner_before (n + 1) offsets ≡ inner_before n offsets + 1
inner-more offsets n more low =
    let p : ℕ → Bool = λ offset. nat_lt offset (last_of offsets) in
    count_by_more_yes p (inner_of offsets) n 0 (omega (arith, length-inner offsets)) (ap p (inner-at offsets n more)
    ∙ below-true _ _ low)

pub inner-no-more : (offsets : List ℕ) (n : ℕ) → n + 2 < length offsets → last_of offsets ≤ get_or offsets (n + 1) 0
    → inner_before (n + 1) offsets ≡ inner_before n offsets
inner-no-more offsets n more high =
    let p : ℕ → Bool = λ offset. nat_lt offset (last_of offsets) in
    count_by_more_no p (inner_of offsets) n 0 (omega (arith, length-inner offsets)) (ap p (inner-at offsets n more)
    ∙ above-false _ _ high)

pub inner-all : (offsets : List ℕ) (n : ℕ) → length offsets ≤ n + 2 → inner_before n offsets ≡ inner_before_end offsets
inner-all offsets n past = ap (count_by (λ offset. nat_lt offset (last_of offsets)))
    (take_all n (inner_of offsets) (omega (arith, length-inner offsets)))

-- those up to a place lie before the end
up-to : (offsets : List ℕ) (n : ℕ) → n + 2 ≤ length offsets
    → ((k : ℕ) → 0 < k → k ≤ n → get_or offsets k 0 < last_of offsets) → inner_before n offsets ≡ n
up-to offsets zero within early = refl
up-to offsets (suc n) within early =
    let so_far = up-to offsets n (omega arith) (λ k some few. early k some (omega arith)) in
    let one = inner-more offsets n (omega arith) (early (n + 1) (omega arith) (omega arith)) in
    let e : suc n ≡ n + 1 = omega arith in
    ap (λ k. inner_before k offsets) e ∙ one ∙ ap (λ k. k + 1) so_far ∙ sym e

-- and none behind it does
from-on : (offsets : List ℕ) (n m : ℕ) → IsOffsets offsets
    → (n + 2 < length offsets → last_of offsets ≤ get_or offsets (n + 1) 0) → n + m + 2 ≤ length offsets
    → inner_before (n + m) offsets ≡ inner_before n offsets
from-on offsets n zero legal far within = ap (λ k. inner_before k offsets) (let e : n + 0 ≡ n = omega arith in e)
from-on offsets n (suc m) legal far within =
    let so_far = from-on offsets n m legal far (omega arith) in
    let low = far (omega arith) in
    let up = legal.order (n + 1) (n + m + 1) (omega arith) (omega arith) in
    let e : n + suc m ≡ n + m + 1 = omega arith in
    ap (λ k. inner_before k offsets) e ∙ inner-no-more offsets (n + m) (omega arith) (omega (arith, low, up)) ∙ so_far

-- so many are looked at
pub inner-count : (offsets : List ℕ) (n : ℕ) → IsOffsets offsets → n ≤ length offsets - 2
    → ((k : ℕ) → 0 < k → k ≤ n → get_or offsets k 0 < last_of offsets)
    → (n + 2 < length offsets → last_of offsets ≤ get_or offsets (n + 1) 0) → n ≡ inner_before_end offsets
inner-count offsets n legal most early far =
    elim (cases_lt (length offsets) (n + 2)) [
      | inl few ↦ (
          let none : n ≡ 0 = omega arith in
          none ∙ sym (sym (inner-all offsets 0 (omega arith)) ∙ refl))
      | inr many ↦ (
          let rest = length offsets - (n + 2) in
          sym (up-to offsets n many early)
          ∙ sym (from-on offsets n rest legal far (omega arith))
          ∙ inner-all offsets (n + rest) (omega arith))
    ]
