-- Lemmas about sums of integers whose accumulators wrap: they are exact where no sum on the way can be too great.
use Rattle.std.proofs.Common.{◌≡◌, ℕ, ◌+◌, ◌*◌, ◌^◌, ◌<◌, ◌≤◌, ◌&&◌, suc, Bool, true}
use Rattle.std.proofs.Common.{ℤ, pos, negsuc, ◌+ℤ◌, ◌-ℤ◌, ◌*ℤ◌, if◌then◌else◌, List, [], ◌∷◌, length, map, Option, Some, None, refl, sym, ap, ap₂}
use Rattle.std.proofs.Common.{◌∙◌, arith, subst, unsigned_abs, unwrap_or, add_comm, append-nil, take, slice_get}
use Rattle.std.specs.Prelude.{FitsSigned, fold, nat_le, option_map}
use Rattle.std.specs.Int.{Width, int_wrap, w64, w128}
use mir.Val.{hbits}
use Rattle.std.proofs.lemmas.Bool.{and_parts, leb-true}
use Rattle.std.proofs.lemmas.Int.{fits_signed_from_abs, int_wrap_fits, ints}
use Rattle.std.proofs.lemmas.List.{length-map, map-append}
use Rattle.std.proofs.lemmas.List.Sums.{fold_push}
use Rattle.std.proofs.lemmas.Option.{same_Some}
use Rattle.std.proofs.lemmas.List.Folds.{fold-map}
use Rattle.std.proofs.Math.IntN.{+ℤ_idr}
use Rattle.std.proofs.Math.Nat.{suc-mul}
use Rattle.compute_aggregate.specs.Aggregates.{sum_all}
use Rattle.compute_aggregate.specs.Sums.{add_halves, add_small, high_half, is_wide, low_half, number_or_zero, of_halves, sum_split}
use Rattle.compute_aggregate.proofs.AggregateLemmas.{size_of_sum, valid, valid_more}

-- from a sum before
abbrev pub sum_from : ℤ → List ℤ → ℤ
sum_from s zs = fold (λ sum z. sum +ℤ z) s zs

module _ (w : Width) (m : ℕ) where
  next_many : (n : ℕ) → suc n * m ≡ m + n * m
  next_many n = suc-mul n m ∙ add_comm (n * m) m

  all_small : (zs : List ℤ) (state : ℤ × Bool) → (fold (add_small w m) state zs).1 ≡ true → state.1 ≡ true
  all_small [] state e = e
  all_small (z ∷ zs) state e =
      (and_parts state.1 (nat_le (unsigned_abs z) m) (all_small zs (add_small w m state z) e)).0

  one_small : (z s : ℤ) (b : Bool) (n : ℕ) → nat_le (unsigned_abs z) m ≡ true
      → unsigned_abs s + suc n * m < 2 ^ hbits w → add_small w m (s, b) z ≡ (s +ℤ z, b && true)
  one_small z s b n e small =
      let low = leb-true (unsigned_abs z) m e in
      let wide = next_many n in
      let fits : unsigned_abs (s +ℤ z) < 2 ^ hbits w = omega (arith, low, small, wide, size_of_sum s z) in
      ap (λ t. (int_wrap w (s +ℤ (if t then z else pos 0)), b && t)) e
      ∙ ap (λ t. (t, b && true)) (int_wrap_fits w (s +ℤ z) (fits_signed_from_abs w (s +ℤ z) fits))

  pub sum_small : (zs : List ℤ) (s : ℤ) (b : Bool) → (fold (add_small w m) (s, b) zs).1 ≡ true
      → unsigned_abs s + length zs * m < 2 ^ hbits w → (fold (add_small w m) (s, b) zs).0 ≡ sum_from s zs
  sum_small [] s b e small = refl
  sum_small (z ∷ zs) s b e small =
      let flag = (and_parts b (nat_le (unsigned_abs z) m) (all_small zs (add_small w m (s, b) z) e)).1 in
      let low = leb-true (unsigned_abs z) m flag in
      let wide = next_many (length zs) in
      let one = one_small z s b (length zs) flag small in
      ap (λ state. (fold (add_small w m) state zs).0) one
      ∙ sum_small zs (s +ℤ z) (b && true) (ap (λ state. (fold (add_small w m) state zs).1) (sym one) ∙ e)
      (omega (arith, low, small, wide, size_of_sum s z))

-- ---- the numbers of the valid slots, and zero for each null

module _ {T : Type 0} (number : T → ℤ) (zero_value : T) (is_zero : number zero_value ≡ pos 0) where
  pub sum_valid : (slots : List (Option T)) (s : ℤ)
      → sum_from s (map number (map (λ slot. unwrap_or slot zero_value) slots)) ≡ sum_from s (map number (valid slots))
  sum_valid [] s = refl
  sum_valid (None ∷ slots) s =
      ap (λ t. sum_from t (map number (map (λ slot. unwrap_or slot zero_value) slots))) (ap (λ z. s +ℤ z) is_zero ∙ +ℤ_idr s)
      ∙ sum_valid slots s
  sum_valid (Some x ∷ slots) s = sum_valid slots (s +ℤ number x)

-- a sum of small numbers that says that it is one is the sum of the valid slots
pub small_total : {T : Type 0} (w : Width) (m : ℕ) (number : T → ℤ) (zero_value : T) (slots : List (Option T))
    (result : ℤ × Bool) → number zero_value ≡ pos 0
    → result ≡ fold (λ state x. add_small w m state (number x)) (pos 0, true) (map (λ slot. unwrap_or slot zero_value) slots)
    → result.1 ≡ true → length slots * m < 2 ^ hbits w → result.0 ≡ sum_all (map number (valid slots))
small_total w m number zero_value slots result is_zero is exact small =
    let values : List _ = map (λ slot. unwrap_or slot zero_value) slots in
    let folded : result ≡ fold (add_small w m) (pos 0, true) (map number values) =
    is ∙ sym (fold-map (add_small w m) number (pos 0, true) values) in
    let long : length (map number values) ≡ length slots =
    length-map values number ∙ length-map slots (λ slot. unwrap_or slot zero_value) in
    ap (λ state. state.0) folded
    ∙ sum_small w m (map number values) (pos 0) true (ap (λ state. state.1) (sym folded) ∙ exact)
    (subst (λ n. 0 + n * m < 2 ^ hbits w) (sym long) (omega (arith, small)))
    ∙ sum_valid number zero_value is_zero slots (pos 0)

-- ---- sums of halves

pub high_size : (z : ℤ) → unsigned_abs z ≤ 2 ^ 64 → unsigned_abs (high_half z) ≤ 2 ^ 32
high_size (pos a) small = omega (arith, small)
high_size (negsuc a) small = omega (arith, small)

pub low_size : (z : ℤ) → unsigned_abs z ≤ 2 ^ 64 → unsigned_abs (low_half z) ≤ 2 ^ 32
low_size (pos a) small = omega (arith, ints, small)
low_size (negsuc a) small = omega (arith, ints, small)

all_wide : (zs : List ℤ) (state : (ℤ × ℤ) × Bool) → (fold add_halves state zs).1 ≡ true → state.1 ≡ true
all_wide [] state e = e
all_wide (z ∷ zs) state e = (and_parts state.1 (is_wide z) (all_wide zs (add_halves state z) e)).0

-- one more half fits in 64 bits
half_fits : (s z : ℤ) (n : ℕ) → unsigned_abs z ≤ 2 ^ 32 → unsigned_abs s + suc n * 2 ^ 32 < 2 ^ 63
    → int_wrap w64 (s +ℤ z) ≡ s +ℤ z
half_fits s z n low small = int_wrap_fits w64 (s +ℤ z) (fits_signed_from_abs w64 (s +ℤ z)
    (omega (arith, low, small, size_of_sum s z)))

one_wide : (z h l : ℤ) (b : Bool) (n : ℕ) → is_wide z ≡ true → unsigned_abs h + suc n * 2 ^ 32 < 2 ^ 63
    → unsigned_abs l + suc n * 2 ^ 32 < 2 ^ 63
    → add_halves ((h, l), b) z ≡ ((h +ℤ high_half z, l +ℤ low_half z), b && true)
one_wide z h l b n e high low =
    let size = leb-true (unsigned_abs z) (2 ^ 64) e in
    ap (λ t. ((int_wrap w64 (h +ℤ high_half (if t then z else pos 0)), int_wrap w64 (l +ℤ low_half (if t then z else pos 0))), b && t)) e
    ∙ ap₂ (λ s t. ((s, t), b && true)) (half_fits h (high_half z) n (high_size z size) high)
    (half_fits l (low_half z) n (low_size z size) low)

joined_halves : (h l z : ℤ) → of_halves (h +ℤ high_half z, l +ℤ low_half z) ≡ of_halves (h, l) +ℤ z
joined_halves h l z = joined h l (high_half z) z
  where
    joined : (h l high z : ℤ) → (h +ℤ high) *ℤ pos (2 ^ 32) +ℤ (l +ℤ (z -ℤ high *ℤ pos (2 ^ 32)))
        ≡ h *ℤ pos (2 ^ 32) +ℤ l +ℤ z
    joined h l high z = omega (arith, ints)

sum_wide : (zs : List ℤ) (h l : ℤ) (b : Bool) → (fold add_halves ((h, l), b) zs).1 ≡ true
    → unsigned_abs h + length zs * 2 ^ 32 < 2 ^ 63 → unsigned_abs l + length zs * 2 ^ 32 < 2 ^ 63
    → of_halves (fold add_halves ((h, l), b) zs).0 ≡ sum_from (of_halves (h, l)) zs
sum_wide [] h l b e high low = refl
sum_wide (z ∷ zs) h l b e high low =
    let flag = (and_parts b (is_wide z) (all_wide zs (add_halves ((h, l), b) z) e)).1 in
    let size = leb-true (unsigned_abs z) (2 ^ 64) flag in
    let one = one_wide z h l b (length zs) flag high low in
    ap (λ state. of_halves (fold add_halves state zs).0) one
    ∙ sum_wide zs (h +ℤ high_half z) (l +ℤ low_half z) (b && true) (ap (λ state. (fold add_halves state zs).1) (sym one) ∙ e)
    (omega (arith, high, high_size z size, size_of_sum h (high_half z)))
    (omega (arith, low, low_size z size, size_of_sum l (low_half z)))
    ∙ ap (λ s. sum_from s zs) (joined_halves h l z)

-- a sum of halves that says that it is one is the sum of the valid slots
pub halves_total : {T : Type 0} (number : T → ℤ) (zero_value : T) (slots : List (Option T)) (result : (ℤ × ℤ) × Bool)
    → number zero_value ≡ pos 0
    → result ≡ fold (λ state x. add_halves state (number x)) ((pos 0, pos 0), true) (map (λ slot. unwrap_or slot zero_value) slots)
    → result.1 ≡ true → length slots < 2 ^ 30 → of_halves result.0 ≡ sum_all (map number (valid slots))
halves_total number zero_value slots result is_zero is exact few =
    let values : List _ = map (λ slot. unwrap_or slot zero_value) slots in
    let folded : result ≡ fold add_halves ((pos 0, pos 0), true) (map number values) =
    is ∙ sym (fold-map add_halves number ((pos 0, pos 0), true) values) in
    let long : length (map number values) ≡ length slots =
    length-map values number ∙ length-map slots (λ slot. unwrap_or slot zero_value) in
    let small : 0 + length (map number values) * 2 ^ 32 < 2 ^ 63 =
    subst (λ n. 0 + n * 2 ^ 32 < 2 ^ 63) (sym long) (omega (arith, few)) in
    ap (λ state. of_halves state.0) folded
    ∙ sum_wide (map number values) (pos 0) (pos 0) true (ap (λ state. state.1) (sym folded) ∙ exact) small small
    ∙ sum_valid number zero_value is_zero slots (pos 0)

-- one slot more
module _ {T : Type 0} (number : T → ℤ) where
  pub number_more : (slots : List (Option T)) (i : ℕ) (value : ℤ)
      → option_map (number_or_zero number) (slice_get slots i) ≡ Some value
      → sum_all (map number (valid (take i slots))) +ℤ value ≡ sum_all (map number (valid (take (i + 1) slots)))
  number_more slots i value = by_slot (slice_get slots i) refl
    where
      before : List T
      before = valid (take i slots)

      by_slot : (o : Option (Option T)) → slice_get slots i ≡ o → option_map (number_or_zero number) o ≡ Some value
          → sum_all (map number before) +ℤ value ≡ sum_all (map number (valid (take (i + 1) slots)))
      by_slot None at e = cc
      by_slot (Some None) at e = ap (λ v. sum_all (map number before) +ℤ v) (sym (same_Some (pos 0) value e))
          ∙ +ℤ_idr (sum_all (map number before))
          ∙ ap (λ xs. sum_all (map number xs)) (sym (valid_more slots i None at ∙ append-nil before))
      by_slot (Some (Some x)) at e = ap (λ v. sum_all (map number before) +ℤ v) (sym (same_Some (number x) value e))
          ∙ sym (fold_push (λ sum y. sum +ℤ y) (pos 0) (map number before) (number x))
          ∙ ap sum_all (sym (map-append number before (x ∷ [])))
          ∙ ap (λ xs. sum_all (map number xs)) (sym (valid_more slots i (Some x) at))

-- the sum of high and low parts
pub split_more : (h s : ℤ) (l p : ℕ) → sum_split (h, l) +ℤ sum_split (s, p) ≡ sum_split (h +ℤ s, l + p)
split_more h s l p = omega (arith, ints)

pub split_step : {T : Type 0} (number : T → ℤ) (slots : List (Option T)) (i : ℕ) (high part next value fitted : ℤ) (low p : ℕ)
    → next ≡ high +ℤ part → fitted ≡ value → sum_split (high, low) ≡ sum_all (map number (valid (take i slots)))
    → sum_split (part, p) ≡ fitted → option_map (number_or_zero number) (slice_get slots i) ≡ Some value
    → sum_split (next, low + p) ≡ sum_all (map number (valid (take (i + 1) slots)))
split_step number slots i high part next value fitted low p is_next is_value before parts at =
    ap (λ h. sum_split (h, low + p)) is_next ∙ sym (split_more high part low p) ∙ ap₂ ◌+ℤ◌ before (parts ∙ is_value)
    ∙ number_more number slots i value at

-- the size of a high part more
pub high_step : (high part next : ℤ) (i : ℕ) → next ≡ high +ℤ part → unsigned_abs high ≤ i * 2 ^ 63
    → unsigned_abs part ≤ 2 ^ 63 → unsigned_abs next ≤ (i + 1) * 2 ^ 63
high_step high part next i e before small = omega (arith, ap unsigned_abs e, size_of_sum high part, before, small)

-- a high part more fits in 128 bits
pub high_fits : (high part : ℤ) (i : ℕ) → unsigned_abs high ≤ i * 2 ^ 63 → unsigned_abs part ≤ 2 ^ 63 → i + 1 < 2 ^ 64
    → FitsSigned w128 (high +ℤ part)
high_fits high part i before small low = fits_signed_from_abs w128 (high +ℤ part)
    (omega (arith, size_of_sum high part, before, small, low))
