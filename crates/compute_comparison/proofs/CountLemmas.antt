-- Lemmas about how many slots are true and how many are null.
use Rattle.std.proofs.Common.{◌≡◌, ◌≢◌, ℕ, ◌+◌, ◌<◌, ◌≤◌, Bool, true, false, not, cond, count_by, List, [], ◌∷◌, length, map}
use Rattle.std.proofs.Common.{Option, Some, None, is_none, refl, sym, ap, ◌∙◌, arith, nat_eq, nat_lt, inl, inr}
use Rattle.std.specs.List.{list_all, list_any}
use Rattle.std.proofs.lemmas.Bool.{cases_eq, cases_lt, lt-ltb, ne_eqb}
use Rattle.std.proofs.lemmas.Bool.Decides.{eqb_tells}
use Rattle.std.proofs.lemmas.List.Sums.{count_by-le-length, sum_by-cons}
use Rattle.arrow_memory.specs.Rows.{Row, slot}
use Rattle.compute_comparison.specs.Kleene.{all_of, any_of, kleene_and, kleene_or}
use Rattle.compute_comparison.specs.Logic.{is_true}

abbrev trues : List (Option Bool) → ℕ
trues xs = count_by is_true xs

abbrev nulls : List (Option Bool) → ℕ
nulls xs = count_by is_none xs

-- one slot more
more_trues : (x : Option Bool) (xs : List (Option Bool)) → trues (x ∷ xs) ≡ cond (is_true x) 1 0 + trues xs
more_trues x xs = sum_by-cons (λ y. cond (is_true y) 1 0) x xs

more_nulls : (x : Option Bool) (xs : List (Option Bool)) → nulls (x ∷ xs) ≡ cond (is_none x) 1 0 + nulls xs
more_nulls x xs = sum_by-cons (λ y. cond (is_none y) 1 0) x xs

-- the clear marks of rows are their nulls
pub clear_nulls : (rows : List (Row Bool)) → count_by not (map (λ row. row.1) rows) ≡ nulls (map slot rows)
clear_nulls [] = refl
clear_nulls ((x, true) ∷ rows) = omega (
  arith,
  clear_nulls rows,
  more_nulls (Some x) (map slot rows),
  sum_by-cons (λ m. cond (not m) 1 0) true (map (λ (row : Row Bool). row.1) rows),
)
clear_nulls ((x, false) ∷ rows) = omega (
  arith,
  clear_nulls rows,
  more_nulls None (map slot rows),
  sum_by-cons (λ m. cond (not m) 1 0) false (map (λ (row : Row Bool). row.1) rows),
)

-- ---- a slot is true, and all are

some_true : (xs : List (Option Bool)) → 0 < trues xs → list_any is_true xs ≡ true
some_true [] some = absurd (omega (arith, some))
some_true (Some true ∷ xs) some = refl
some_true (Some false ∷ xs) some = some_true xs (omega (arith, some, more_trues (Some false) xs))
some_true (None ∷ xs) some = some_true xs (omega (arith, some, more_trues None xs))

none_true : (xs : List (Option Bool)) → trues xs ≡ 0 → list_any is_true xs ≡ false
none_true [] none = refl
none_true (Some true ∷ xs) none = absurd (omega (arith, none, more_trues (Some true) xs))
none_true (Some false ∷ xs) none = none_true xs (omega (arith, none, more_trues (Some false) xs))
none_true (None ∷ xs) none = none_true xs (omega (arith, none, more_trues None xs))

pub any_counted : (xs : List (Option Bool)) (n : ℕ) → n ≡ trues xs → nat_lt 0 n ≡ list_any is_true xs
any_counted xs n is = elim (cases_lt 0 n) [
  | inl some ↦ lt_true n some ∙ sym (some_true xs (omega (arith, some, is)))
  | inr none ↦
      let zero : n ≡ 0 = omega (arith, none) in
      ap (nat_lt 0) zero ∙ sym (none_true xs (omega (arith, none, is)))
]
  where
    lt_true : (n : ℕ) → 0 < n → nat_lt 0 n ≡ true
    lt_true n some = lt-ltb 0 n some

every_true : (xs : List (Option Bool)) → trues xs ≡ length xs → list_all is_true xs ≡ true
every_true [] every = refl
every_true (Some true ∷ xs) every = every_true xs (omega (arith, every, more_trues (Some true) xs))
every_true (Some false ∷ xs) every =
    absurd (omega (arith, every, more_trues (Some false) xs, count_by-le-length is_true xs))
every_true (None ∷ xs) every = absurd (omega (arith, every, more_trues None xs, count_by-le-length is_true xs))

some_other : (xs : List (Option Bool)) → trues xs ≢ length xs → list_all is_true xs ≡ false
some_other [] other = absurd (other refl)
some_other (Some true ∷ xs) other = some_other xs (λ e. other (omega (arith, e, more_trues (Some true) xs)))
some_other (Some false ∷ xs) other = refl
some_other (None ∷ xs) other = refl

pub all_counted : (xs : List (Option Bool)) (n len : ℕ) → n ≡ trues xs → len ≡ length xs
    → nat_eq n len ≡ list_all is_true xs
all_counted xs n len is whole = elim (cases_eq n len) [
  | inl e ↦ ap (nat_eq n) (sym e) ∙ same n ∙ sym (every_true xs (sym is ∙ e ∙ whole))
  | inr apart ↦ ne_eqb n len apart ∙ sym (some_other xs (λ e. apart (is ∙ e ∙ sym whole)))
]
  where
    same : (n : ℕ) → nat_eq n n ≡ true
    same n = elim (eqb_tells n n) [ inl is_same ↦ is_same.0 | inr apart ↦ absurd (apart.1 refl) ]

-- ---- any and all of slots of three values: true, false and null

pub any_some : (xs : List (Option Bool)) → 0 < trues xs → Some true ≡ any_of xs
any_some [] some = absurd (omega (arith, some))
any_some (Some true ∷ xs) some = refl
any_some (Some false ∷ xs) some = any_some xs (omega (arith, some, more_trues (Some false) xs))
any_some (None ∷ xs) some = ap (kleene_or None) (any_some xs (omega (arith, some, more_trues None xs)))

pub any_false : (xs : List (Option Bool)) → trues xs ≡ 0 → nulls xs ≡ 0 → Some false ≡ any_of xs
any_false [] none valid = refl
any_false (Some true ∷ xs) none valid = absurd (omega (arith, none, more_trues (Some true) xs))
any_false (Some false ∷ xs) none valid = any_false xs (omega (arith, none, more_trues (Some false) xs))
    (omega (arith, valid, more_nulls (Some false) xs))
any_false (None ∷ xs) none valid = absurd (omega (arith, valid, more_nulls None xs))

pub any_null : (xs : List (Option Bool)) → trues xs ≡ 0 → 0 < nulls xs → None ≡ any_of xs
any_null [] none some = absurd (omega (arith, some))
any_null (Some true ∷ xs) none some = absurd (omega (arith, none, more_trues (Some true) xs))
any_null (Some false ∷ xs) none some = any_null xs (omega (arith, none, more_trues (Some false) xs))
    (omega (arith, some, more_nulls (Some false) xs))
any_null (None ∷ xs) none some = elim (cases_lt 0 (nulls xs)) [
  | inl more ↦ ap (kleene_or None) (any_null xs (omega (arith, none, more_trues None xs)) more)
  | inr last ↦ ap (kleene_or None) (any_false xs (omega (arith, none, more_trues None xs)) (omega (arith, last)))
]

-- what is true and what is null is no more than there are slots
at_most : (xs : List (Option Bool)) → trues xs + nulls xs ≤ length xs
at_most [] = omega arith
at_most (Some true ∷ xs) = omega (arith, at_most xs, more_trues (Some true) xs, more_nulls (Some true) xs)
at_most (Some false ∷ xs) = omega (arith, at_most xs, more_trues (Some false) xs, more_nulls (Some false) xs)
at_most (None ∷ xs) = omega (arith, at_most xs, more_trues None xs, more_nulls None xs)

pub all_false : (xs : List (Option Bool)) → trues xs + nulls xs < length xs → Some false ≡ all_of xs
all_false [] some = absurd (omega (arith, some))
all_false (Some true ∷ xs) some = all_false xs (omega (
  arith,
  some,
  more_trues (Some true) xs,
  more_nulls (Some true) xs,
))
all_false (Some false ∷ xs) some = refl
all_false (None ∷ xs) some = ap (kleene_and None) (all_false xs (omega (
  arith,
  some,
  more_trues None xs,
  more_nulls None xs,
)))

pub all_true : (xs : List (Option Bool)) → length xs ≤ trues xs + nulls xs → nulls xs ≡ 0 → Some true ≡ all_of xs
all_true [] every valid = refl
all_true (Some true ∷ xs) every valid =
    all_true xs (omega (arith, every, more_trues (Some true) xs, more_nulls (Some true) xs))
    (omega (arith, valid, more_nulls (Some true) xs))
all_true (Some false ∷ xs) every valid = absurd (omega (
  arith,
  every,
  at_most xs,
  more_trues (Some false) xs,
  more_nulls (Some false) xs,
))
all_true (None ∷ xs) every valid = absurd (omega (arith, valid, more_nulls None xs))

pub all_null : (xs : List (Option Bool)) → length xs ≤ trues xs + nulls xs → 0 < nulls xs → None ≡ all_of xs
all_null [] every some = absurd (omega (arith, some))
all_null (Some true ∷ xs) every some =
    all_null xs (omega (arith, every, more_trues (Some true) xs, more_nulls (Some true) xs))
    (omega (arith, some, more_nulls (Some true) xs))
all_null (Some false ∷ xs) every some = absurd (omega (
  arith,
  every,
  at_most xs,
  more_trues (Some false) xs,
  more_nulls (Some false) xs,
))
all_null (None ∷ xs) every some = elim (cases_lt 0 (nulls xs)) [
  | inl more ↦ ap (kleene_and None) (all_null xs left more)
  | inr last ↦ ap (kleene_and None) (all_true xs left (omega (arith, last)))
]
  where
    left : length xs ≤ trues xs + nulls xs
    left = omega (arith, every, more_trues None xs, more_nulls None xs)
