-- Lemmas about sums and about least and greatest values of slots that are looked at one after the other.
use Rattle.std.proofs.Common.{◌≡◌, ℕ, zero, suc, ◌+◌, ◌<◌, ◌≤◌, ◌==◌, ℤ, pos, ◌+ℤ◌, Bool, true, false, not}
use Rattle.std.proofs.Common.{cond, List, [], ◌∷◌, ◌++◌, length, map, take, get_or, Option, Some, None, refl, sym, ap, ◌∙◌}
use Rattle.std.proofs.Common.{◌⊎◌, inl, inr, arith, true≢false, subst, slice_get, unsigned_abs, ◌≢◌, append-nil, eq-eqb, ltb, zero-add}
use Rattle.std.specs.Prelude.{All, Contains, IsTrue, MatchOption, count_by, fold, option_map, unwrap_or}
use Rattle.std.specs.Cmp.{IsTotalOrder}
use Rattle.std.specs.List.{filter_map}
use Rattle.std.specs.Ordering.{bool_cmp, is_gt, is_le, is_lt, ord_max, ord_min, ordering_reverse}
use Rattle.std.specs.declared.cmp.Ordering.{Ordering}
use Rattle.std.specs.declared.cmp.Ordering.TheVariants.{Less, Equal, Greater}
use Rattle.std.proofs.lemmas.Cmp.{tied_itself, upto}
use Rattle.std.proofs.lemmas.List.Elements.{All-cons, All-head, All-nil, All-tail, Contains-append_left, Contains-append_right}
use Rattle.std.proofs.Math.IntN.{+ℤ_idr}
use Rattle.std.proofs.lemmas.Int.{ints}
use Rattle.std.proofs.lemmas.Bool.{cases_eq, cases_lt, le-ltb, lt-ltb, ne_eqb}
use Rattle.std.proofs.lemmas.List.{length-map, take_all, take_more}
use Rattle.std.proofs.lemmas.List.Elements.{All-from_get_or, All-weaker, Contains-push, filter_map-append}
use Rattle.std.proofs.lemmas.List.Sums.{count_by-le-length, fold_more, fold_push, sum_by-cons}
use Rattle.std.proofs.lemmas.Option.{get_or_from_slice_get, same_Some, slice_get_within}
use Rattle.arrow_column.specs.Column.{ColumnWith, marks_of, slots_of}
use Rattle.arrow_memory.specs.Rows.{Row, slot}
use Rattle.compute_aggregate.specs.Aggregates.{IsGreatest, IsLeast, greater_slot, lesser_slot, sum_of, sum_all, valid_values}

abbrev pub valid : {X : Type 0} → List (Option X) → List X
valid slots = filter_map (λ slot. slot) slots

-- ---- the best value by a choice between two

-- one of the values, and it is before each, or the same
pub record Best {X : Type 0} (before : X → X → Bool) (xs : List X) (best : X) : Type 0 where
  pub member : Contains xs best
  pub bound : All (λ x. IsTrue (before best x)) xs

-- what a choice between two values has to be
pub record Chooses {X : Type 0} (before : X → X → Bool) (choose : X → X → X) : Type 0 where
  pub itself : (x : X) → IsTrue (before x x)
  pub one : (x y : X) → (choose x y ≡ x) ⊎ (choose x y ≡ y)
  pub first : (x y z : X) → IsTrue (before z (choose x y)) → IsTrue (before z x)
  pub second : (x y z : X) → IsTrue (before z (choose x y)) → IsTrue (before z y)

-- a value that is there may stand before the slots
abbrev with_first : {X : Type 0} → Option X → List X → List X
with_first None xs = xs
with_first (Some x) xs = x ∷ xs

pub Contains-head : {X : Type 0} (x : X) (xs : List X) → Contains (x ∷ xs) x
Contains-head x xs = Contains-append_left (x ∷ []) xs x (Contains-push [] x)

pub Contains-more : {X : Type 0} (x y : X) (xs : List X) → Contains xs y → Contains (x ∷ xs) y
Contains-more x y xs among = Contains-append_right (x ∷ []) xs y among

module _ {X : Type 0} (before : X → X → Bool) (choose : X → X → X) (chooses : Chooses before choose) where
  pub alone : (x : X) → Best before (x ∷ []) x
  alone x = record {
    member = Contains-head x [];
    bound = All-cons (λ y. IsTrue (before x y)) x [] (chooses.itself x) (All-nil (λ y. IsTrue (before x y)));
  }

  -- the best of a list whose first value was chosen of two is the best of both and the others
  pub of_both : (x y : X) (xs : List X) (best : X) → Best before (choose x y ∷ xs) best → Best before (x ∷ y ∷ xs) best
  of_both x y xs best found = record {
    member = elim (chooses.one x y) [
      | inl e ↦ among (among_first e found.member)
      | inr e ↦ among_second e found.member
    ];
    bound =
        let here = All-head (λ z. IsTrue (before best z)) (choose x y) xs found.bound in
        All-cons (λ z. IsTrue (before best z)) x (y ∷ xs) (chooses.first x y best here)
        (All-cons (λ z. IsTrue (before best z)) y xs (chooses.second x y best here)
        (All-tail (λ z. IsTrue (before best z)) (choose x y) xs found.bound));
  }
    where
      among_second : choose x y ≡ y → Contains (choose x y ∷ xs) best → Contains (x ∷ y ∷ xs) best
      among_second e c = Contains-more x best (y ∷ xs) (subst (λ z. Contains (z ∷ xs) best) e c)

      among_first : choose x y ≡ x → Contains (choose x y ∷ xs) best → Contains (x ∷ xs) best
      among_first e c = subst (λ z. Contains (z ∷ xs) best) e c

      among : Contains (x ∷ xs) best → Contains (x ∷ y ∷ xs) best
      among (zero, low, e) = (zero, omega arith, e)
      among (suc k, low, e) = (suc (suc k), omega arith, e)

  abbrev better : Option X → Option X → Option X
  better None slot = slot
  better (Some x) None = Some x
  better (Some x) (Some y) = Some (choose x y)

  abbrev IsBest : Option X → List X → Type 0
  IsBest result xs = MatchOption result (xs ≡ []) (Best before xs)

  weaker : (result : Option X) (xs ys : List X) → (xs ≡ [] → ys ≡ []) → ((x : X) → Best before xs x → Best before ys x)
      → IsBest result xs → IsBest result ys
  weaker None xs ys none some found = none found
  weaker (Some x) xs ys none some found = some x found

  -- the best of the valid slots, and of the value found before them
  best_from : (first : Option X) (slots : List (Option X)) → IsBest (fold better first slots) (with_first first (valid slots))
  best_from None [] = refl
  best_from (Some x) [] = alone x
  best_from None (None ∷ slots) = best_from None slots
  best_from None (Some y ∷ slots) = best_from (Some y) slots
  best_from (Some x) (None ∷ slots) = best_from (Some x) slots
  best_from (Some x) (Some y ∷ slots) = weaker (fold better (Some (choose x y)) slots) (choose x y ∷ valid slots)
      (x ∷ y ∷ valid slots) (λ e. absurd (cons≢nil e)) (of_both x y (valid slots)) (best_from (Some (choose x y)) slots)
    where
      cons≢nil : choose x y ∷ valid slots ≡ [] → ⊥
      cons≢nil e = cc

-- ---- the lesser and the greater of two values

module _ {X : Type 0} (cmp : X → X → Ordering) (order : IsTotalOrder cmp) where
  le_unless_gt : (o : Ordering) → is_gt o ≡ false → IsTrue (is_le o)
  le_unless_gt Less e = refl
  le_unless_gt Equal e = refl
  le_unless_gt Greater e = absurd (true≢false e)

  not_gt : (o : Ordering) → IsTrue (is_le o) → is_gt o ≡ false
  not_gt Less e = refl
  not_gt Equal e = refl
  not_gt Greater e = absurd (true≢false (sym e))

  le_trans : (x y z : X) → IsTrue (is_le (cmp x y)) → IsTrue (is_le (cmp y z)) → IsTrue (is_le (cmp x z))
  le_trans x y z low high = le_unless_gt (cmp x z) (upto order x y z (not_gt (cmp x y) low) (not_gt (cmp y z) high))

  lt_le : (o : Ordering) → is_lt o ≡ true → IsTrue (is_le o)
  lt_le Less e = refl
  lt_le Equal e = refl
  lt_le Greater e = absurd (true≢false (sym e))

  not_lt_le : (o p : Ordering) → p ≡ ordering_reverse o → is_lt o ≡ false → IsTrue (is_le p)
  not_lt_le Less p e f = absurd (true≢false f)
  not_lt_le Equal p e f = ap is_le e
  not_lt_le Greater p e f = ap is_le e

  -- the lesser value is at most each of the two
  min_is : (x y : X) → (ord_min cmp x y ≡ x) ⊎ (ord_min cmp x y ≡ y)
  min_is x y = by (is_lt (cmp y x))
    where
      by : (b : Bool) → (cond b y x ≡ x) ⊎ (cond b y x ≡ y)
      by true = inr refl
      by false = inl refl

  max_is : (x y : X) → (ord_max cmp x y ≡ x) ⊎ (ord_max cmp x y ≡ y)
  max_is x y = by (is_lt (cmp y x))
    where
      by : (b : Bool) → (cond b x y ≡ x) ⊎ (cond b x y ≡ y)
      by true = inl refl
      by false = inr refl

  first_at_most : (x y : X) → is_lt (cmp y x) ≡ false → IsTrue (is_le (cmp x y))
  first_at_most x y e = not_lt_le (cmp y x) (cmp x y) (order.antisymm x y) e

  pub chooses_min : Chooses (λ best x. is_le (cmp best x)) (ord_min cmp)
  chooses_min = record {
    itself = λ x. ap is_le (tied_itself order x);
    one = min_is;
    first = λ x y z low. below_first x y z (is_lt (cmp y x)) refl low;
    second = λ x y z low. below_second x y z (is_lt (cmp y x)) refl low;
  }
    where
      below_first : (x y z : X) (b : Bool) → is_lt (cmp y x) ≡ b → IsTrue (is_le (cmp z (cond b y x)))
          → IsTrue (is_le (cmp z x))
      below_first x y z true e low = le_trans z y x low (lt_le (cmp y x) e)
      below_first x y z false e low = low

      below_second : (x y z : X) (b : Bool) → is_lt (cmp y x) ≡ b → IsTrue (is_le (cmp z (cond b y x)))
          → IsTrue (is_le (cmp z y))
      below_second x y z true e low = low
      below_second x y z false e low = le_trans z x y low (first_at_most x y e)

  pub chooses_max : Chooses (λ best x. is_le (cmp x best)) (ord_max cmp)
  chooses_max = record {
    itself = λ x. ap is_le (tied_itself order x);
    one = max_is;
    first = λ x y z low. above_first x y z (is_lt (cmp y x)) refl low;
    second = λ x y z low. above_second x y z (is_lt (cmp y x)) refl low;
  }
    where
      above_first : (x y z : X) (b : Bool) → is_lt (cmp y x) ≡ b → IsTrue (is_le (cmp (cond b x y) z))
          → IsTrue (is_le (cmp x z))
      above_first x y z true e low = low
      above_first x y z false e low = le_trans x y z (first_at_most x y e) low

      above_second : (x y z : X) (b : Bool) → is_lt (cmp y x) ≡ b → IsTrue (is_le (cmp (cond b x y) z))
          → IsTrue (is_le (cmp y z))
      above_second x y z true e low = le_trans y x z (lt_le (cmp y x) e) low
      above_second x y z false e low = low

  -- the least and the greatest of the valid slots
  pub least_slot : (slots : List (Option X)) (result : Option X) → result ≡ fold (lesser_slot cmp) None slots
      → MatchOption result (valid slots ≡ []) (IsLeast cmp (valid slots))
  least_slot slots result e = subst (λ r. MatchOption r (valid slots ≡ []) (IsLeast cmp (valid slots))) (sym e)
      (as_least (fold (lesser_slot cmp) None slots) (best_from _ (ord_min cmp) chooses_min None slots))
    where
      as_least : (r : Option X) → MatchOption r (valid slots ≡ []) (Best (λ best x. is_le (cmp best x)) (valid slots))
          → MatchOption r (valid slots ≡ []) (IsLeast cmp (valid slots))
      as_least None found = found
      as_least (Some x) found = record { member = found.member; bound = found.bound }

  pub greatest_slot : (slots : List (Option X)) (result : Option X) → result ≡ fold (greater_slot cmp) None slots
      → MatchOption result (valid slots ≡ []) (IsGreatest cmp (valid slots))
  greatest_slot slots result e = subst (λ r. MatchOption r (valid slots ≡ []) (IsGreatest cmp (valid slots))) (sym e)
      (as_greatest (fold (greater_slot cmp) None slots) (best_from _ (ord_max cmp) chooses_max None slots))
    where
      as_greatest : (r : Option X) → MatchOption r (valid slots ≡ []) (Best (λ best x. is_le (cmp x best)) (valid slots))
          → MatchOption r (valid slots ≡ []) (IsGreatest cmp (valid slots))
      as_greatest None found = found
      as_greatest (Some x) found = record { member = found.member; bound = found.bound }

-- what is seen of the lesser and the greater of two items
module _ {A X : Type 0} (seen : A → X) (cmp : X → X → Ordering) where
  seen_choice : (b : Bool) (x y : A) → seen (cond b x y) ≡ cond b (seen x) (seen y)
  seen_choice true x y = refl
  seen_choice false x y = refl

  pub lesser_seen : (a b : Option A) → option_map seen (lesser_slot (λ x y. cmp (seen x) (seen y)) a b)
      ≡ lesser_slot cmp (option_map seen a) (option_map seen b)
  lesser_seen None b = refl
  lesser_seen (Some x) None = refl
  lesser_seen (Some x) (Some y) = ap Some (seen_choice (is_lt (cmp (seen y) (seen x))) y x)

  pub greater_seen : (a b : Option A) → option_map seen (greater_slot (λ x y. cmp (seen x) (seen y)) a b)
      ≡ greater_slot cmp (option_map seen a) (option_map seen b)
  greater_seen None b = refl
  greater_seen (Some x) None = refl
  greater_seen (Some x) (Some y) = ap Some (seen_choice (is_lt (cmp (seen y) (seen x))) x y)

  pub seen_least : IsTotalOrder cmp → (slots : List (Option X)) (result : Option A)
      → option_map seen result ≡ fold (lesser_slot cmp) None slots
      → MatchOption result (valid slots ≡ []) (λ x. IsLeast cmp (valid slots) (seen x))
  seen_least order slots None e = least_slot cmp order slots None e
  seen_least order slots (Some x) e = least_slot cmp order slots (Some (seen x)) e

  pub seen_greatest : IsTotalOrder cmp → (slots : List (Option X)) (result : Option A)
      → option_map seen result ≡ fold (greater_slot cmp) None slots
      → MatchOption result (valid slots ≡ []) (λ x. IsGreatest cmp (valid slots) (seen x))
  seen_greatest order slots None e = greatest_slot cmp order slots None e
  seen_greatest order slots (Some x) e = greatest_slot cmp order slots (Some (seen x)) e

-- one slot more
pub slot_more : {X Y : Type 0} (f : Y → Option X → Y) (a : Y) (slots : List (Option X)) (i : ℕ) (slot : Option X)
    → slice_get slots i ≡ Some slot → f (fold f a (take i slots)) slot ≡ fold f a (take (i + 1) slots)
slot_more f a slots i slot at =
    ap (f (fold f a (take i slots))) (sym (get_or_from_slice_get slots i slot None at))
    ∙ sym (fold_more f a slots i None (slice_get_within slots i slot at))

pub step_more : {X Y : Type 0} (f : Y → Option X → Y) (a next : Y) (slots : List (Option X)) (i : ℕ)
    → option_map (f (fold f a (take i slots))) (slice_get slots i) ≡ Some next → next ≡ fold f a (take (i + 1) slots)
step_more f a next slots i = by_slot (slice_get slots i) refl
  where
    by_slot : (o : Option (Option _)) → slice_get slots i ≡ o → option_map (f (fold f a (take i slots))) o ≡ Some next
        → next ≡ fold f a (take (i + 1) slots)
    by_slot None at e = cc
    by_slot (Some slot) at e = sym (same_Some (f (fold f a (take i slots)) slot) next e) ∙ slot_more f a slots i slot at

-- and all of them
pub all_slots : {A S : Type 0} (column : ColumnWith A S) (n i : ℕ) → n ≡ length column.rows → n ≤ i
    → take i (slots_of column) ≡ slots_of column
all_slots column n i e past = take_all i (slots_of column) (omega (arith, e, past, length-map column.rows slot))

-- ---- sums

pub valid_more : {X : Type 0} (slots : List (Option X)) (i : ℕ) (slot : Option X) → slice_get slots i ≡ Some slot
    → valid (take (i + 1) slots) ≡ valid (take i slots) ++ valid (slot ∷ [])
valid_more slots i slot at =
    ap valid (take_more slots i None (slice_get_within slots i slot at)
    ∙ ap (λ s. take i slots ++ s ∷ []) (get_or_from_slice_get slots i slot None at))
    ∙ filter_map-append (λ s. s) (take i slots) (slot ∷ [])

total_slot : (slots : List (Option ℤ)) (i : ℕ) (slot : Option ℤ) → slice_get slots i ≡ Some slot
    → sum_all (valid (take i slots)) +ℤ unwrap_or slot (pos 0) ≡ sum_all (valid (take (i + 1) slots))
total_slot slots i (Some x) at = sym (ap sum_all (valid_more slots i (Some x) at)
    ∙ fold_push (λ sum y. sum +ℤ y) (pos 0) (valid (take i slots)) x)
total_slot slots i None at = +ℤ_idr (sum_all (valid (take i slots)))
    ∙ sym (ap sum_all (valid_more slots i None at ∙ append-nil (valid (take i slots))))

pub total_more : (slots : List (Option ℤ)) (i : ℕ) (value : ℤ)
    → option_map (λ slot. unwrap_or slot (pos 0)) (slice_get slots i) ≡ Some value
    → sum_all (valid (take i slots)) +ℤ value ≡ sum_all (valid (take (i + 1) slots))
total_more slots i value = by_slot (slice_get slots i) refl
  where
    by_slot : (o : Option (Option ℤ)) → slice_get slots i ≡ o
        → option_map (λ slot. unwrap_or slot (pos 0)) o ≡ Some value
        → sum_all (valid (take i slots)) +ℤ value ≡ sum_all (valid (take (i + 1) slots))
    by_slot None at e = cc
    by_slot (Some slot) at e = ap (λ v. sum_all (valid (take i slots)) +ℤ v)
        (sym (same_Some (unwrap_or slot (pos 0)) value e)) ∙ total_slot slots i slot at

pub sum_of_some : (xs : List ℤ) → 0 < length xs → Some (sum_all xs) ≡ sum_of xs
sum_of_some [] some = absurd (omega arith)
sum_of_some (x ∷ xs) some = refl

-- the size of a sum
pub size_of_sum : (a b : ℤ) → unsigned_abs (a +ℤ b) ≤ unsigned_abs a + unsigned_abs b
size_of_sum a b = omega (arith, ints)

-- ---- how many slots are valid, and how many values are true

null_and_valid : {X : Type 0} (rows : List (Row X))
    → count_by not (map (λ row. row.1) rows) + length (valid (map slot rows)) ≡ length rows
null_and_valid [] = refl
null_and_valid ((x, true) ∷ rows) = omega (
  arith,
  sum_by-cons (λ m. cond (not m) 1 0) true (map (λ (row : Row _). row.1) rows),
  null_and_valid rows,
)
null_and_valid ((x, false) ∷ rows) = omega (
  arith,
  sum_by-cons (λ m. cond (not m) 1 0) false (map (λ (row : Row _). row.1) rows),
  null_and_valid rows,
)

pub count_valid : {A S : Type 0} (column : ColumnWith A S)
    → count_by not (marks_of column) + length (valid_values column) ≡ length column.rows
count_valid column = null_and_valid column.rows

abbrev trues : List Bool → ℕ
trues xs = count_by (λ mark. mark) xs

trues-cons : (x : Bool) (xs : List Bool) → trues (x ∷ xs) ≡ cond x 1 0 + trues xs
trues-cons x xs = sum_by-cons (λ m. cond m 1 0) x xs

-- how many slots are valid and true
abbrev pub true_count : List (Option Bool) → ℕ
true_count slots = count_by (λ slot. unwrap_or slot false) slots

true_count-cons : (slot : Option Bool) (slots : List (Option Bool))
    → true_count (slot ∷ slots) ≡ cond (unwrap_or slot false) 1 0 + true_count slots
true_count-cons slot slots = sum_by-cons (λ (s : Option Bool). cond (unwrap_or s false) 1 0) slot slots

pub true_slots : (slots : List (Option Bool)) → true_count slots ≡ trues (valid slots)
true_slots [] = refl
true_slots (None ∷ slots) = true_count-cons None slots ∙ ap (λ n. 0 + n) (true_slots slots) ∙ zero-add (trues (valid slots))
true_slots (Some x ∷ slots) = true_count-cons (Some x) slots ∙ ap (λ n. cond x 1 0 + n) (true_slots slots)
    ∙ sym (trues-cons x (valid slots))

all_true : (xs : List Bool) → trues xs ≡ length xs → All (λ x. x ≡ true) xs
all_true [] e = All-nil (λ x. x ≡ true)
all_true (true ∷ xs) e = All-cons (λ x. x ≡ true) true xs refl (all_true xs (omega (arith, e, trues-cons true xs)))
all_true (false ∷ xs) e = absurd (omega (arith, e, trues-cons false xs, count_by-le-length (λ (x : Bool). x) xs))

some_false : (xs : List Bool) → trues xs ≢ length xs → Contains xs false
some_false [] ne = absurd (ne refl)
some_false (false ∷ xs) ne = Contains-head false xs
some_false (true ∷ xs) ne =
    let less : trues xs ≢ length xs = omega (arith, ne, trues-cons true xs) in
    Contains-more true false xs (some_false xs less)

some_true : (xs : List Bool) → 0 < trues xs → Contains xs true
some_true [] some = absurd (omega arith)
some_true (true ∷ xs) some = Contains-head true xs
some_true (false ∷ xs) some = Contains-more false true xs (some_true xs (omega (arith, some, trues-cons false xs)))

none_true : (xs : List Bool) → trues xs ≡ 0 → All (λ x. x ≡ false) xs
none_true [] e = All-nil (λ x. x ≡ false)
none_true (true ∷ xs) e = absurd (omega (arith, e, trues-cons true xs))
none_true (false ∷ xs) e = All-cons (λ x. x ≡ false) false xs refl (none_true xs (omega (arith, e, trues-cons false xs)))

from_false : (x : Bool) → IsTrue (is_le (bool_cmp false x))
from_false true = refl
from_false false = refl

to_true : (x : Bool) → IsTrue (is_le (bool_cmp x true))
to_true true = refl
to_true false = refl

pub least_truth : (xs : List Bool) → 0 < length xs → IsLeast bool_cmp xs (trues xs == length xs)
least_truth xs some = elim (cases_eq (trues xs) (length xs)) [
  | inl e ↦ subst (IsLeast bool_cmp xs) (sym (eq-eqb (trues xs) (length xs) e)) (record {
    member = All_one xs some (all_true xs e);
    bound = All-weaker (λ x. x ≡ true) (λ x. IsTrue (is_le (bool_cmp true x))) (λ x t. ap (λ y. is_le (bool_cmp true y)) t) xs
        (all_true xs e);
  })
  | inr ne ↦ subst (IsLeast bool_cmp xs) (sym (ne_eqb (trues xs) (length xs) ne)) (record {
    member = some_false xs ne;
    bound = All-from_get_or (λ x. IsTrue (is_le (bool_cmp false x))) xs false (λ i low. from_false (get_or xs i false));
  })
]
  where
    All_one : (xs : List Bool) → 0 < length xs → All (λ x. x ≡ true) xs → Contains xs true
    All_one xs some all = (0, some, all 0 true some)

pub greatest_truth : (xs : List Bool) → 0 < length xs → IsGreatest bool_cmp xs (ltb 0 (trues xs))
greatest_truth xs some = elim (cases_lt 0 (trues xs)) [
  | inl lt ↦ subst (IsGreatest bool_cmp xs) (sym (lt-ltb 0 (trues xs) lt)) (record {
    member = some_true xs lt;
    bound = All-from_get_or (λ x. IsTrue (is_le (bool_cmp x true))) xs false (λ i low. to_true (get_or xs i false));
  })
  | inr none ↦
      let zero_true : trues xs ≡ 0 = omega (arith, none) in
      subst (IsGreatest bool_cmp xs) (sym (le-ltb 0 (trues xs) none)) (record {
        member = (0, some, none_true xs zero_true 0 false some);
        bound = All-weaker (λ x. x ≡ false) (λ x. IsTrue (is_le (bool_cmp x false))) (λ x f. ap (λ y. is_le (bool_cmp y false)) f) xs
            (none_true xs zero_true);
      })
]
