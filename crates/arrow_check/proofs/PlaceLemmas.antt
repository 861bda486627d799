-- Lemmas about the first element of a list that passes a test, and about items by index.
use Rattle.std.proofs.Common.{◌≡◌, ℕ, zero, suc, ◌+◌, ◌-◌, ◌<◌, ◌≤◌, ℤ, pos, negsuc, ◌<ℤ◌, Bool, true, false, cond}
use Rattle.std.proofs.Common.{nat_lt, List, [], ◌∷◌, length, map, get_or, slice_get, Some, None, option_map, refl, sym}
use Rattle.std.proofs.Common.{subst, ap, ap₂, ◌∙◌, arith, drop, inl, inr, min, take, ◌⊎◌, ◌↔◌, ◌≤ℤ◌}
use Rattle.std.specs.Prelude.{if◌then◌else◌, int_lt, IsSomeAnd, IsTrue, IsUtf8, not, position, slice_range}
use Rattle.std.specs.List.{All, position_or_len, zip}
use Rattle.std.proofs.lemmas.Bool.{cases_lt, false≢true, le-ltb, lt-ltb, or_from, or_parts}
use Rattle.std.proofs.lemmas.Int.{ints}
use Rattle.std.proofs.lemmas.List.{drop_all, length-drop, take_all}
use Rattle.std.proofs.lemmas.List.Elements.{All-cons, All-head, All-more, All-nil, All-tail}
use Rattle.std.proofs.lemmas.List.Sums.{fails_before_first}
use Rattle.std.proofs.lemmas.Option.{get_or_from_slice_get, slice_get-map, slice_get_read, slice_get_within}
use Rattle.arrow_types.proofs.CallerLemmas.{get-zip, no-faults, no-second_fault}
use Rattle.arrow_memory.specs.Offsets.{falls_after, first_fault}
use Rattle.arrow_check.specs.Pieces.{items_after, items_of}
use Rattle.arrow_check.specs.Places.{falls, first_fall, IsFirstUnfit, steps_of}
use Rattle.arrow_check.specs.Texts.{AreTexts}
use Rattle.arrow_check.specs.Utf8.{IsWellFormed}
use Rattle.arrow_check.proofs.Utf8Lemmas.{well_formed-IsUtf8}

-- ---- the first that passes

module _ {X : Type 0} (p : X → Bool) where
  -- one more that does not pass
  pub passed-by : (xs : List X) (i : ℕ) (x : X) → slice_get xs i ≡ Some x → p x ≡ false → i ≤ position_or_len p xs
      → i + 1 ≤ position_or_len p xs
  passed-by [] i x at fails before = cc
  passed-by (y ∷ ys) zero x at fails before =
      let here : y ≡ x = cc in
      let rest = position_or_len p ys in
      subst (λ b. 0 + 1 ≤ cond (not b) (1 + rest) 0) (sym (ap p here ∙ fails)) (omega arith)
  passed-by (y ∷ ys) (suc i) x at fails before = by_test (p y) refl (passed-by ys i x at fails)
    where
      rest : ℕ
      rest = position_or_len p ys

      by_test : (b : Bool) → p y ≡ b → (i ≤ position_or_len p ys → i + 1 ≤ position_or_len p ys)
          → suc i + 1 ≤ position_or_len p (y ∷ ys)
      by_test true is more =
          let low = subst (λ b. suc i ≤ cond (not b) (1 + position_or_len p ys) 0) is before in
          absurd (omega arith)
      by_test false is more =
          let low = subst (λ b. suc i ≤ cond (not b) (1 + position_or_len p ys) 0) is before in
          let high : i + 1 ≤ position_or_len p ys = more (omega arith) in
          subst (λ b. suc i + 1 ≤ cond (not b) (1 + position_or_len p ys) 0) (sym is) (omega arith)

  -- where one passes, and none before it does
  stops-at : (xs : List X) (i : ℕ) (x : X) → slice_get xs i ≡ Some x → p x ≡ true → i ≤ position_or_len p xs
      → position_or_len p xs ≡ i
  stops-at [] i x at passes before = cc
  stops-at (y ∷ ys) zero x at passes before =
      let here : y ≡ x = cc in
      ap (λ b. cond (not b) (1 + position_or_len p ys) 0) (ap p here ∙ passes)
  stops-at (y ∷ ys) (suc i) x at passes before = by_test (p y) refl (stops-at ys i x at passes)
    where
      by_test : (b : Bool) → p y ≡ b → (i ≤ position_or_len p ys → position_or_len p ys ≡ i)
          → position_or_len p (y ∷ ys) ≡ suc i
      by_test true is more =
          let low = subst (λ b. suc i ≤ cond (not b) (1 + position_or_len p ys) 0) is before in
          absurd (omega arith)
      by_test false is more =
          let low = subst (λ b. suc i ≤ cond (not b) (1 + position_or_len p ys) 0) is before in
          let same : position_or_len p ys ≡ i = more (omega arith) in
          ap (λ b. cond (not b) (1 + position_or_len p ys) 0) is ∙ (omega arith)

  pub first-at : (xs : List X) (i : ℕ) (x : X) → slice_get xs i ≡ Some x → p x ≡ true → i ≤ position_or_len p xs
      → Some i ≡ position p xs
  first-at xs i x at passes before = sym (
      ap (λ n. cond (nat_lt n (length xs)) (Some n) None) (stops-at xs i x at passes before)
      ∙ ap (λ b. cond b (Some i) None) (lt-ltb i (length xs) (slice_get_within xs i x at)))

  -- where all were passed by
  pub none-passes : (xs : List X) → length xs ≤ position_or_len p xs → None ≡ position p xs
  none-passes xs all = sym (ap (λ b. cond b (Some (position_or_len p xs)) None)
      (le-ltb (position_or_len p xs) (length xs) all))

-- ---- integers that fall

pub negative-falls : (z : ℤ) (before : ℕ) → z <ℤ pos 0 → int_lt z (pos before) ≡ true
negative-falls (pos n) before low = absurd (omega (arith, ints))
negative-falls (negsuc n) before low = refl

length-zip-more : {Y : Type 0} (y : Y) (ys : List Y) → length (zip (y ∷ ys) ys) ≡ length ys
length-zip-more y [] = refl
length-zip-more y (z ∷ zs) = ap suc (length-zip-more z zs)

module _ {O : Type 0} (number : O → ℤ) where
  -- the number of an offset that was read
  pub number-read : (xs : List O) (i : ℕ) (x : O) → i < length xs → x ≡ get_or xs i x
      → slice_get (map number xs) i ≡ Some (number x)
  number-read xs i x low read =
      slice_get-map number xs i ∙ ap (option_map number) (slice_get_read xs (length xs) i x refl low read)

  -- that number behind the one before it
  pub step-at : (xs : List O) (i : ℕ) (x : O) (before : ℤ) → i < length xs → x ≡ get_or xs i x
      → slice_get (pos 0 ∷ map number xs) i ≡ Some before
      → slice_get (steps_of (map number xs)) i ≡ Some (before, number x)
  step-at xs i x before low read last =
      get-zip (pos 0 ∷ map number xs) (map number xs) i before (number x) last (number-read xs i x low read)

pub length-steps : (zs : List ℤ) → length (steps_of zs) ≡ length zs
length-steps zs = length-zip-more (pos 0) zs

-- ---- items

length-after : {X : Type 0} (x : ℕ) (ys : List ℕ) (bytes : List X) → length (items_after x ys bytes) ≡ length ys
length-after x [] bytes = refl
length-after x (y ∷ ys) bytes = ap suc (length-after y ys bytes)

pub length-items : {X : Type 0} (os : List ℕ) (bytes : List X) → 0 < length os
    → length (items_of os bytes) + 1 ≡ length os
length-items [] bytes some = absurd (omega (arith, some))
length-items (x ∷ ys) bytes some = omega (arith, length-after x ys bytes)

item-after : {X : Type 0} (x : ℕ) (ys : List ℕ) (bytes : List X) (i : ℕ) → i < length ys
    → slice_get (items_after x ys bytes) i ≡ Some (slice_range bytes (get_or (x ∷ ys) i 0) (get_or ys i 0))
item-after x [] bytes i low = absurd (omega (arith, low))
item-after x (y ∷ ys) bytes zero low = refl
item-after x (y ∷ ys) bytes (suc i) low = item-after y ys bytes i (omega (arith, low))

pub item-at : {X : Type 0} (os : List ℕ) (bytes : List X) (i : ℕ) → i + 1 < length os
    → slice_get (items_of os bytes) i ≡ Some (slice_range bytes (get_or os i 0) (get_or os (i + 1) 0))
item-at [] bytes i low = absurd (omega (arith, low))
item-at (x ∷ ys) bytes i low =
    item-after x ys bytes i (omega (arith, low))
    ∙ ap (λ k. Some (slice_range bytes (get_or (x ∷ ys) i 0) (get_or (x ∷ ys) k 0))) (let e : suc i ≡ i + 1 =
    omega arith in e)

-- ---- bytes as far as there are some

-- of a range only what lies in the list counts
pub range-within : {X : Type 0} (xs : List X) (start end first past : ℕ) → first ≡ min start (length xs)
    → past ≡ min end (length xs) → start ≤ end
    → take (past - first) (drop first xs) ≡ slice_range xs start end
range-within {X} xs start end first past low high order =
    by_case (cases_lt start (length xs)) (cases_lt end (length xs))
  where
    by_case : (start < length xs) ⊎ (length xs ≤ start) → (end < length xs) ⊎ (length xs ≤ end)
        → take (past - first) (drop first xs) ≡ slice_range xs start end
    by_case (inr behind) near =
        let here : length xs ≤ first = omega arith in
        ap (take (past - first)) (drop_all first xs here) ∙ nothing (past - first)
        ∙ sym (ap (take (end - start)) (drop_all start xs behind) ∙ nothing (end - start))
      where
        nothing : (n : ℕ) → take {A = X} n [] ≡ []
        nothing zero = refl
        nothing (suc n) = refl
    by_case (inl within) (inl near) = ap₂ (λ a b. take (b - a) (drop a xs)) (let e : first ≡ start = omega arith in e)
        (let e : past ≡ end = omega arith in e)
    by_case (inl within) (inr far) =
        let here : first ≡ start = omega arith in
        let rest = drop start xs in
        let count : length rest ≡ length xs - start = length-drop start xs in
        let short : length rest ≤ past - first = omega arith in
        let long : length rest ≤ end - start = omega arith in
        ap (λ a. take (past - first) (drop a xs)) here ∙ take_all (past - first) rest short
        ∙ sym (take_all (end - start) rest long)

-- a test of text by the library is one by Unicode's table
pub is-text : (answer : Bool) (bytes : List ℕ) → (IsTrue answer ↔ IsUtf8 bytes)
    → IsTrue answer ↔ IsWellFormed bytes
is-text answer bytes tells = (
  λ yes. (well_formed-IsUtf8 bytes).1 (tells.0 yes),
  λ text. tells.1 ((well_formed-IsUtf8 bytes).0 text),
)

-- ---- the first item that is no text

-- where the test says no, the bytes are no text
pub no-text : (bytes : List ℕ) → (IsTrue false ↔ IsWellFormed bytes) → ¬ IsWellFormed bytes
no-text bytes tells text = false≢true (tells.1 text)

-- an item that is no text, behind texts
pub first-unfit : (items : List (List ℕ)) (i : ℕ) (item : List ℕ) → slice_get items i ≡ Some item
    → ¬ IsWellFormed item → AreTexts (take i items) → IsFirstUnfit items i
first-unfit items i item at unfit before =
    (before, subst (λ found. IsSomeAnd found (λ item. ¬ IsWellFormed item)) (sym at) unfit)

-- where it is, not all items are texts
pub not-all : (items : List (List ℕ)) (i : ℕ) (item : List ℕ) → slice_get items i ≡ Some item
    → ¬ IsWellFormed item → (Some i ≡ None) ↔ AreTexts items
not-all items i item at unfit = (
  λ none. absurd (cc),
  λ all. absurd (unfit (subst IsWellFormed (get_or_from_slice_get items i item item at)
      (all i item (slice_get_within items i item at)))),
)

-- one more text
pub one-more-text : (items : List (List ℕ)) (i : ℕ) (item : List ℕ) → slice_get items i ≡ Some item
    → IsWellFormed item → AreTexts (take i items) → AreTexts (take (i + 1) items)
one-more-text items i item at text before =
    All-more IsWellFormed items i item (slice_get_within items i item at) before
    (subst IsWellFormed (sym (get_or_from_slice_get items i item item at)) text)

-- where all items were passed, all are texts
pub all-texts : (items : List (List ℕ)) (i : ℕ) → length items ≤ i → AreTexts (take i items) → AreTexts items
all-texts items i all texts = subst AreTexts (take_all i items all) texts

-- ---- integers that never fall

-- the second of two integers is at least the first
abbrev pub IsRise : ℤ × ℤ → Type 0
IsRise step = step.0 ≤ℤ step.1

rises : (a b : ℤ) → int_lt b a ≡ false → a ≤ℤ b
rises a b fails = omega (arith, ints)

not-below : (a b : ℤ) → a ≤ℤ b → int_lt b a ≡ false
not-below a b up = by_test (int_lt b a) refl
  where
    by_test : (t : Bool) → int_lt b a ≡ t → t ≡ false
    by_test true is = absurd (omega (arith, ints))
    by_test false is = refl

-- where none passes, all were passed by
none-behind : {X : Type 0} (p : X → Bool) (xs : List X) → position p xs ≡ None → length xs ≤ position_or_len p xs
none-behind p xs none =
    elim (cases_lt (position_or_len p xs) (length xs)) [
      | inl low ↦ absurd (not_some (position_or_len p xs) (sym none
          ∙ ap (λ b. cond b (Some (position_or_len p xs)) None) (lt-ltb (position_or_len p xs) (length xs) low)))
      | inr all ↦ all
    ]
  where
    not_some : (n : ℕ) → ¬ (None ≡ Some n)
    not_some n e = cc

all-rise : (steps : List (ℤ × ℤ)) → position falls steps ≡ None → All IsRise steps
all-rise steps none k d low =
    rises (get_or steps k d).0 (get_or steps k d).1
    (fails_before_first falls steps k d (omega (arith, low, none-behind falls steps none)))

none-falls : (steps : List (ℤ × ℤ)) → All IsRise steps → length steps ≤ position_or_len falls steps
none-falls [] all = omega arith
none-falls (step ∷ steps) all =
    let rest = none-falls steps (All-tail IsRise step steps all) in
    subst (λ b. suc (length steps) ≤ cond (not b) (1 + position_or_len falls steps) 0)
    (sym (not-below step.0 step.1 (All-head IsRise step steps all))) (omega arith)

-- no integer falls exactly if each is at least the one before it, which before the first is 0
pub never-falls : (zs : List ℤ) → (first_fall zs ≡ None) ↔ All IsRise (zip (pos 0 ∷ zs) zs)
never-falls zs =
    (all-rise (steps_of zs), λ all. sym (none-passes falls (steps_of zs) (none-falls (steps_of zs) all)))

rising : (z : ℤ) (zs : List ℤ) → falls_after z zs ≡ false → All IsRise (zip (z ∷ zs) zs)
rising z [] fails = All-nil IsRise
rising z (y ∷ ys) fails =
    let parts = or_parts (int_lt y z) (falls_after y ys) fails in
    All-cons IsRise (z, y) (zip (y ∷ ys) ys) (rises z y parts.0) (rising y ys parts.1)

never-after : (z : ℤ) (zs : List ℤ) → All IsRise (zip (z ∷ zs) zs) → falls_after z zs ≡ false
never-after z [] all = refl
never-after z (y ∷ ys) all =
    or_from (int_lt y z) (falls_after y ys) (not-below z y (All-head IsRise (z, y) (zip (y ∷ ys) ys) all))
    (never-after y ys (All-tail IsRise (z, y) (zip (y ∷ ys) ys) all))

no-fault-1 : (a b : Bool) (s t : List ℕ) → (if a then Some s else (if b then Some t else None)) ≡ None → a ≡ false
no-fault-1 true b s t e = absurd (cc)
no-fault-1 false b s t e = refl

-- no integer falls exactly if they break no rule of offsets
pub fall-is-fault : (z : ℤ) (zs : List ℤ) → (first_fall (z ∷ zs) ≡ None) ↔ (first_fault (z ∷ zs) ≡ None)
fall-is-fault z zs = (
  λ none.
      let all = all-rise (steps_of (z ∷ zs)) none in
      no-faults (int_lt z (pos 0)) (falls_after z zs) _ _
      (not-below (pos 0) z (All-head IsRise (pos 0, z) (zip (z ∷ zs) zs) all))
      (never-after z zs (All-tail IsRise (pos 0, z) (zip (z ∷ zs) zs) all)),
  λ none.
      let first = rises (pos 0) z (no-fault-1 (int_lt z (pos 0)) (falls_after z zs) _ _ none) in
      let rest = rising z zs (no-second_fault (int_lt z (pos 0)) (falls_after z zs) _ _ none) in
      (never-falls (z ∷ zs)).1 (All-cons IsRise (pos 0, z) (zip (z ∷ zs) zs) first rest),
)
