-- Seeing stored values through what is done to lists of them, and lists that are changed in place.
use Rattle.std.proofs.Common.{◌≡◌, ◌∙◌, ℕ, ◌+◌, ◌-◌, ◌/◌, ◌<◌, ◌≤◌, Bool, true, false, ◌&&◌, nat_eq, List, [], ◌∷◌}
use Rattle.std.proofs.Common.{◌++◌}
use Rattle.std.proofs.Common.{length, map, set, reverse, replicate, get_or, slice_get, Some, refl, sym, ap, subst}
use Rattle.std.proofs.Common.{inl, inr, arith, get_or-set_same, get_or-set_other, length-set}
use Rattle.std.proofs.lemmas.Bool.{cases_lt, eqb-true}
use Rattle.std.proofs.lemmas.List.{ext_get_or, get_or-reverse, length-map, length-reverse, map-append, reverse-append}
use Rattle.std.proofs.lemmas.Option.{get_or_from_slice_get}
use Rattle.arrow_types.proofs.CallerLemmas.{map-replicate, map-slice_set}
use Rattle.arrow_column.specs.Column.{ColumnWith, stored_values, with_stored}
use Rattle.arrow_bytes.specs.Pieces.{Around}
use Rattle.arrow_entry.specs.Entry.{erase_type}
use Rattle.arrow_model.specs.Item.{Stored}
use Rattle.arrow_entry.proofs.CallerLemmas.{stored-seen, with-stored-seen}

pub ruleset seen_lists = (map-slice_set, map-replicate)

-- items that can replace stored values are as many as these
pub replaced-count : {A Y : Type 0} (f : A → Y) (values : List A) (items : List Y) (count : ℕ) (fit : Bool)
    → map f values ≡ items → (nat_eq (length items) count && fit) ≡ true → length values ≡ count
replaced-count f values items count fit is can =
    sym (length-map values f) ∙ ap length is ∙ eqb-true (length items) count (first (nat_eq (length items) count) can)
  where
    first : (same : Bool) → (same && fit) ≡ true → same ≡ true
    first true both = refl
    first false both = both

-- this many are swapped from both ends
pub record TurnedSoFar (i : ℕ) (old new : List Bool) : Type 0 where
  pub count : length new ≡ length old
  pub low : (k : ℕ) → k < i → get_or new k false ≡ get_or old (length old - 1 - k) false
  pub high : (k : ℕ) → k < i → get_or new (length old - 1 - k) false ≡ get_or old k false
  pub inside : (k : ℕ) → i ≤ k → k + i < length old → get_or new k false ≡ get_or old k false

pub turned-none : (xs : List Bool) → TurnedSoFar 0 xs xs
turned-none xs = record {
  count = refl;
  low = λ k below. absurd (omega arith);
  high = λ k below. absurd (omega arith);
  inside = λ k above below. refl;
}

pub turned-more : (old new : List Bool) (i j : ℕ) (first last : Bool) → i < length old / 2 → j ≡ length old - 1 - i
    → TurnedSoFar i old new → slice_get new i ≡ Some first → slice_get new j ≡ Some last
    → TurnedSoFar (i + 1) old (set (set new i last) j first)
turned-more old new i j first last below is so_far is_first is_last = record {
  count = length-set (set new i last) j first ∙ length-set new i last ∙ so_far.count;
  low = λ k within. elim (cases_lt k i) [
    | inl before ↦ other k (λ e. omega arith) (λ e. omega arith) ∙ so_far.low k before
    | inr after ↦ subst (λ (p : ℕ). get_or (set (set new i last) j first) p false
        ≡ get_or old (length old - 1 - p) false) (omega arith) at_low
  ];
  high = λ k within. elim (cases_lt k i) [
    | inl before ↦ other (length old - 1 - k) (λ e. omega arith) (λ e. omega arith) ∙ so_far.high k before
    | inr after ↦ subst (λ (p : ℕ). get_or (set (set new i last) j first) (length old - 1 - p) false
        ≡ get_or old p false) (omega arith) at_high
  ];
  inside = λ k above within. other k (λ e. omega arith) (λ e. omega arith)
      ∙ so_far.inside k (omega arith) (omega arith);
}
  where
    half : i + i + 1 < length old
    half = omega arith

    other : (k : ℕ) → (k ≡ j → ⊥) → (k ≡ i → ⊥) → get_or (set (set new i last) j first) k false ≡ get_or new k false
    other k past_j past_i = get_or-set_other (set new i last) j k first false past_j
        ∙ get_or-set_other new i k last false past_i

    at_low : get_or (set (set new i last) j first) i false ≡ get_or old (length old - 1 - i) false
    at_low =
        get_or-set_other (set new i last) j i first false (λ e. omega (arith, half))
        ∙ get_or-set_same new i last false (omega (arith, so_far.count, half))
        ∙ sym (get_or_from_slice_get new j last false is_last)
        ∙ so_far.inside j (omega (arith, half)) (omega (arith, half))
        ∙ ap (λ p. get_or old p false) is

    at_high : get_or (set (set new i last) j first) (length old - 1 - i) false ≡ get_or old i false
    at_high =
        ap (λ p. get_or (set (set new i last) j first) p false) (sym is)
        ∙ get_or-set_same (set new i last) j first false (omega (arith, length-set new i last, so_far.count, half))
        ∙ sym (get_or_from_slice_get new i first false is_first)
        ∙ so_far.inside i (omega arith) (omega (arith, half))

pub turned-all : (old new : List Bool) (i : ℕ) → length old / 2 ≤ i → TurnedSoFar i old new → new ≡ reverse old
turned-all old new i past so_far =
    ext_get_or false new (reverse old) (so_far.count ∙ sym (length-reverse old))
    (λ k within. let inside : k < length old = subst (λ n. k < n) so_far.count within in place k inside
    ∙ sym (get_or-reverse old k false inside))
  where
    place : (k : ℕ) → k < length old → get_or new k false ≡ get_or old (length old - 1 - k) false
    place k within = elim (cases_lt k i) [
      | inl before ↦ so_far.low k before
      | inr after ↦ elim (cases_lt (length old - 1 - k) i) [
        | inl behind ↦ ap (λ p. get_or new p false) (omega arith) ∙ so_far.high (length old - 1 - k) behind
        | inr middle ↦ so_far.inside k after (omega arith) ∙ ap (λ p. get_or old p false) (omega arith)
      ]
    ]

pub ruleset turns = (turned-none, turned-more, turned-all)

map-turned : {A B : Type 0} (h : A → B) (xs : List A) → map h (reverse xs) ≡ reverse (map h xs)
map-turned h [] = refl
map-turned h (x ∷ xs) =
    ap (map h) (reverse-append (x ∷ []) xs)
    ∙ map-append h (reverse xs) (x ∷ [])
    ∙ ap (λ front. front ++ h x ∷ []) (map-turned h xs)
    ∙ sym (reverse-append (h x ∷ []) (map h xs))

module _ {A S T : Type 0} (around : A → Around) (stored : S → Stored T) (c : ColumnWith A S) where
  pub fill-seen : (x : S)
      → erase_type around stored (with_stored c (replicate (length (stored_values c)) x))
      ≡ with_stored (erase_type around stored c)
      (replicate (length (stored_values (erase_type around stored c))) (stored x))
  fill-seen x =
      with-stored-seen around stored c (replicate (length (stored_values c)) x)
      ∙ ap (with_stored (erase_type around stored c)) (map-replicate stored (length (stored_values c)) x
      ∙ ap (λ n. replicate n (stored x)) (sym (ap length (stored-seen around stored c)
      ∙ length-map (stored_values c) stored)))

  pub turn-seen : erase_type around stored (with_stored c (reverse (stored_values c)))
      ≡ with_stored (erase_type around stored c) (reverse (stored_values (erase_type around stored c)))
  turn-seen =
      with-stored-seen around stored c (reverse (stored_values c))
      ∙ ap (with_stored (erase_type around stored c)) (map-turned stored (stored_values c)
      ∙ ap reverse (sym (stored-seen around stored c)))

pub ruleset seen_turns = (fill-seen, turn-seen)
