-- Slots of one of two arrays, by a predicate.
use Rattle.std.proofs.Common.{◌≡◌, ◌∙◌, ◌&&◌, ◌||◌, ◌==◌, ◌+◌, ◌-◌, ◌^◌, ◌<◌, ◌≤◌, ℕ, zero, suc, min, bit_and, bit_or, Bool, true, false, if◌then◌else◌, not, List, [], ◌∷◌, ◌++◌, map, length, take, drop, Option, Some, None, is_some, slice_get, refl, ap, ap₂, sym, arith, append_assoc, IsTrue, true≢false}
use Rattle.std.specs.Int.{bit_at}
use Rattle.std.specs.List.{list_all, zip}
use Rattle.std.proofs.lemmas.List.{length-drop, length-map, length-take}
use Rattle.std.proofs.lemmas.List.FromFn.{map-range_with_len_more}
use Rattle.std.proofs.lemmas.Slice.Zip.{length-zip}
use Rattle.arrow_types.proofs.CallerLemmas.{and-bit, get-drop, not-bit, or-bit, take-next}
use Rattle.arrow_memory.specs.Marks.{bits_of}
use Rattle.arrow_memory.specs.Rows.{Row, slot}
use Rattle.compute_base.specs.Words.{HoldsMarks}
use Rattle.compute_select.specs.Selects.{chosen_slot, chosen_slots, chosen_values, mask_shown}
use Rattle.compute_select.proofs.ShownLemmas.{StoresShown}

-- ---- bits

if-bits : (p x y : Bool) → ((p && x) || (not p && y)) ≡ (if p then x else y)
if-bits true true y = refl
if-bits true false y = refl
if-bits false x y = refl

pub chosen-bit : (p x y k : ℕ) → p < 2 ^ 64 → k < 64
    → (bit_at (bit_or (bit_and p x) (bit_and (2 ^ 64 - 1 - p) y)) k == 1)
    ≡ (if bit_at p k == 1 then bit_at x k == 1 else bit_at y k == 1)
chosen-bit p x y k small low =
    or-bit (bit_and p x) (bit_and (2 ^ 64 - 1 - p) y) k
    ∙ ap₂ ◌||◌ (and-bit p x k)
    (and-bit (2 ^ 64 - 1 - p) y k ∙ ap (λ b. b && (bit_at y k == 1)) (not-bit p k small low))
    ∙ if-bits (bit_at p k == 1) (bit_at x k == 1) (bit_at y k == 1)

-- ---- values

module _ {X : Type 0} where
  pub length-chosen : (ps : List Bool) (xs ys : List X)
      → length (chosen_values ps xs ys) ≡ min (length ps) (min (length xs) (length ys))
  length-chosen ps xs ys =
      length-map (zip ps (zip xs ys)) (λ (row : Bool × (X × X)). if row.0 then row.1.0 else row.1.1)
      ∙ length-zip ps (zip xs ys) ∙ ap (λ n. min (length ps) n) (length-zip xs ys)

  pub chosen-at : (ps : List Bool) (xs ys : List X) (i : ℕ) (p : Bool) (x y : X) → slice_get ps i ≡ Some p
      → slice_get xs i ≡ Some x → slice_get ys i ≡ Some y
      → slice_get (chosen_values ps xs ys) i ≡ Some (if p then x else y)
  chosen-at [] xs ys i p x y e f g = absurd (cc)
  chosen-at (q ∷ ps) [] ys i p x y e f g = absurd (cc)
  chosen-at (q ∷ ps) (v ∷ xs) [] i p x y e f g = absurd (cc)
  chosen-at (q ∷ ps) (v ∷ xs) (w ∷ ys) zero p x y e f g =
      let here : q ≡ p = cc in
      let left : v ≡ x = cc in
      let right : w ≡ y = cc in
      ap (λ b. Some (if b then v else w)) here ∙ ap₂ (λ a b. Some (if p then a else b)) left right
  chosen-at (q ∷ ps) (v ∷ xs) (w ∷ ys) (suc i) p x y e f g = chosen-at ps xs ys i p x y e f g

  -- a piece of the chosen values is chosen of pieces
  pub take-chosen : (n : ℕ) (ps : List Bool) (xs ys : List X)
      → take n (chosen_values ps xs ys) ≡ chosen_values (take n ps) (take n xs) (take n ys)
  take-chosen zero ps xs ys = refl
  take-chosen (suc n) [] xs ys = refl
  take-chosen (suc n) (p ∷ ps) [] ys = refl
  take-chosen (suc n) (p ∷ ps) (x ∷ xs) [] = refl
  take-chosen (suc n) (p ∷ ps) (x ∷ xs) (y ∷ ys) =
      ap (λ rest. (if p then x else y) ∷ rest) (take-chosen n ps xs ys)

  none-left : (ps : List Bool) (xs : List X) → chosen_values ps xs [] ≡ []
  none-left [] xs = refl
  none-left (p ∷ ps) [] = refl
  none-left (p ∷ ps) (x ∷ xs) = refl

  none-right : (ps : List Bool) (ys : List X) → chosen_values ps [] ys ≡ []
  none-right [] ys = refl
  none-right (p ∷ ps) ys = refl

  pub drop-chosen : (n : ℕ) (ps : List Bool) (xs ys : List X)
      → drop n (chosen_values ps xs ys) ≡ chosen_values (drop n ps) (drop n xs) (drop n ys)
  drop-chosen zero ps xs ys = refl
  drop-chosen (suc n) [] xs ys = refl
  drop-chosen (suc n) (p ∷ ps) [] ys = sym (none-right (drop n ps) (drop (suc n) ys))
  drop-chosen (suc n) (p ∷ ps) (x ∷ xs) [] = sym (none-left (drop n ps) (drop n xs))
  drop-chosen (suc n) (p ∷ ps) (x ∷ xs) (y ∷ ys) = drop-chosen n ps xs ys

-- ---- lists that grow by pieces and by values

pub next-behind : {Z : Type 0} (front zs vs : List Z) (i : ℕ) (z : Z) → slice_get zs i ≡ Some z
    → vs ≡ front ++ take i zs → vs ++ z ∷ [] ≡ front ++ take (i + 1) zs
next-behind front zs vs i z e so_far =
    ap (λ all. all ++ z ∷ []) so_far ∙ append_assoc front (take i zs) (z ∷ [])
    ∙ ap (λ rest. front ++ rest) (sym (take-next zs i z e))

-- ---- the bits of a word as booleans

-- the bits of a word are the marks that it holds
bits-piece : (word : ℕ) (marks : List Bool) (a n : ℕ)
    → HoldsMarks word marks a n → bits_of word n ≡ take n (drop a marks)
bits-piece word marks a zero holds = refl
bits-piece word marks a (suc n) holds =
    ap (bits_of word) (let more : suc n ≡ n + 1 = omega arith in more)
    ∙ map-range_with_len_more (λ k. bit_at word k == 1) 0 n n (omega arith)
    ∙ ap (λ bits. bits ++ (bit_at word n == 1) ∷ []) (bits-piece word marks a n (λ k low. holds k (omega (arith, low))))
    ∙ sym (take-next (drop a marks) n (bit_at word n == 1) (get-drop marks a n ∙ holds n (omega arith)))
    ∙ ap (λ m. take m (drop a marks)) (let less : n + 1 ≡ suc n = omega arith in less)

-- what is chosen of pieces by the bits of a word is a piece of what is chosen
pub piece-chosen : {X : Type 0} (ps : List Bool) (xs ys : List X) (word a n : ℕ)
    → HoldsMarks word ps a n → a + n ≤ length xs
    → chosen_values (bits_of word (length (take n (drop a xs)))) (take n (drop a xs)) (take n (drop a ys))
    ≡ take n (drop a (chosen_values ps xs ys))
piece-chosen ps xs ys word a n holds within =
    ap (λ m. chosen_values (bits_of word m) (take n (drop a xs)) (take n (drop a ys)))
    (let whole : length (take n (drop a xs)) ≡ n = omega (
      arith,
      within,
      length-take n (drop a xs),
      length-drop a xs,
    ) in whole)
    ∙ ap (λ bits. chosen_values bits (take n (drop a xs)) (take n (drop a ys))) (bits-piece word ps a n holds)
    ∙ sym (ap (take n) (drop-chosen a ps xs ys) ∙ take-chosen n (drop a ps) (drop a xs) (drop a ys))

-- ---- slots

module _ {X : Type 0} where
  shown-mark : (v : X) (m : Bool) → is_some (slot (v, m)) ≡ m
  shown-mark v true = refl
  shown-mark v false = refl

  chosen-mark : (t m : Bool) (v w : X) (a b : Bool)
      → (m && (if t then a else b)) ≡ is_some (chosen_slot (slot (t, m)) (slot (v, a)) (slot (w, b)))
  chosen-mark true true v w a b = sym (shown-mark v a)
  chosen-mark false true v w a b = sym (shown-mark w b)
  chosen-mark t false v w a b = refl

  -- the mark of a slot of the result, by the predicate and the marks
  pub chosen-mark-at : (ps : List (Row Bool)) (xs ys : List (Row X)) (i : ℕ) (t m a b : Bool)
      → slice_get (map (λ (row : Row Bool). row.0) ps) i ≡ Some t
      → slice_get (map (λ (row : Row Bool). row.1) ps) i ≡ Some m
      → slice_get (map (λ (row : Row X). row.1) xs) i ≡ Some a
      → slice_get (map (λ (row : Row X). row.1) ys) i ≡ Some b
      → slice_get (map is_some (chosen_slots (map slot ps) (map slot xs) (map slot ys))) i
      ≡ Some (m && (if t then a else b))
  chosen-mark-at [] xs ys i t m a b e f g h = absurd (cc)
  chosen-mark-at (p ∷ ps) [] ys i t m a b e f g h = absurd (cc)
  chosen-mark-at (p ∷ ps) (x ∷ xs) [] i t m a b e f g h = absurd (cc)
  chosen-mark-at ((u, n) ∷ ps) ((v, c) ∷ xs) ((w, d) ∷ ys) zero t m a b e f g h =
      let truth : u ≡ t = cc in
      let valid : n ≡ m = cc in
      let left : c ≡ a = cc in
      let right : d ≡ b = cc in
      ap Some (sym (chosen-mark u n v w c d) ∙ ap₂ (λ k l. k && (if l then c else d)) valid truth
      ∙ ap₂ (λ k l. m && (if t then k else l)) left right)
  chosen-mark-at (p ∷ ps) (x ∷ xs) (y ∷ ys) (suc i) t m a b e f g h = chosen-mark-at ps xs ys i t m a b e f g h

  shown-choice : (t : Bool) (v w : X) → is_some (chosen_slot (Some t) (Some v) (Some w)) ≡ true
  shown-choice true v w = refl
  shown-choice false v w = refl

  -- no slot of valid ones is null
  all-chosen : (ps : List (Row Bool)) (xs ys : List (Row X)) → IsTrue (list_all (λ (row : Row Bool). row.1) ps)
      → IsTrue (list_all (λ (row : Row X). row.1) xs) → IsTrue (list_all (λ (row : Row X). row.1) ys)
      → list_all (λ mark. mark) (map is_some (chosen_slots (map slot ps) (map slot xs) (map slot ys))) ≡ true
  all-chosen [] xs ys p x y = refl
  all-chosen (p ∷ ps) [] ys e x y = refl
  all-chosen (p ∷ ps) (x ∷ xs) [] e f y = refl
  all-chosen ((t, true) ∷ ps) ((v, true) ∷ xs) ((w, true) ∷ ys) e f g =
      ap (λ mark. mark && list_all (λ m. m) (map is_some (chosen_slots (map slot ps) (map slot xs) (map slot ys))))
      (shown-choice t v w) ∙ all-chosen ps xs ys e f g
  all-chosen ((t, false) ∷ ps) (x ∷ xs) (y ∷ ys) e f g = absurd (true≢false (sym e))
  all-chosen ((t, true) ∷ ps) ((v, false) ∷ xs) (y ∷ ys) e f g = absurd (true≢false (sym f))
  all-chosen ((t, true) ∷ ps) ((v, true) ∷ xs) ((w, false) ∷ ys) e f g = absurd (true≢false (sym g))

  -- no mask of them is needed
  pub none-chosen : (ps : List (Row Bool)) (xs ys : List (Row X)) → IsTrue (list_all (λ (row : Row Bool). row.1) ps)
      → IsTrue (list_all (λ (row : Row X). row.1) xs) → IsTrue (list_all (λ (row : Row X). row.1) ys)
      → None ≡ mask_shown (chosen_slots (map slot ps) (map slot xs) (map slot ys))
  none-chosen ps xs ys e f g =
      let marks = map is_some (chosen_slots (map slot ps) (map slot xs) (map slot ys)) in
      sym (ap (λ b. if b then None else Some marks) (all-chosen ps xs ys e f g))

  pub length-slots : (ps : List (Row Bool)) (xs ys : List (Row X))
      → length (chosen_slots (map slot ps) (map slot xs) (map slot ys)) ≡ min (length ps) (min (length xs) (length ys))
  length-slots ps xs ys =
      length-map (zip (map slot ps) (zip (map slot xs) (map slot ys)))
      (λ (row : Option Bool × (Option X × Option X)). chosen_slot row.0 row.1.0 row.1.1)
      ∙ length-zip (map slot ps) (zip (map slot xs) (map slot ys))
      ∙ ap₂ min (length-map ps slot) (length-zip (map slot xs) (map slot ys)
      ∙ ap₂ min (length-map xs slot) (length-map ys slot))

  pub length-marks : (ps : List (Row Bool)) (xs ys : List (Row X))
      → length (map is_some (chosen_slots (map slot ps) (map slot xs) (map slot ys)))
      ≡ min (length ps) (min (length xs) (length ys))
  length-marks ps xs ys =
      length-map (chosen_slots (map slot ps) (map slot xs) (map slot ys)) is_some ∙ length-slots ps xs ys

  -- the values that the stored predicate chooses are those of the result
  pub stores-chosen : (ps : List (Row Bool)) (xs ys : List (Row X)) → length xs ≡ length ps → length ys ≡ length ps
      → StoresShown (chosen_values (map (λ (row : Row Bool). row.0) ps) (map (λ (row : Row X). row.0) xs)
      (map (λ (row : Row X). row.0) ys)) (chosen_slots (map slot ps) (map slot xs) (map slot ys))
  stores-chosen [] xs ys left right = tt
  stores-chosen (p ∷ ps) [] ys left right = absurd (omega (arith, left))
  stores-chosen (p ∷ ps) (x ∷ xs) [] left right = absurd (omega (arith, right))
  stores-chosen ((true, true) ∷ ps) ((v, true) ∷ xs) (y ∷ ys) left right =
      (refl, stores-chosen ps xs ys (omega (arith, left)) (omega (arith, right)))
  stores-chosen ((true, true) ∷ ps) ((v, false) ∷ xs) (y ∷ ys) left right =
      stores-chosen ps xs ys (omega (arith, left)) (omega (arith, right))
  stores-chosen ((false, true) ∷ ps) (x ∷ xs) ((w, true) ∷ ys) left right =
      (refl, stores-chosen ps xs ys (omega (arith, left)) (omega (arith, right)))
  stores-chosen ((false, true) ∷ ps) (x ∷ xs) ((w, false) ∷ ys) left right =
      stores-chosen ps xs ys (omega (arith, left)) (omega (arith, right))
  stores-chosen ((t, false) ∷ ps) (x ∷ xs) (y ∷ ys) left right =
      stores-chosen ps xs ys (omega (arith, left)) (omega (arith, right))
