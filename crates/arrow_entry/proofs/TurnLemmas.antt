-- What the turns of an iterator from both ends give.
use Rattle.std.proofs.Common.{◌≡◌, ◌+◌, ◌-◌, ◌≤◌, ℕ, zero, suc, List, [], ◌∷◌, ◌++◌, length, map, take, drop}
use Rattle.std.proofs.Common.{slice_get, Option, option_map, Some, None, MatchOption, Bor, refl, sym, ap, ap₂, ◌∙◌}
use Rattle.std.proofs.Common.{append_assoc, arith}
use Rattle.std.specs.Iterator.{Yields, SkipsThenYields}
use Rattle.std.specs.Slice.Iter.{iter_rest, iter_steps}
use Rattle.std.proofs.lemmas.List.{drop-map, length-map, map-append, length-append, take-map, drop_at, nil_from_length}
use Rattle.std.proofs.lemmas.Option.{slice_get-map, slice_get_past}
use Rattle.std.proofs.lemmas.List.{drop_all}
use Rattle.arrow_types.proofs.CallerLemmas.{get-last}
use Rattle.arrow_memory.specs.Items.{SkipsThenFirstBy}
use Rattle.arrow_model.specs.declared.item.Turn.{Turn}
use Rattle.arrow_model.specs.declared.item.Turn.TheVariants as turn
use Rattle.arrow_model.specs.declared.item.Item.{Item}
use Rattle.arrow_model.specs.Change.{TurnGives, turns_of}
use Rattle.arrow_model.specs.Item.{Stored, stored_slot}

-- the calls of a slice's iterator that `nth` makes
module _ {A : Type 0} where
  yielded : (xs : List (Bor A)) (s t : _) → Yields (iter_steps {A = A}) s xs t
      → iter_rest s ≡ map (λ x. x.now) xs ++ iter_rest t
  yielded [] s t is = ap iter_rest is
  yielded (x ∷ xs) s t is = is.1 ∙ ap (λ ys. x.now ∷ ys) (yielded xs is.0 t is.2)

  nth-some : (s u : _) (n : ℕ) (x : Bor A) → SkipsThenYields (iter_steps {A = A}) s n (Some x) u
      → drop n (iter_rest s) ≡ x.now ∷ iter_rest u
  nth-some s u n x h = ap (drop n) (yielded h.0 s h.1.0 h.1.1)
      ∙ drop_at (map (λ x. x.now) h.0) (iter_rest h.1.0) n (length-map h.0 (λ x. x.now) ∙ h.2) ∙ h.1.2

  nth-none : (s u : _) (n : ℕ) → SkipsThenYields (iter_steps {A = A}) s n None u → length (iter_rest s) ≤ n
  nth-none s u n h = omega (
    arith,
    h.2,
    h.1.2.0,
    ap length (yielded h.0 s h.1.0 h.1.1),
    length-append (map (λ x. x.now) h.0)
        (iter_rest h.1.0),
    length-map h.0 (λ x. x.now),
  )

  nth-past : (s u : _) (n : ℕ) → SkipsThenYields (iter_steps {A = A}) s n None u → iter_rest u ≡ []
  nth-past s u n h = ap iter_rest h.1.2.1 ∙ nil_from_length (iter_rest h.1.0) h.1.2.0

  pub nth-is : (s u : _) (n : ℕ) (r : Option (Bor A)) → SkipsThenYields (iter_steps {A = A}) s n r u
      → SkipsThenFirstBy (λ x. x.now) iter_rest n s r u
  nth-is s u n (Some x) h = nth-some s u n x h
  nth-is s u n None h = (nth-none s u n h, nth-past s u n h)

last-rest : {X : Type 0} (ys : List X) (x : X) → take (length ys) (ys ++ x ∷ []) ≡ ys
last-rest [] x = refl
last-rest (y ∷ ys) x = ap (λ zs. y ∷ zs) (last-rest ys x)

skip-item : {X : Type 0} (n : ℕ) (xs ys : List X) (x : X) → drop n xs ≡ x ∷ ys → slice_get xs n ≡ Some x
skip-item zero xs ys x is = ap (λ zs. slice_get zs 0) is
skip-item (suc n) [] ys x is = grind arith
skip-item (suc n) (z ∷ xs) ys x is = skip-item n xs ys x is

skip-rest : {X : Type 0} (n : ℕ) (xs ys : List X) (x : X) → drop n xs ≡ x ∷ ys → drop (n + 1) xs ≡ ys
skip-rest zero xs ys x is = ap (drop 1) is
skip-rest (suc n) [] ys x is = grind arith
skip-rest (suc n) (z ∷ xs) ys x is = rw (let e : suc n + 1 ≡ suc (n + 1) = omega arith in e) (skip-rest n xs ys x is)

-- one turn, by what it gave
module _ {A S : Type 0} (seen : A → S) where
  pub front-turn : (item : Option A) (xs ys : List S)
      → MatchOption item ((xs ≡ []) × (ys ≡ [])) (λ x. xs ≡ seen x ∷ ys) → (more : List Turn)
      → turns_of (turn.Front ∷ more) xs ≡ option_map seen item ∷ turns_of more ys
  front-turn None xs ys is more = ap₂ (λ a b. slice_get a 0 ∷ turns_of more b) is.0 (ap (drop 1) is.0 ∙ sym is.1)
  front-turn (Some x) xs ys is more = ap (turns_of (turn.Front ∷ more)) is

  pub back-turn : (item : Option A) (xs ys : List S)
      → MatchOption item ((xs ≡ []) × (ys ≡ [])) (λ x. xs ≡ ys ++ seen x ∷ []) → (more : List Turn)
      → turns_of (turn.Back ∷ more) xs ≡ option_map seen item ∷ turns_of more ys
  back-turn None xs ys is more = ap (turns_of (turn.Back ∷ more)) is.0 ∙ ap (λ b. None ∷ turns_of more b) (sym is.1)
  back-turn (Some x) xs ys is more =
      ap (turns_of (turn.Back ∷ more)) is ∙ ap₂ (λ a b. a ∷ turns_of more b)
      (ap (slice_get (ys ++ seen x ∷ [])) at ∙ get-last ys (seen x))
      (ap (λ n. take n (ys ++ seen x ∷ [])) at ∙ last-rest ys (seen x))
    where
      at : length (ys ++ seen x ∷ []) - 1 ≡ length ys
      at = omega (arith, length-append ys (seen x ∷ []))

  pub skip-turn : (n : ℕ) (item : Option A) (xs ys : List S)
      → MatchOption item ((length xs ≤ n) × (ys ≡ [])) (λ x. drop n xs ≡ seen x ∷ ys) → (more : List Turn)
      → turns_of (turn.Skip n ∷ more) xs ≡ option_map seen item ∷ turns_of more ys
  skip-turn n None xs ys is more = ap₂ (λ a b. a
      ∷ turns_of more b) (slice_get_past xs n is.0) (drop_all (n + 1) xs (omega (arith, is.0)) ∙ sym is.1)
  skip-turn n (Some x) xs ys is more = ap₂ (λ a b. a
      ∷ turns_of more b) (skip-item n xs ys (seen x) is) (skip-rest n xs ys (seen x) is)

-- turns of what items store
module _ {S X : Type 0} (f : S → X) where
  turns-map : (turns : List Turn) (xs : List S) → turns_of turns (map f xs) ≡ map (option_map f) (turns_of turns xs)
  turns-map [] xs = refl
  turns-map (turn.Front ∷ turns) xs =
      ap₂ (λ a b. a ∷ b) (slice_get-map f xs 0) (ap (turns_of turns) (drop-map f 1 xs) ∙ turns-map turns (drop 1 xs))
  turns-map (turn.Back ∷ turns) xs =
      ap (λ n. slice_get (map f xs) (n - 1) ∷ turns_of turns (take (n - 1) (map f xs))) (length-map xs f)
      ∙ ap₂ (λ a b. a ∷ b) (slice_get-map f xs (length xs - 1))
      (ap (turns_of turns) (take-map f (length xs - 1) xs) ∙ turns-map turns (take (length xs - 1) xs))
  turns-map (turn.Skip n ∷ turns) xs =
      ap₂ (λ a b. a ∷ b) (slice_get-map f xs n)
      (ap (turns_of turns) (drop-map f (n + 1) xs) ∙ turns-map turns (drop (n + 1) xs))

  turn-map : (turn : Turn) (xs ys : List S) (given : Option S) → TurnGives turn xs given ys
      → TurnGives turn (map f xs) (option_map f given) (map f ys)
  turn-map turn xs ys given is more =
      turns-map (turn ∷ more) xs ∙ ap (map (option_map f)) (is more)
      ∙ ap (λ rest. option_map f given ∷ rest) (sym (turns-map more ys))

-- the slots of some turns, and then that of one more
more-slots : {A B : Type 0} (f : A → B) (slots : List A) (slot : A) (x : B) (rest all : List B)
    → map f slots ++ x ∷ rest ≡ all → f slot ≡ x → map f (slots ++ slot ∷ []) ++ rest ≡ all
more-slots f slots slot x rest all before is =
    ap (λ xs. xs ++ rest) (map-append f slots (slot ∷ []))
    ∙ append_assoc (map f slots) (f slot ∷ []) rest
    ∙ ap (λ y. map f slots ++ y ∷ rest) is ∙ before

pub turned : {S T : Type 0} (stored : S → Stored T) (slots : List (Option (Item T))) (slot : Option (Item T))
    (turn : Turn) (turns more : List Turn) (xs ys : List S) (given : Option S) (all : List (Option (Stored T)))
    → turns ≡ turn ∷ more → TurnGives turn xs given ys → stored_slot slot ≡ option_map stored given
    → map stored_slot slots ++ turns_of turns (map stored xs) ≡ all
    → map stored_slot (slots ++ slot ∷ []) ++ turns_of more (map stored ys) ≡ all
turned stored slots slot turn turns more xs ys given all split gives is before =
    more-slots stored_slot slots slot (option_map stored given) (turns_of more (map stored ys)) all
    (ap (λ rest. map stored_slot slots ++ rest) (sym (turn-map stored turn xs ys given gives more)
    ∙ ap (λ ts. turns_of ts (map stored xs)) (sym split)) ∙ before) is
