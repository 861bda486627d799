-- Lemmas about the keys of valid slots, and the first of them that fails a test.
use Rattle.std.proofs.Common.{◌≡◌, ℕ, zero, suc, ◌<◌, ℤ, Bool, true, false, not, List, [], ◌∷◌}
use Rattle.std.proofs.Common.{take, find, cond, Option, Some, None, slice_get, nat_lt, length, ◌+◌, refl, sym, ap}
use Rattle.std.proofs.Common.{ap₂, ◌∙◌, arith}
use Rattle.std.proofs.Math.Seq.{take-length}
use Rattle.std.specs.Prelude.{All, IsSomeAnd}
use Rattle.std.specs.Option.{option_map_or}
use Rattle.std.proofs.lemmas.Bool.{ltb-true, not-false}
use Rattle.arrow_types.specs.IndexKey.{index_of}
use Rattle.arrow_check.specs.Indexes.{in_bounds, valid_keys}

-- a test that finds nothing finds neither the first of a list nor another
nothing-found : {X : Type 0} (b : Bool) (x : X) (o : Option X) → cond b (Some x) o ≡ None → (b ≡ false) × (o ≡ None)
nothing-found true x o e = cc
nothing-found false x o e = (refl, e)

module _ {K : Type 0} where
  -- without a mask every slot is valid
  pub valid_keys-bare : (keys : List K) → valid_keys keys None ≡ keys
  valid_keys-bare [] = refl
  valid_keys-bare (key ∷ keys) = ap (λ ks. key ∷ ks) (valid_keys-bare keys)

  module _ (number : K → ℤ) (len : ℕ) where
    -- whether a key is no index below the length
    abbrev fails : K → Bool
    fails key = not (in_bounds len (number key))

    -- one key more that passes
    pub find-more : (keys : List K) (i : ℕ) (key : K) → find fails (take i keys) ≡ None → slice_get keys i ≡ Some key
        → fails key ≡ false → find fails (take (suc i) keys) ≡ None
    find-more [] i key none e passes = refl
    find-more (k ∷ keys) zero key none e passes =
        let same : k ≡ key = cc in
        ap (λ b. cond b (Some k) None) (ap fails same ∙ passes)
    find-more (k ∷ keys) (suc i) key none e passes =
        let before = nothing-found (fails k) k (find fails (take i keys)) none in
        ap₂ (λ b o. cond b (Some k) o) before.0 (find-more keys i key before.1 e passes)

    pub find-step : (keys : List K) (i : ℕ) (key : K) → find fails (take i keys) ≡ None → slice_get keys i ≡ Some key
        → fails key ≡ false → find fails (take (i + 1) keys) ≡ None
    find-step keys i key none e passes = ap (λ n. find fails (take n keys)) (let next : i + 1 ≡ suc i = omega arith in
        next) ∙ find-more keys i key none e passes

    -- where no key fails, none of a valid slot does
    pub none-valid : (keys : List K) (marks : List Bool) → find fails keys ≡ None
        → find fails (valid_keys keys (Some marks)) ≡ None
    none-valid [] marks none = refl
    none-valid (k ∷ keys) [] none = refl
    none-valid (k ∷ keys) (true ∷ marks) none =
        let before = nothing-found (fails k) k (find fails keys) none in
        ap₂ (λ b o. cond b (Some k) o) before.0 (none-valid keys marks before.1)
    none-valid (k ∷ keys) (false ∷ marks) none =
        none-valid keys marks (nothing-found (fails k) k (find fails keys) none).1

    none-more : (keys : List K) (marks : List Bool) (i : ℕ) (key : K) (mark : Bool)
        → find fails (valid_keys (take i keys) (Some (take i marks))) ≡ None
        → slice_get keys i ≡ Some key → slice_get marks i ≡ Some mark → (mark ≡ true → fails key ≡ false)
        → find fails (valid_keys (take (suc i) keys) (Some (take (suc i) marks))) ≡ None
    none-more [] marks i key mark none e f passes = refl
    none-more (k ∷ keys) [] i key mark none e f passes = refl
    none-more (k ∷ keys) (true ∷ marks) zero key mark none e f passes =
        let same : k ≡ key = cc in
        let set : mark ≡ true = cc in
        ap (λ b. cond b (Some k) None) (ap fails same ∙ passes set)
    none-more (k ∷ keys) (false ∷ marks) zero key mark none e f passes = refl
    none-more (k ∷ keys) (true ∷ marks) (suc i) key mark none e f passes =
        let before = nothing-found (fails k) k (find fails (valid_keys (take i keys) (Some (take i marks)))) none in
        ap₂ (λ b o. cond b (Some k) o) before.0 (none-more keys marks i key mark before.1 e f passes)
    none-more (k ∷ keys) (false ∷ marks) (suc i) key mark none e f passes =
        none-more keys marks i key mark none e f passes

    -- one slot more, which is null or passes
    pub none-step : (keys : List K) (marks : List Bool) (i : ℕ) (key : K) (mark : Bool)
        → find fails (valid_keys (take i keys) (Some (take i marks))) ≡ None
        → slice_get keys i ≡ Some key → slice_get marks i ≡ Some mark → (mark ≡ true → fails key ≡ false)
        → find fails (valid_keys (take (i + 1) keys) (Some (take (i + 1) marks))) ≡ None
    none-step keys marks i key mark none e f passes =
        ap (λ n. find fails (valid_keys (take n keys) (Some (take n marks)))) (let next : i + 1 ≡ suc i =
        omega arith in next)
        ∙ none-more keys marks i key mark none e f passes

    -- all slots
    pub none-whole : (keys : List K) (marks : List Bool) (n : ℕ) → n ≡ length keys → length marks ≡ length keys
        → find fails (valid_keys (take n keys) (Some (take n marks))) ≡ None
        → find fails (valid_keys keys (Some marks)) ≡ None
    none-whole keys marks n e same none =
        sym (ap₂ (λ ks ms. find fails (valid_keys ks (Some ms))) (ap (λ k. take k keys) e ∙ take-length keys)
        (ap (λ k. take k marks) (e ∙ sym same) ∙ take-length marks))
        ∙ none

    -- a valid slot that fails, behind slots that are null or pass
    pub first-found : (keys : List K) (marks : List Bool) (i : ℕ) (key : K)
        → find fails (valid_keys (take i keys) (Some (take i marks))) ≡ None
        → slice_get keys i ≡ Some key → slice_get marks i ≡ Some true → fails key ≡ true
        → find fails (valid_keys keys (Some marks)) ≡ Some key
    first-found [] marks i key none e f failing = cc
    first-found (k ∷ keys) [] i key none e f failing = cc
    first-found (k ∷ keys) (true ∷ marks) zero key none e f failing =
        let same : k ≡ key = cc in
        ap (λ b. cond b (Some k) (find fails (valid_keys keys (Some marks)))) (ap fails same ∙ failing) ∙ ap Some same
    first-found (k ∷ keys) (false ∷ marks) zero key none e f failing = cc
    first-found (k ∷ keys) (true ∷ marks) (suc i) key none e f failing =
        let before = nothing-found (fails k) k (find fails (valid_keys (take i keys) (Some (take i marks)))) none in
        ap (λ b. cond b (Some k) (find fails (valid_keys keys (Some marks)))) before.0
        ∙ first-found keys marks i key before.1 e f failing
    first-found (k ∷ keys) (false ∷ marks) (suc i) key none e f failing = first-found keys marks i key none e f failing

-- ---- keys of which none fails

index-in-bounds : (len : ℕ) (index : Option ℕ) → not (option_map_or (λ i. nat_lt i len) index false) ≡ false
    → IsSomeAnd index (λ i. i < len)
index-in-bounds len None e = cc
index-in-bounds len (Some i) e = ltb-true i len (not-false (nat_lt i len) e)

-- each is an index below the length
pub all-in-bounds : {K : Type 0} (number : K → ℤ) (len : ℕ) (keys : List K)
    → find (λ key. not (in_bounds len (number key))) keys ≡ None
    → All (λ key. IsSomeAnd (index_of (number key)) (λ index. index < len)) keys
all-in-bounds number len [] none i d low = absurd (omega arith)
all-in-bounds number len (key ∷ keys) none zero d low =
    let before = nothing-found (not (in_bounds len (number key))) key (find (λ key. not (in_bounds len (number key)))
    keys) none in
    index-in-bounds len (index_of (number key)) before.0
all-in-bounds number len (key ∷ keys) none (suc i) d low =
    let before = nothing-found (not (in_bounds len (number key))) key (find (λ key. not (in_bounds len (number key)))
    keys) none in
    all-in-bounds number len keys before.1 i d (omega arith)
