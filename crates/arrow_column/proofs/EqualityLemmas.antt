-- Lemmas about values that are compared as a whole.
use Rattle.std.proofs.Common.{◌≡◌, ℕ, suc, ◌<◌, Bool, not, List, [], ◌∷◌, length, slice_get, Some, None, Option}
use Rattle.std.proofs.Common.{count_by, unwrap_or, refl, ap, ap₂, ◌∙◌, arith}
use Rattle.arrow_types.proofs.CallerLemmas.{set-mark}
use Rattle.arrow_memory.specs.Rows.{AgreeWhere, FitsMask, IsValidAt}
use Rattle.arrow_column.proofs.AgreeLemmas.{set-by_count}

-- a mask without a clear mark has a valid slot at each place
no-null : {S : Type 0} (values : List S) (mask : Option (List Bool)) (i : ℕ) → FitsMask values mask
    → count_by not (unwrap_or mask []) ≡ 0 → i < length values → IsValidAt mask i
no-null values None i fits none low = tt
no-null values (Some marks) i fits none low =
    ap (λ ms. slice_get ms i) ((set-by_count marks (length values) fits).0 none) ∙ set-mark (length values) i low

-- where no slot is null, values that agree are the same
pub whole-agree : {S : Type 0} (values others : List S) (mask : Option (List Bool)) → FitsMask values mask
    → length values ≡ length others → count_by not (unwrap_or mask []) ≡ 0 → AgreeWhere mask values others
    → values ≡ others
whole-agree values others mask fits long none agree =
    same-at_each values others long (λ i low. agree i low (no-null values mask i fits none low))
  where
    same-at_each : {X : Type 0} (xs ys : List X) → length xs ≡ length ys
        → ((k : ℕ) → k < length xs → slice_get xs k ≡ slice_get ys k) → xs ≡ ys
    same-at_each [] [] long same = refl
    same-at_each [] (y ∷ ys) long same = absurd (omega (arith, long))
    same-at_each (x ∷ xs) [] long same = absurd (omega (arith, long))
    same-at_each (x ∷ xs) (y ∷ ys) long same =
        let first : Some x ≡ Some y = same 0 (omega arith) in
        let others : length xs ≡ length ys = omega (arith, long) in
        ap₂ (λ z zs. z ∷ zs) (ap (λ o. unwrap_or o x) first) (same-at_each xs ys others (λ k h.
        same (suc k) (omega (arith, h))))
