-- Whether two lists of slots are the same, as a test: what `==` of builders answers.
use Rattle.std.specs.Prelude.{◌≡◌, List, map, Option, None, Some, Bool, is_some, unwrap_or, refl}
use Rattle.std.specs.Bool.{Decides}
use Rattle.std.specs.Cmp.Lexicographic.{pointwise, pointwise_decides}
use Rattle.std.specs.Option.{option_eq}
use Rattle.std.proofs.Common.{sym, ap, true≢false}
use Rattle.arrow_memory.specs.Rows.{rows_of, slot}

-- two slots are the same if both are null, or both show values that the test holds of
same_slot-Decides : {X : Type 0} (test : X → X → Bool) → ((x y : X) → Decides (test x y) (x ≡ y)) → (s t : Option X)
    → Decides (option_eq test s t) (s ≡ t)
same_slot-Decides test decides None None = (λ e. refl, λ e. refl)
same_slot-Decides test decides None (Some y) = (λ e. absurd (true≢false (sym e)), λ e. ap is_some e)
same_slot-Decides test decides (Some x) None = (λ e. absurd (true≢false (sym e)), λ e. sym (ap is_some e))
same_slot-Decides test decides (Some x) (Some y) = (
  λ e. ap (λ v. Some v) ((decides x y).0 e),
  λ e.
      (decides x y).1 (ap (λ o. unwrap_or o x) e),
)

-- as many slots, each the same as the other list's
abbrev pub same_slots : {X : Type 0} → (X → X → Bool) → List (Option X) → List (Option X) → Bool
same_slots test = pointwise (option_eq test)

-- stored values under a mask show the same slots as others under another mask
abbrev pub ShowSame : {V M S : Type 0} → (V → List S) → (M → Option (List Bool)) → V → M → V → M → Type 0
ShowSame stored mask values validity others other =
    map slot (rows_of (stored values) (mask validity)) ≡ map slot (rows_of (stored others) (mask other))

-- where the test decides equality of values, this one decides equality of slots
pub same_slots-Decides : {X : Type 0} (test : X → X → Bool) → ((x y : X) → Decides (test x y) (x ≡ y))
    → (ss ts : List (Option X)) → Decides (same_slots test ss ts) (ss ≡ ts)
same_slots-Decides test decides ss ts = pointwise_decides (same_slot-Decides test decides) ss ts
