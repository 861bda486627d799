-- Slots that are appended one after the other: where the first is taken, the others are appended to what it makes.
use Rattle.std.proofs.Common.{◌≡◌, suc, Bool, true, false, List, [], ◌∷◌, length, Option, Some, refl, arith}
use Rattle.std.proofs.Math.Dec.{eqb-suc-suc, eqb-zero-suc}
use Rattle.std.specs.Prelude.{MatchBool}
use Rattle.arrow_types.specs.Types.{overflow, out_of_memory, refusal}
use Rattle.arrow_column.specs.Column.{refused_growth}
use Rattle.arrow_model.specs.Answer.{Answer, done, refused, is_memory}
use Rattle.arrow_model.specs.Value.{Value, Types}
use Rattle.arrow_model.specs.Item.{Stored}
use Rattle.arrow_model.specs.Change.{grown, fitting, slot_over}
use Rattle.arrow_model.specs.Step.{Extends}

-- either case goes over
both : (b : Bool) {A A₂ B B₂ : Type 0} → (A → A₂) → (B → B₂) → MatchBool b A B → MatchBool b A₂ B₂
both true f g = f
both false f g = g

module _ {T : Type 0} (c : Types T) where
  -- one slot and those behind it
  pub fitting-taken : (v : Value T) (x : Option (Stored T)) (xs : List (Option (Stored T))) → slot_over c v x ≡ false
      → fitting c v (x ∷ xs) ≡ suc (fitting c (grown c v (x ∷ [])) xs)
  fitting-taken v x xs e = rw (e) refl

  pub fitting-over : (v : Value T) (x : Option (Stored T)) (xs : List (Option (Stored T))) → slot_over c v x ≡ true
      → fitting c v (x ∷ xs) ≡ 0
  fitting-over v x xs e = rw (e) refl

  pub extends-taken : (v : Value T) (x : Option (Stored T)) (xs : List (Option (Stored T))) → slot_over c v x ≡ false
      → (reply : Answer T) (new : Option (Value T)) → Extends c (grown c v (x ∷ [])) xs reply new
      → Extends c v (x ∷ xs) reply new
  extends-taken v x xs e reply new =
      both (is_memory reply)
      (λ h. (suc h.0, omega (arith, h.1, fitting-taken v x xs e), h.2))
      (λ h. rw (fitting-taken v x xs e, eqb-suc-suc (fitting c (grown c v (x ∷ [])) xs) (length xs)) h)

  pub extends-none : (v : Value T) → Extends c v [] done (Some v)
  extends-none v = (refl, refl)

  pub extends-over : (v : Value T) (x : Option (Stored T)) (xs : List (Option (Stored T))) → slot_over c v x ≡ true
      → Extends c v (x ∷ xs) (refused overflow) (Some v)
  extends-over v x xs e = rw (fitting-over v x xs e, eqb-zero-suc (length xs)) (refl, refl)

  pub extends-wanting : (v : Value T) (x : Option (Stored T)) (xs : List (Option (Stored T)))
      → slot_over c v x ≡ false → Extends c v (x ∷ xs) (refused out_of_memory) (Some v)
  extends-wanting v x xs e = (0, omega (arith, fitting-taken v x xs e), refl)

  -- why a slot was refused
  refused-so : (v : Value T) (x : Option (Stored T)) (xs : List (Option (Stored T))) (over : Bool)
      → slot_over c v x ≡ over → Extends c v (x ∷ xs) (refused (refusal (refused_growth over))) (Some v)
  refused-so v x xs true e = extends-over v x xs e
  refused-so v x xs false e = extends-wanting v x xs e

  -- what is left to be appended does the rest of it: `first` and `whole` are what a loop began with
  module _ (first : Value T) (whole : List (Option (Stored T))) where
    abbrev pub DoesRest : Value T → List (Option (Stored T)) → Type 0
    DoesRest v rest = (reply : Answer T) (new : Option (Value T)) → Extends c v rest reply new
        → Extends c first whole reply new

    pub rest-taken : (v w : Value T) (rest others : List (Option (Stored T))) (x : Option (Stored T))
        → rest ≡ x ∷ others
        → (slot_over c v x ≡ false) × (w ≡ grown c v (x ∷ [])) → DoesRest v rest → DoesRest w others
    rest-taken v w rest others x split pushed h reply new e =
        h reply new (rw (split) (extends-taken v x others pushed.0 reply new (rw (pushed.1) at e)))

    pub rest-refused : (v : Value T) (rest others : List (Option (Stored T))) (x : Option (Stored T))
        → rest ≡ x ∷ others → DoesRest v rest
        → Extends c first whole (refused (refusal (refused_growth (slot_over c v x)))) (Some v)
    rest-refused v rest others x split h = h (refused (refusal (refused_growth (slot_over c v x)))) (Some v)
        (rw (split) (refused-so v x others (slot_over c v x) refl))

    pub rest-none : (v : Value T) (rest : List (Option (Stored T))) → rest ≡ [] → DoesRest v rest
        → Extends c first whole done (Some v)
    rest-none v rest none h = h done (Some v) (rw (none) (extends-none v))
