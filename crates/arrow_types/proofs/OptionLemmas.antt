-- Lemmas about booleans, options and results.
use Rattle.std.proofs.Common.{◌≡◌, Bool, true, false, ◌&&◌, if◌then◌else◌, List, ℕ, Option, Some, None, is_some}
use Rattle.std.proofs.Common.{option_map, Result, Ok, Err, IfErr, IsErrAnd, refl, sym, subst, ap₂}
use Rattle.arrow_types.specs.declared.error.Error.{Error}

pub and-true : (b : Bool) → (b && true) ≡ b
and-true true = refl
and-true false = refl

pub is_some-option_map : {X Y : Type 0} (f : X → Y) (o : Option X) → is_some (option_map f o) ≡ is_some o
is_some-option_map f None = refl
is_some-option_map f (Some x) = refl

-- ---- the text of the first of two faults

pub no-second_fault : (a b : Bool) (s t : List ℕ) → (if a then Some s else (if b then Some t else None)) ≡ None
    → b ≡ false
no-second_fault true b s t e = absurd (cc)
no-second_fault false true s t e = absurd (cc)
no-second_fault false false s t e = refl

pub no-faults : (a b : Bool) (s t : List ℕ) → a ≡ false → b ≡ false
    → (if a then Some s else (if b then Some t else None)) ≡ None
no-faults a b s t first rest = ap₂ (λ x y. if x then Some s else (if y then Some t else None)) first rest

-- ---- results

-- an error that a `?` passes on
pub on-residual : {R : Type 0} (answer : Result R Error) (e : Error) (P : Error → Type 0)
    → IsErrAnd answer (λ x. x ≡ e) → P e → IfErr answer P
on-residual (Ok x) e P is fact = tt
on-residual (Err x) e P is fact = subst P (sym is) fact
