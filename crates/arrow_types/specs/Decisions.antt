-- Tests that decide a fact: true exactly where it holds.
use Rattle.std.specs.Prelude.{◌≡◌, ℕ, Bool, true, false, ◌&&◌, ◌==◌, refl}
use Rattle.std.specs.Bool.{Decides}
use Rattle.std.specs.Cmp.{unsigned_Decides}
use Rattle.std.proofs.Common.{sym, ◌∙◌, ap, true≢false}

-- if each value has its own number, comparing the numbers decides equality
pub place-Decides : {A : Type 0} (place : A → ℕ) (at : ℕ → A) → ((x : A) → at (place x) ≡ x) → (x y : A)
    → Decides (place x == place y) (x ≡ y)
place-Decides place at again x y =
    let d = unsigned_Decides (place x) (place y) in
    (λ h. sym (again x) ∙ (ap at (d.0 h) ∙ again y), λ e. d.1 (ap place e))

-- two tests together decide both their facts
pub both-Decides : {P Q : Type 0} {r s : Bool} → Decides r P → Decides s Q → Decides (r && s) (P × Q)
both-Decides {P} {Q} {r} {s} d e = both r s d e
  where
    both : (r s : Bool) → Decides r P → Decides s Q → Decides (r && s) (P × Q)
    both true s d e = (λ h. (d.0 refl, e.0 h), λ w. e.1 w.1)
    both false s d e = (λ h. absurd (true≢false (sym h)), λ w. d.1 w.0)
