-- What commands cost that test no text, and that the index of the entry makes no difference.
use Rattle.std.proofs.Common.{◌≡◌, ℕ, true, false, List, [], ◌∷◌, refl, arith}
use Rattle.arrow_check.specs.Reading.{Cost, RisesAtMost}
use Rattle.arrow_model.specs.Answer.{Answer, not_met}
use Rattle.arrow_model.specs.Kind.{Shape}
use Rattle.arrow_model.specs.Request.{Request, Source, make, parts, cut_pieces}
use Rattle.arrow_model.specs.Step.{StepCosts}
use Rattle.arrow_model.specs.Run.{CostsAtMost, is_parts, sum_over, tested_texts, inner_offsets}

rises-not : (n a : ℕ) → RisesAtMost n a a
rises-not n a = record { never_falls = omega arith; most = omega arith }

-- counts that stay rise by at most whatever is allowed
pub costs-still : {T : Type 0} (commands : List (Request T)) (x : Cost) → CostsAtMost commands x x
costs-still commands x = record {
  ascii = rises-not (sum_over tested_texts commands) x.ascii_tests;
  whole = rises-not (sum_over tested_texts commands) x.whole_tests;
  looked = rises-not (sum_over inner_offsets commands) x.bytes_looked;
}

yes-no : true ≡ false → ⊥
yes-no e = cc

module _ {T : Type 0} where
  -- what isn't about raw parts costs nothing
  pub untested : (request : Request T) (reply : Answer T) (x : Cost) → is_parts request ≡ false
      → StepCosts request reply x x
  untested (make e s (parts t raw mask)) reply x is = absurd (yes-no is)
  untested _ reply x is = refl

  -- nor does what isn't done
  pub unmet-costs : (e : ℕ) (s : Shape) (source : Source T) (x : Cost) → StepCosts (make e s source) not_met x x
  unmet-costs e s (parts t (cut_pieces starts bytes) mask) x = (λ tested. absurd (yes-no tested.0), λ untested. refl)
  unmet-costs e s _ x = refl

  -- in whatever entry it is made
  pub costs-anywhere : (e k : ℕ) (s : Shape) (source : Source T) (reply : Answer T) (x y : Cost)
      → StepCosts (make e s source) reply x y → StepCosts (make k s source) reply x y
  costs-anywhere e k s (parts t (cut_pieces starts bytes) mask) reply x y h = h
  costs-anywhere e k s _ reply x y h = h

  pub most-anywhere : (e k : ℕ) (s : Shape) (source : Source T) (x y : Cost) → CostsAtMost (make e s source ∷ []) x y
      → CostsAtMost (make k s source ∷ []) x y
  most-anywhere e k s (parts t (cut_pieces starts bytes) mask) x y h =
      record { ascii = h.ascii; whole = h.whole; looked = h.looked }
  most-anywhere e k s _ x y h = record { ascii = h.ascii; whole = h.whole; looked = h.looked }
