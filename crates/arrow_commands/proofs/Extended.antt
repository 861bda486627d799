-- The row of slots that are appended to a builder with nulls.
use Rattle.std.proofs.Common.{◌≡◌, true, false, List, Option, Some, refl}
use Rattle.std.specs.List.{list_all}
use Rattle.arrow_model.specs.Answer.{Answer, not_met}
use Rattle.arrow_model.specs.Item.{Stored, slot_fits}
use Rattle.arrow_model.specs.Kind.{is_nullable}
use Rattle.arrow_model.specs.Request.{extend}
use Rattle.arrow_model.specs.Step.{Does, Extends}
use Rattle.arrow_model.specs.Value.{Types, Value}

module _ {T : Type 0} (c : Types T) (old : Option (Value T)) (v : Value T) (xs : List (Option (Stored T))) (is : old
    ≡ Some v) (nullable : is_nullable v.shape ≡ true) where
  pub extended : list_all (slot_fits v.shape.value_kind) xs ≡ true → (reply : Answer T) (new : Option (Value T))
      → Extends c v xs reply new → Does c old (extend xs) reply new
  extended fit reply new h = rw (is, nullable, fit) h

  pub unfit : list_all (slot_fits v.shape.value_kind) xs ≡ false → Does c old (extend xs) not_met (Some v)
  unfit fails = rw (is, nullable, fails) (refl, refl)
