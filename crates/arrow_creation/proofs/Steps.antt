-- What is put into an empty entry is a step of the whole table.
use Rattle.std.proofs.Common.{◌≡◌, ℕ, true, false, List, map, is_some, slice_get, slice_set, Option, Some, None}
use Rattle.std.proofs.Common.{option_map, Ok, refl, arith}
use Rattle.arrow_creation.specs.Outcome.{MadeBy}
use Rattle.arrow_entry.specs.declared.entry.Entry.{Entry}
use Rattle.arrow_entry.specs.Entry.{value_of}
use Rattle.arrow_entry.proofs.CallerLemmas.{at-transition, stays-transition}
use Rattle.arrow_model.specs.Answer.{Answer, done, not_met}
use Rattle.arrow_model.specs.Transition.{Transition}
use Rattle.arrow_model.specs.Step.{AtEntry, IntoEmpty}

module _ {T O : Type 0} (transition : Transition T) where
  -- where something is, the condition fails
  some-unmet : (x : Option (Entry T O)) → is_some x ≡ true
      → IntoEmpty transition (option_map value_of x) not_met (option_map value_of x)
  some-unmet None is = grind arith
  some-unmet (Some entry) is = (refl, refl)

  -- where nothing is, the transition decides
  none-puts : (x y : Option (Entry T O)) (reply : Answer T) → is_some x ≡ false → transition reply (option_map value_of y)
      → IntoEmpty transition (option_map value_of x) reply (option_map value_of y)
  none-puts None y reply none h = h
  none-puts (Some entry) y reply none h = grind arith

  none-stays : (x : Option (Entry T O)) (reply : Answer T) → is_some x ≡ false → transition reply None
      → IntoEmpty transition (option_map value_of x) reply (option_map value_of x)
  none-stays None reply none h = h
  none-stays (Some entry) reply none h = grind arith

  -- what was made, and the answer
  pub made-done : (made : Option (Entry T O)) → is_some made ≡ true → MadeBy (Ok made) transition
      → transition done (option_map value_of made)
  made-done None some h = grind arith
  made-done (Some entry) some h = h

  pub made-unmet : (made : Option (Entry T O)) → is_some made ≡ false → MadeBy (Ok made) transition
      → transition not_met (option_map value_of made)
  made-unmet None none h = h
  made-unmet (Some entry) none h = grind arith

  -- an entry of a table, which was read
  module _ (entries : List (Option (Entry T O))) (e : ℕ) (x : Option (Entry T O))
      (there : slice_get entries e ≡ Some x) where
    pub filled-unmet : is_some x ≡ true → AtEntry (map (option_map value_of) entries) e (IntoEmpty transition) not_met
        (map (option_map value_of) entries)
    filled-unmet some = stays-transition (option_map value_of) (IntoEmpty transition) entries e x not_met there (some-unmet x some)

    pub empty-stays : (reply : Answer T) → is_some x ≡ false → transition reply None
        → AtEntry (map (option_map value_of) entries) e (IntoEmpty transition) reply (map (option_map value_of) entries)
    empty-stays reply none h = stays-transition (option_map value_of) (IntoEmpty transition) entries e x reply there
        (none-stays x reply none h)

    pub empty-filled : (y : Option (Entry T O)) (reply : Answer T) → is_some x ≡ false
        → transition reply (option_map value_of y) → AtEntry (map (option_map value_of) entries) e (IntoEmpty transition) reply
        (map (option_map value_of) (slice_set entries e y))
    empty-filled y reply none h = at-transition (option_map value_of) (IntoEmpty transition) entries (slice_set entries e y) e x y
        reply
        there refl (none-puts x y reply none h)
