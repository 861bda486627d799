-- The slots of a borrowed entry are those that the command `Slots` answers.
use Rattle.std.proofs.Common.{◌≡◌, ℕ, option_and_then, slice_get, slice_set, Option, Some, None, MatchOption}
use Rattle.std.proofs.Common.{option_map, refl, sym, arith}
use Rattle.arrow_entry.specs.declared.entry.Entry.{Entry}
use Rattle.arrow_model.specs.Answer.{Answer, not_met}
use Rattle.arrow_entry.specs.Entry.{value_of}
use Rattle.arrow_model.specs.Value.{State, Types, Value}
use Rattle.arrow_model.specs.Request.{all_slots}
use Rattle.arrow_model.specs.Step.{AtEntry, Does, entry_at}
use Rattle.arrow_entry.proofs.CallerLemmas.{set-same}
use Rattle.arrow_table.specs.Listed.{listed}

module _ {T O : Type 0} (c : Types T) where
  -- nothing changes where slots are listed
  lists : (lent : Option (Entry T O))
      → Does c (option_map value_of lent) all_slots (listed lent) (option_map value_of lent)
  lists None = (refl, refl)
  lists (Some kept) = (refl, refl)

  past : (lent : Option (Entry T O)) → None ≡ option_map value_of lent → listed lent ≡ not_met
  past None is = refl
  past (Some kept) is = grind arith

  at-found : (found : Option (Option (Value T))) (state : State T) (e : ℕ) (lent : Option (Entry T O))
      → slice_get state e ≡ found → option_and_then (λ entry. entry) found ≡ option_map value_of lent
      → MatchOption found ((listed lent ≡ not_met) × (state ≡ state)) (λ old. (kept : Option (Value T))
      × Does c old all_slots (listed lent) kept × (state ≡ slice_set state e kept))
  at-found None state e lent there is = (past lent is, refl)
  at-found (Some old) state e lent there is = (old, rw is (lists lent), sym (set-same state e old there))

  pub tells : (state : State T) (e : ℕ) (lent : Option (Entry T O)) → entry_at state e ≡ option_map value_of lent
      → AtEntry state e (λ old. Does c old all_slots) (listed lent) state
  tells state e lent is = at-found (slice_get state e) state e lent refl is
