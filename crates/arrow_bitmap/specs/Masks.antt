-- Masks: the marks of slots, where there are any (Arrow columnar format, "Validity bitmaps").
use Rattle.std.specs.Prelude.{⊤, ◌≡◌, ◌<◌, ℕ, Bool, true, List, length, slice_get, Option, Some, None, IfSome}

-- a mask, where there is one, has a mark for each value
abbrev pub FitsMask : {S : Type 0} → List S → Option (List Bool) → Type 0
FitsMask values mask = IfSome mask (λ marks. length marks ≡ length values)

-- the slot at index i is valid; without a mask every slot is
abbrev pub IsValidAt : Option (List Bool) → ℕ → Type 0
IsValidAt None i = ⊤
IsValidAt (Some marks) i = slice_get marks i ≡ Some true

-- two lists of as many stored values have the same value wherever a slot is valid
abbrev pub AgreeWhere : {S : Type 0} → Option (List Bool) → List S → List S → Type 0
AgreeWhere mask values others = (i : ℕ) → i < length values → IsValidAt mask i → slice_get values i ≡ slice_get others i
