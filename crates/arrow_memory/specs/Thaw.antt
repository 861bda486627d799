-- What thawing returns: the parts of an array, unchanged or as vectors and growing bitmaps.
use Rattle.std.specs.Prelude.{◌≡◌, ℕ, List, Vec, take}
use Rattle.arrow_memory.specs.Offsets.{last_of}

-- the two parts are these
abbrev pub AreParts : {A B : Type 0} → A → B → A × B → Type 0
AreParts first second parts = (parts.0 ≡ first) × (parts.1 ≡ second)

-- the three parts are these
abbrev pub AreThreeParts : {A B C : Type 0} → A → B → C → A × B × C → Type 0
AreThreeParts first second third parts = (parts.0 ≡ first) × (parts.1 ≡ second) × (parts.2 ≡ third)

-- the parts are a vector of these values, and this mask
abbrev pub AreValueParts : {T B Z : Type 0} → List T → B → Vec T Z × B → Type 0
AreValueParts values mask parts = (parts.0.items ≡ values) × (parts.1 ≡ mask)

-- the parts are these offsets, and a vector of the bytes up to the last of them
abbrev pub AreSlotParts : {Z : Type 0} → List ℕ → List ℕ → List ℕ × Vec ℕ Z → Type 0
AreSlotParts offsets bytes parts = (parts.0 ≡ offsets) × (parts.1.items ≡ take (last_of offsets) bytes)

-- the parts are these offsets, a vector of the bytes up to the last of them, and this mask
abbrev pub AreMaskedSlotParts : {B Z : Type 0} → List ℕ → List ℕ → B → List ℕ × Vec ℕ Z × B → Type 0
AreMaskedSlotParts offsets bytes mask parts =
    (parts.0 ≡ offsets) × (parts.1.items ≡ take (last_of offsets) bytes) × (parts.2 ≡ mask)
