-- Changes of values by closures, and runs of values.
use Rattle.std.specs.Prelude.{⊤, ◌≡◌, ℕ, List, length, take, drop}

-- the `len` elements from index `offset` on
abbrev pub cut_of : {T : Type 0} → ℕ → ℕ → List T → List T
cut_of offset len xs = take len (drop offset xs)

-- a call changes the values, and leaves as many
abbrev pub CallChanges : {T : Type 0} → (List T → ⊤ → List T → Type 0) → List T → List T → Type 0
CallChanges {T} call old new = (values : List T) × call old tt values × (length values ≡ length old) × (new ≡ values)
