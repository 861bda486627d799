-- Reads and writes of devices whose bytes are known.
use Rattle.std.specs.Prelude.{◌≡◌, ℕ, ◌++◌, List, [], Bool, Option, Some, IfSome, IsTrue}
use Rattle.std.specs.Io.{StartsWith}
use Rattle.std.specs.Io.KnownBytes.{Appends, Consumes, IsAtEnd}

-- bytes that were read stand at the end of others; none are left if the input is at its end
abbrev pub Takes : Option (List ℕ) → Option (List ℕ) → List ℕ → List ℕ → Bool → Type 0
Takes before after old new is_end =
    (bytes : List ℕ) × (new ≡ old ++ bytes) × Consumes before after bytes × (IsTrue is_end → IsAtEnd after)

-- all known bytes were read
abbrev pub IsWhole : Option (List ℕ) → Option (List ℕ) → List ℕ → Type 0
IsWhole before after bytes = IfSome before (λ known. (bytes ≡ known) × (after ≡ Some []))

-- a beginning of the text was written
abbrev pub PutsFront : Option (List ℕ) → Option (List ℕ) → List ℕ → Type 0
PutsFront before after text = (front : List ℕ) × StartsWith text front × Appends before after front
