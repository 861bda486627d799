-- Bytes that are all ASCII: the answer of a test, and that they are text.
use Rattle.std.specs.Prelude.{◌≡◌, ℕ, ◌<◌, Bool, List, [], ◌∷◌, refl, MatchBool}
use Rattle.std.proofs.Common.{suc, ap, inl, arith}
use Rattle.std.specs.List.{concat, AllByRecursion}
use Rattle.std.specs.Str.{IsAscii, IsNotAscii}
use Rattle.arrow_check.specs.Utf8.{IsCharacter, IsWellFormed}

-- each byte by itself
abbrev pub singles : List ℕ → List (List ℕ)
singles [] = []
singles (byte ∷ bytes) = (byte ∷ []) ∷ singles bytes

pub singles_are_characters : (bytes : List ℕ) → IsAscii bytes → AllByRecursion IsCharacter (singles bytes)
singles_are_characters [] ascii = tt
singles_are_characters (byte ∷ bytes) ascii =
    let low : byte < 128 = ascii 0 in
    (inl (omega arith, tt), singles_are_characters bytes (λ i. ascii (suc i)))

pub concat-singles : (bytes : List ℕ) → concat (singles bytes) ≡ bytes
concat-singles [] = refl
concat-singles (byte ∷ bytes) = ap (λ rest. byte ∷ rest) (concat-singles bytes)

pub ascii_is_text : (bytes : List ℕ) → IsAscii bytes → IsWellFormed bytes
ascii_is_text bytes ascii = (singles bytes, singles_are_characters bytes ascii, concat-singles bytes)

-- the boolean is whether the bytes are ASCII
abbrev pub TellsAscii : Bool → List ℕ → Type 0
TellsAscii answer bytes = MatchBool answer (IsAscii bytes) (IsNotAscii bytes)
