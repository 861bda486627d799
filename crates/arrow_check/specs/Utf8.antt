-- UTF-8: which bytes are a character, and which are text (Unicode Standard, Table 3-7, "Well-Formed UTF-8 Byte
-- Sequences").
use Rattle.std.specs.Prelude.{◌≡◌, ℕ, ◌⊎◌, ⊤, List, [], ◌∷◌}
use Rattle.std.specs.Int.{IsInRange}
use Rattle.std.specs.List.{concat, AllByRecursion}

-- the bytes are one in each of these ranges, in order; a range is its least and its greatest byte
abbrev pub AreInRow : List (ℕ × ℕ) → List ℕ → Type 0
AreInRow [] [] = ⊤
AreInRow (range ∷ row) (byte ∷ bytes) = IsInRange range.0 range.1 byte × AreInRow row bytes
AreInRow [] (byte ∷ bytes) = ⊥
AreInRow (range ∷ row) [] = ⊥

abbrev pub AreInSome : List (List (ℕ × ℕ)) → List ℕ → Type 0
AreInSome [] bytes = ⊥
AreInSome (row ∷ rows) bytes = AreInRow row bytes ⊎ AreInSome rows bytes

-- the rows of the table: the ranges of the first, second, third and fourth byte
abbrev pub character_rows : List (List (ℕ × ℕ))
character_rows =
    ((0x00, 0x7F) ∷ [])
    ∷ ((0xC2, 0xDF) ∷ (0x80, 0xBF) ∷ [])
    ∷ ((0xE0, 0xE0) ∷ (0xA0, 0xBF) ∷ (0x80, 0xBF) ∷ [])
    ∷ ((0xE1, 0xEC) ∷ (0x80, 0xBF) ∷ (0x80, 0xBF) ∷ [])
    ∷ ((0xED, 0xED) ∷ (0x80, 0x9F) ∷ (0x80, 0xBF) ∷ [])
    ∷ ((0xEE, 0xEF) ∷ (0x80, 0xBF) ∷ (0x80, 0xBF) ∷ [])
    ∷ ((0xF0, 0xF0) ∷ (0x90, 0xBF) ∷ (0x80, 0xBF) ∷ (0x80, 0xBF) ∷ [])
    ∷ ((0xF1, 0xF3) ∷ (0x80, 0xBF) ∷ (0x80, 0xBF) ∷ (0x80, 0xBF) ∷ [])
    ∷ ((0xF4, 0xF4) ∷ (0x80, 0x8F) ∷ (0x80, 0xBF) ∷ (0x80, 0xBF) ∷ [])
    ∷ []

-- the bytes are one character
abbrev pub IsCharacter : List ℕ → Type 0
IsCharacter = AreInSome character_rows

-- the bytes are text: characters, one after the other
abbrev pub IsWellFormed : List ℕ → Type 0
IsWellFormed bytes = (characters : List (List ℕ)) × AllByRecursion IsCharacter characters × (concat characters ≡ bytes)
