-- Text in quotes, as Rust's `{:?}` writes text, but that every character past ASCII is written as it is.
use Rattle.std.specs.Prelude.{ℕ, List, [], ◌∷◌, ◌++◌, codes, Option, None, Some}
use Rattle.std.specs.Fmt.{debug_escape}
use Rattle.std.specs.List.{flat_map}

-- the bytes with escapes: `\"`, `\\`, `\0`, `\t`, `\n`, `\r`, and `\u{1f}` for each other below 32 and for 127
abbrev pub escaped_text : List ℕ → List ℕ
escaped_text text = flat_map (debug_escape 34) text

-- a text in quotes
abbrev pub quoted_text : List ℕ → List ℕ
quoted_text text = 34 ∷ (escaped_text text ++ (34 ∷ []))

-- a text that may be there, as `Some("UTC")` or `None`
abbrev pub quoted_option : Option (List ℕ) → List ℕ
quoted_option None = codes "None"
quoted_option (Some text) = codes "Some(" ++ quoted_text text ++ codes ")"
