-- Which offsets cut bytes into texts, and why others are refused.
use Rattle.std.specs.Prelude.{◌≡◌, ℕ, ◌≤◌, List, length, All, nat_lt, codes, if◌then◌else◌}
use Rattle.arrow_types.specs.Types.{Refusal, out_of_spec, refusal}
use Rattle.arrow_types.specs.declared.error.Error.{Error}
use Rattle.arrow_memory.specs.Offsets.{last_of}
use Rattle.arrow_check.specs.Bounds.{past_values}
use Rattle.arrow_check.specs.Pieces.{items_of}
use Rattle.arrow_check.specs.Utf8.{IsWellFormed}

-- each of these is text by itself
abbrev pub AreTexts : List (List ℕ) → Type 0
AreTexts = All IsWellFormed

-- the offsets lie within the bytes, and every item between two of them is text
abbrev pub CutTexts : List ℕ → List ℕ → Type 0
CutTexts offsets bytes = (last_of offsets ≤ length bytes) × AreTexts (items_of offsets bytes)

-- an item is no text
abbrev pub not_text : Refusal
not_text = out_of_spec (codes "every text between two offsets must be UTF-8")

-- why offsets that don't are refused: the last is past the bytes, or else an item is no text
abbrev pub text_refusal : List ℕ → List ℕ → Refusal
text_refusal offsets bytes = if nat_lt (length bytes) (last_of offsets) then past_values else not_text

-- the offsets don't pass a test over the bytes, and the error says why
abbrev pub RefusesText : (List ℕ → List ℕ → Type 0) → List ℕ → List ℕ → Error → Type 0
RefusesText passes offsets bytes e = (¬ (passes offsets bytes)) × (refusal e ≡ text_refusal offsets bytes)
