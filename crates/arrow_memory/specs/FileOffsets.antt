-- Offsets as files hold them.
use Rattle.std.specs.Prelude.{◌≡◌, ℤ, List, [], MatchOption, map}
use Rattle.arrow_types.specs.Types.{out_of_spec, refusal}
use Rattle.arrow_types.specs.declared.error.Error.{Error}
use Rattle.arrow_types.specs.declared.error.Error.TheVariants as error
use Rattle.arrow_memory.specs.Offsets.{file_offsets, first_fault}

-- why these offsets of a file are refused: the first rule that they break, or memory if there are none
abbrev pub IsFileFault : {O : Type 0} → (O → ℤ) → List O → Error → Type 0
IsFileFault number offsets e = MatchOption (first_fault (file_offsets (map number offsets)))
    ((offsets ≡ []) × (e ≡ error.OutOfMemory)) (λ text. refusal e ≡ out_of_spec text)
