-- How calls fail: with which error, and what they leave.
use Rattle.std.specs.Prelude.{◌≡◌, Result, IfErr}
use Rattle.arrow_types.specs.declared.error.Error.{Error}
use Rattle.arrow_types.specs.declared.error.Error.TheVariants as error

-- the call fails only if an allocation fails
abbrev pub OnlyOutOfMemory : {A : Type 0} → Result A Error → Type 0
OnlyOutOfMemory result = IfErr result (λ e. e ≡ error.OutOfMemory)

-- the call fails only if an allocation fails, and the value is then as it was
abbrev pub OutOfMemoryKeeps : {A V : Type 0} → Result A Error → V → V → Type 0
OutOfMemoryKeeps result old new = IfErr result (λ e. (e ≡ error.OutOfMemory) × (new ≡ old))

-- the call fails only with this error, and the value is then as it was
abbrev pub FailureKeeps : {A V : Type 0} → Result A Error → Error → V → V → Type 0
FailureKeeps result why old new = IfErr result (λ e. (e ≡ why) × (new ≡ old))
