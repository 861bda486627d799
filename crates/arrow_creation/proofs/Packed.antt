-- Why packed bits are refused, unless for memory: they are past their bytes.
use Rattle.std.proofs.Common.{◌≡◌, ◌≤◌, ◌*◌, ℕ, Bool, true, false, Result, Ok, Err, refl, arith}
use Rattle.std.proofs.lemmas.Bool.{ltb-true}
use Rattle.std.specs.Prelude.{IfErr, nat_lt, if◌then◌else◌}
use Rattle.arrow_types.specs.Types.{refusal, out_of_memory}
use Rattle.arrow_types.specs.declared.error.Error.{Error}
use Rattle.arrow_types.specs.declared.error.Error.TheVariants as error
use Rattle.arrow_memory.specs.Marks.{bits_past_bytes, packed_refusal}
use Rattle.arrow_creation.specs.Outcome.{UnlessMemory}

unless : {P : Type 0} (e : Error) → P → UnlessMemory e P
unless (error.OutOfSpec text) p = p
unless error.Overflow p = p
unless error.OutOfMemory p = tt

for-memory : (P : Type 0) (e : Error) → refusal e ≡ out_of_memory → UnlessMemory e P
for-memory P (error.OutOfSpec text) is = absurd
    (let no : refusal (error.OutOfSpec text) ≡ out_of_memory → ⊥ = λ is. cc in no is)
for-memory P error.Overflow is = absurd (let no : refusal error.Overflow ≡ out_of_memory → ⊥ = λ is. cc in no is)
for-memory P error.OutOfMemory is = tt

module _ (bytes length : ℕ) where
  by-test : (e : Error) (over : Bool) → nat_lt (8 * bytes) length ≡ over
      → refusal e ≡ (if over then bits_past_bytes else out_of_memory)
      → UnlessMemory e ((length ≤ 8 * bytes → ⊥) × (refusal e ≡ bits_past_bytes))
  by-test e true over is = unless e (λ fit. omega (arith, fit, ltb-true (8 * bytes) length over), is)
  by-test e false fits is = for-memory ((length ≤ 8 * bytes → ⊥) × (refusal e ≡ bits_past_bytes)) e is

  pub packed-refused : {A : Type 0} (result : Result A Error)
      → IfErr result (λ e. refusal e ≡ packed_refusal bytes length)
      → IfErr result (λ e. UnlessMemory e ((length ≤ 8 * bytes → ⊥) × (refusal e ≡ bits_past_bytes)))
  packed-refused (Ok a) is = tt
  packed-refused (Err e) is = by-test e (nat_lt (8 * bytes) length) refl is
