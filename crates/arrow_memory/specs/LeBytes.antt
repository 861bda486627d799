-- Native values from the bytes of a file, in which they lie one after the other.
use Rattle.std.specs.Prelude.{ℕ, ◌/◌, ◌%◌, ◌==◌, List, codes, if◌then◌else◌, length, map}
use Rattle.std.specs.Simd.{first_chunks}
use Rattle.arrow_types.specs.Types.{Refusal, out_of_memory, out_of_spec}

-- the values of bytes: value i is that of chunk i of `size` bytes
abbrev pub values_of_bytes : {T : Type 0} → ℕ → (List ℕ → T) → List ℕ → List T
values_of_bytes size value bytes = map value (first_chunks size (length bytes / size) bytes)

-- the refusal of bytes that are no whole number of values
abbrev pub uneven_bytes : Refusal
uneven_bytes = out_of_spec (codes "the number of bytes must be a multiple of the size of a value")

-- why bytes are refused: they are no whole number of values, which is tested first, or an allocation failed
abbrev pub bytes_refusal : ℕ → ℕ → Refusal
bytes_refusal size bytes = if bytes % size == 0 then out_of_memory else uneven_bytes
