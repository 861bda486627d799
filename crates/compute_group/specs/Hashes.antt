-- Hashes of slots, by the fixed hash function of std's maps.
use Rattle.std.specs.Prelude.{◌≡◌, ℕ, List, fold, map, None, Option}
use Rattle.arrow_types.specs.Types.{default_logical_type}
use Rattle.arrow_types.specs.declared.primitive_type.PrimitiveType.TheVariants.{UInt64}
use Rattle.arrow_column.specs.Column.{Column, ColumnWith, column_of_parts, slots_of}
use Rattle.std.specs.Hash as fed
use Rattle.std.specs.Hash.FoldHasher as folding

-- the hash of these inputs of the hash function
abbrev pub hash_of : List (List ℕ) → ℕ
hash_of inputs = folding.finish (fold folding.write folding.initial inputs)

-- the hash of a slot; `input` says what a valid one feeds to the hash function
abbrev pub hash_slot : {S : Type 0} → (S → List (List ℕ)) → Option S → ℕ
hash_slot input slot = hash_of (fed.option input slot)

-- an array of the hash of each key, without a mask; `input` says what a key feeds to the hash function
abbrev pub HashesKeys : {K : Type 0} → (K → List (List ℕ)) → List K → Column ℕ → Type 0
HashesKeys input keys made = made ≡ column_of_parts (default_logical_type UInt64) (map (λ key. hash_of (input key)) keys) None

-- what a slot of bytes feeds to the hash function: the same as a text of Rust
abbrev pub bytes_input : Option (List ℕ) → List (List ℕ)
bytes_input = fed.option fed.str

-- an array of the hash of each slot of a column, without a mask; `input` says what a slot feeds to the hash function
abbrev pub HashesSlots : {A S : Type 0} → (Option S → List (List ℕ)) → ColumnWith A S → Column ℕ → Type 0
HashesSlots input column made = HashesKeys input (slots_of column) made
