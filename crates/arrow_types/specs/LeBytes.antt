-- Values of native types by their bytes, the least significant first (Arrow columnar format, "Byte Order").
use Rattle.std.specs.Prelude.{ℕ, ℤ, List, take, drop}
use Rattle.std.specs.Int.{Width, cast_signed, from_le_bytes, w128, w32, w64}
use Rattle.arrow_types.specs.declared.native_type.days_ms.{days_ms}
use Rattle.arrow_types.specs.declared.native_type.i256.{i256}
use Rattle.arrow_types.specs.declared.native_type.months_days_ns.{months_days_ns}

-- the signed number of these bytes
abbrev pub signed_of_bytes : Width → List ℕ → ℤ
signed_of_bytes w bytes = cast_signed w (from_le_bytes w bytes)

-- the low half comes first
abbrev pub i256_of_bytes : List ℕ → i256
i256_of_bytes bytes = record { 0 = signed_of_bytes w128 (drop 16 bytes); 1 = from_le_bytes w128 (take 16 bytes) }

abbrev pub days_ms_of_bytes : List ℕ → days_ms
days_ms_of_bytes bytes = record { 0 = signed_of_bytes w32 (take 4 bytes); 1 = signed_of_bytes w32 (drop 4 bytes) }

abbrev pub months_days_ns_of_bytes : List ℕ → months_days_ns
months_days_ns_of_bytes bytes = record {
  0 = signed_of_bytes w32 (take 4 bytes);
  1 = signed_of_bytes w32 (take 4 (drop 4 bytes));
  2 = signed_of_bytes w64 (drop 8 bytes);
}
