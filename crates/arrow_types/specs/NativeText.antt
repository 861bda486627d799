-- The text of native types of several parts.
use Rattle.std.specs.Prelude.{ℕ, zero, suc, ◌+◌, ◌-◌, ◌*◌, ◌^◌, ℤ, List, ◌∷◌, ◌++◌, codes, map, unsigned_abs}
use Rattle.std.specs.Prelude.{if◌then◌else◌}
use Rattle.std.specs.Fmt.{signed_decimal}
use Rattle.std.specs.Int.{is_negative}
use Rattle.std.specs.Int.Digits.{digits_of}
use Rattle.arrow_types.specs.declared.native_type.days_ms.{days_ms}
use Rattle.arrow_types.specs.declared.native_type.i256.{i256}
use Rattle.arrow_types.specs.declared.native_type.months_days_ns.{months_days_ns}

-- a number in decimal, however many digits it has
abbrev pub long_decimal : ℕ → List ℕ
long_decimal zero = codes "0"
long_decimal (suc n) = map (λ d. 48 + d) (digits_of 10 (suc n))

-- the number high * 2 ^ 128 + low in decimal, after a `-` if it is negative
abbrev pub halves_text : ℤ → ℕ → List ℕ
halves_text high low =
    if is_negative high then 45 ∷ long_decimal (unsigned_abs high * 2 ^ 128 - low)
    else long_decimal (unsigned_abs high * 2 ^ 128 + low)

-- an integer of 256 bits in decimal
abbrev pub i256_text : i256 → List ℕ
i256_text x = halves_text x.0 x.1

-- a part that is not the first
abbrev pub after_comma : ℤ → List ℕ
after_comma n = codes ", " ++ signed_decimal n

-- an interval as its parts, each with its unit, as `1d 2ms`
abbrev pub days_ms_text : days_ms → List ℕ
days_ms_text x = signed_decimal x.0 ++ codes "d " ++ signed_decimal x.1 ++ codes "ms"

-- an interval as its name and its parts, as `days_ms(1, 2)`
abbrev pub days_ms_debug : days_ms → List ℕ
days_ms_debug x = codes "days_ms(" ++ signed_decimal x.0 ++ after_comma x.1 ++ codes ")"

-- an interval as its parts, each with its unit, as `1m 2d 3ns`
abbrev pub months_days_ns_text : months_days_ns → List ℕ
months_days_ns_text x =
    signed_decimal x.0 ++ codes "m " ++ signed_decimal x.1 ++ codes "d " ++ signed_decimal x.2 ++ codes "ns"

-- an interval as its name and its parts, as `months_days_ns(1, 2, 3)`
abbrev pub months_days_ns_debug : months_days_ns → List ℕ
months_days_ns_debug x =
    codes "months_days_ns(" ++ signed_decimal x.0 ++ after_comma x.1 ++ after_comma x.2 ++ codes ")"
