-- Lemmas about what fields and header fields mean.
use Rattle.std.proofs.Common.{◌≡◌, ◌^◌, ◌<◌, ◌&&◌, ℕ, ℤ, pos, negsuc, List, Option, None, Some, Result, Ok, Err, true, false}
use Rattle.std.proofs.Common.{refl, rules, arith, inl, inr, w64, sym, MatchOption}
use Rattle.std.specs.Fmt.{signed_decimal}
use Rattle.std.specs.Prelude.{nat_lt}
use Rattle.std.specs.Str.{bytes_eq}
use Rattle.std.specs.Str.Parse.{ParsesSigned, signed_digits_value}
use Rattle.std.specs.Result.{result_ok}
use Rattle.std.proofs.lemmas.Bool.{cases_Bool}
use Rattle.std.proofs.lemmas.Fmt.{parse-signed_decimal}
use Rattle.std.proofs.lemmas.Slice.Eq.{bytes_eq-Decides}
use lib.Signed.{mag}
use Rattle.example_csv.specs.Fields.{is_i64, parsed_number}

i64-mag : (z : ℤ) → is_i64 z ≡ true → mag z < 2 ^ 63
i64-mag (pos n) e = search rules
i64-mag (negsuc n) e = search rules

-- what does not parse is not the text of a number
pub no-number : {E : Type 0} (field : List ℕ) (r : Result ℤ E) → ParsesSigned w64 10 field r → result_ok r ≡ None
    → parsed_number field ≡ None
no-number field (Ok v) h e = cc
no-number field (Err e) h none =
    let value = signed_digits_value 10 field in
    elim (cases_Bool (is_i64 value && bytes_eq (signed_decimal value) field)) [
      | inl test ↦
          let fits : is_i64 value ≡ true = search rules in
          let same : bytes_eq (signed_decimal value) field ≡ true = search rules in
          let text : signed_decimal value ≡ field = search rules in
          absurd (cc (parse-signed_decimal w64 value field (Err e) (record { sfits = i64-mag value fits }) (i64-mag value fits) (sym text) h))
      | inr fails ↦ rw fails refl
    ]
