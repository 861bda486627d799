use Rattle.std.proofs.Common.{◌∙◌, ◌&&◌, ◌^◌, nat_lt, ap, sym, negsuc}
use Rattle.std.specs.Int.{w128}
use Rattle.std.specs.Str.{all_ascii_digits}
use Rattle.std.specs.Str.Parse.{digits_value}
use Rattle.arrow_integers.specs.NativeArithmetics.{fits_signed}
use Rattle.compute_cast.specs.Decimals.{with_sign}
use Rattle.compute_cast.proofs.DigitLemmas.{none-parts, some-parts}
use Rattle.compute_cast.proofs.NumberLemmas.{is-signed, no-number, same-text}
use Rattle.compute_cast.proofs.number.parse_value.Goals as goal

pub returns-in-None : goal.returns-in-None
returns-in-None g c =
    let N = g.T.NativeArithmetics in
    let is_negative = c.split_sign-is_negative.result.0 in
    let digits = c.split_sign-is_negative.result.1.now in
    let read = some-parts (all_ascii_digits digits && nat_lt (digits_value 10 digits) (2 ^ 128)) c.in_ok-value.value
    (digits_value 10 digits) c.in_ok-value.ensures in
    let fails = none-parts (fits_signed w128 (with_sign is_negative c.in_ok-value.value))
    (with_sign is_negative c.in_ok-value.value) c.in-None.ensures in
    no-number N.fits N.wrap g.met.T.NativeArithmetics.fits_128_bits is_negative digits
    (ap (λ n. fits_signed w128 (with_sign is_negative n)) (sym read.1) ∙ fails)
    ∙ same-text N.fits N.wrap c.is_some-is_signed.result is_negative digits c.args.text.now
    (is-signed (N.fits (negsuc 0)) c.is_some-is_signed.result (N.wrap (negsuc 0)) c.from_i128.result c.from_i128.ensures
    c.is_some-is_signed.ensures)
    c.split_sign-is_negative.ensures.minus c.split_sign-is_negative.ensures.digits
