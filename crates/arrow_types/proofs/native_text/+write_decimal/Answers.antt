use Rattle.std.proofs.Common.{◌≡◌, ◌+◌, ◌*◌, ◌%◌, ◌^◌, ◌<◌, ◌≤◌, [], ◌∷◌, ap, arith, is_ok, sym, subst, ◌∙◌}
use Rattle.std.proofs.Output.{has_written_append, has_written_from_eq, has_written_of_eq}
use Rattle.std.proofs.lemmas.Str.{encode_ascii}
use Rattle.std.specs.Char.{encode_utf8}
use Rattle.std.specs.Fmt.{IsPlainFormatter}
use Rattle.arrow_types.specs.NativeText.{long_decimal}
use Rattle.arrow_types.proofs.NativeTextLemmas.{decimal-more, decimal-one}
use Rattle.arrow_types.proofs.native_text.+write_decimal.Goals.{else-front_high-ne0+else-front_low-ne0}
use Rattle.arrow_types.proofs.native_text.+write_decimal.Goals.{then-front_high-ne0+in_ok-write_decimal}
use Rattle.arrow_types.proofs.native_text.+write_decimal.Goals as goal

pub returns : goal.returns
returns g t c = λ plain ok.
    let took = g.W.Write.write_str_gives in
    let n = c.args.high * 2 ^ 128 + c.args.low in
    let quotient = c.div_ten-front_high.ensures.quotient in
    let digit = c.div_ten-front_high.ensures.remainder in
    let glyph : encode_utf8 (48 + c.div_ten-front_high.result.2) ≡ (48 + n % 10) ∷ [] =
    encode_ascii _ (omega (arith, digit)) ∙ ap (λ d. (48 + d) ∷ []) digit in
    elim c.if-front_high-ne0.branch [
      | then-front_high-ne0+in_ok-write_decimal w ↦
          let long : 10 ≤ n = elim w.then-front_high-ne0.branch [
            | goal.then-front_high-ne0-via-then-front_high-ne0 x ↦
                let some = x.if-front_high-ne0.true in omega (arith, quotient, some)
            | goal.then-front_high-ne0-via-else-front_high-ne0+then-front_low-ne0 x ↦
                let some = x.if-front_low-ne0.true in omega (arith, quotient, some)
          ] in
          let front = w.write_decimal.ensures plain (ap is_ok w.in_ok-write_decimal.was) in
          let last = c.write_char.ensures.writes (subst IsPlainFormatter (sym w.f-is) front.plain) ok in
          has_written_of_eq took _ _ _ _ (sym (decimal-more n long))
          (has_written_append took _ _ _ _ _
          (has_written_of_eq took _ _ _ _ (ap long_decimal quotient) front)
          (has_written_of_eq took _ _ _ _ glyph (has_written_from_eq took _ _ _ _ w.f-is last)))
      | else-front_high-ne0+else-front_low-ne0 w ↦
          let short : n < 10 =
          let a = w.if-front_high-ne0.false in let b = w.if-front_low-ne0.false in omega (arith, quotient, a, b) in
          let last = c.write_char.ensures.writes (subst IsPlainFormatter (sym w.f-is) plain) ok in
          has_written_of_eq took _ _ _ _ (glyph ∙ sym (decimal-one n short))
          (has_written_from_eq took _ _ _ _ w.f-is last)
    ]
