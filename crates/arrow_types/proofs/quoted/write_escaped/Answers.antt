use Rattle.std.proofs.Common.{◌∙◌, ap, arith, sym}
use Rattle.std.proofs.Output.{has_written_of_eq}
use Rattle.std.specs.Char.{encode_utf8}
use Rattle.arrow_types.specs.QuotedText.{escaped_text}
use Rattle.arrow_types.proofs.QuotedLemmas.{escaped-0, escaped-10, escaped-13, escaped-34, escaped-9, escaped-92}
use Rattle.arrow_types.proofs.QuotedLemmas.{escaped-control, escaped-plain, no_letter}
use Rattle.arrow_types.proofs.quoted.write_escaped.Goals as goal

pub returns-in-34 : goal.returns-in-34
returns-in-34 g c = λ plain ok.
    let text = ap (λ x. escaped_text (encode_utf8 x)) c.in-34.is ∙ escaped-34 in
    has_written_of_eq _ _ _ _ _ (sym text) (c.write_str.ensures.writes plain ok)

pub returns-in-92 : goal.returns-in-92
returns-in-92 g c = λ plain ok.
    let text = ap (λ x. escaped_text (encode_utf8 x)) c.in-92.is ∙ escaped-92 in
    has_written_of_eq _ _ _ _ _ (sym text) (c.write_str-in-92.ensures.writes plain ok)

pub returns-in-0 : goal.returns-in-0
returns-in-0 g c = λ plain ok.
    let text = ap (λ x. escaped_text (encode_utf8 x)) c.in-0.is ∙ escaped-0 in
    has_written_of_eq _ _ _ _ _ (sym text) (c.write_str-in-0.ensures.writes plain ok)

pub returns-in-9 : goal.returns-in-9
returns-in-9 g c = λ plain ok.
    let text = ap (λ x. escaped_text (encode_utf8 x)) c.in-9.is ∙ escaped-9 in
    has_written_of_eq _ _ _ _ _ (sym text) (c.write_str-in-9.ensures.writes plain ok)

pub returns-in-10 : goal.returns-in-10
returns-in-10 g c = λ plain ok.
    let text = ap (λ x. escaped_text (encode_utf8 x)) c.in-10.is ∙ escaped-10 in
    has_written_of_eq _ _ _ _ _ (sym text) (c.write_str-in-10.ensures.writes plain ok)

pub returns-in-13 : goal.returns-in-13
returns-in-13 g c = λ plain ok.
    let text = ap (λ x. escaped_text (encode_utf8 x)) c.in-13.is ∙ escaped-13 in
    has_written_of_eq _ _ _ _ _ (sym text) (c.write_str-in-13.ensures.writes plain ok)

pub returns-in_default : goal.returns-in_default
returns-in_default g c = λ plain ok.
    let written = rw c.in_radix.ensures at c.write.ensures.writes in
    let none = no_letter c.args.c (λ e. omega (arith, e)) (λ e. omega (arith, e)) (λ e. omega (arith, e))
    (λ e. omega (arith, e)) (λ e. omega (arith, e)) (λ e. omega (arith, e)) in
    has_written_of_eq _ _ _ _ _ (sym (escaped-control c.args.c none c.if-is_control.true)) (written plain ok)

pub returns-in_default-2 : goal.returns-in_default-2
returns-in_default-2 g c = λ plain ok.
    let none = no_letter c.args.c (λ e. omega (arith, e)) (λ e. omega (arith, e)) (λ e. omega (arith, e))
    (λ e. omega (arith, e)) (λ e. omega (arith, e)) (λ e. omega (arith, e)) in
    let text = escaped-plain c.args.c none c.if-is_control.false in
    has_written_of_eq _ _ _ _ _ (sym text) (c.write_char.ensures.writes plain ok)
