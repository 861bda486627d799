use Rattle.std.proofs.Common.{◌≡◌, ◌*◌, ◌-◌, Some, None, length, take, arith}
use Rattle.std.proofs.lemmas.Bool.Decides.{nat_tests}
use Rattle.arrow_syntax.specs.Fields.{hex_bytes}
use Rattle.arrow_syntax.proofs.DigitTexts.{text_broken, text_begins, text_behind_part}
use Rattle.arrow_syntax.proofs.hexadecimal.past_characters.Goals as goal

pub returns-then-not-decode_into-clause-none : goal.returns-then-not-decode_into-clause-none
returns-then-not-decode_into-clause-none c =
    let digits = c.args.digits.now in
    let count = c.min-count.result in
    let none : hex_bytes (take (2 * count) digits)
    ≡ None = grind (arith, c.decode_into.ensures, c.if-not-decode_into.true) in
    text_broken count digits (omega arith) none

pub returns-then-whole-eq0-clause-none : goal.returns-then-whole-eq0-clause-none
returns-then-whole-eq0-clause-none c =
    let digits = c.args.digits.now in
    let count = c.min-count.result in
    let some : hex_bytes (take (2 * count) digits)
    ≡ Some c.decode_into.new.room = grind (arith, c.decode_into.ensures, c.if-not-decode_into.false) in
    let zero : c.whole_characters-whole.result ≡ 0 = grind (arith, nat_tests, c.if-whole-eq0.true) in
    text_begins count digits c.decode_into.new.room (omega arith) some (omega arith)
    (c.whole_characters-whole.ensures.none zero) c.requires

pub returns-clause-some : goal.returns-clause-some
returns-clause-some c =
    let digits = c.args.digits.now in
    let count = c.min-count.result in
    let whole = c.whole_characters-whole.result in
    let some : hex_bytes (take (2 * count) digits)
    ≡ Some c.decode_into.new.room = grind (arith, c.decode_into.ensures, c.if-not-decode_into.false) in
    text_behind_part whole count digits c.decode_into.new.room (length digits - 2 * whole) (omega arith) (omega arith)
    some c.whole_characters-whole.ensures.text (omega arith)
