use Rattle.std.proofs.Common.{◌++◌, ◌∙◌, ap, arith, string_bytes}
use Rattle.hex.specs.Hex.{encode_lower}
use Rattle.arrow_syntax.proofs.Digits.{one_byte, all_bytes}
use Rattle.arrow_syntax.proofs.print.push_hex.Goals as goal

pub loop-byte-preserved : goal.loop-byte-preserved
loop-byte-preserved c =
    let bytes = c.args.bytes.now in
    let old = string_bytes c.loop-byte.text in
    let mid = string_bytes c.push.new.self in
    let high = c.in_ok-push.ensures.bytes
    ∙ ap (λ digit. old ++ digit) (c.in_ok-push.ensures.ascii c.digit.ensures.ascii) in
    let low = c.in_ok-push-2.ensures.bytes
    ∙ ap (λ digit. mid ++ digit) (c.in_ok-push-2.ensures.ascii c.digit-in-loop-byte.ensures.ascii) in
    one_byte bytes old mid (string_bytes c.push-in-loop-byte.new.self) (string_bytes c.args.text.now
    ++ encode_lower bytes) c.loop-byte.byte-index c.digit.result c.digit-in-loop-byte.result
    c.loop-byte-test.true c.digit.ensures.value c.digit-in-loop-byte.ensures.value high low c.loop-byte.invariant

pub returns : goal.returns
returns c =
    let bytes = c.args.bytes.now in
    all_bytes bytes (string_bytes c.loop-byte.text) (string_bytes c.args.text.now
    ++ encode_lower bytes) c.loop-byte.byte-index (omega arith) c.loop-byte.invariant
