use Rattle.std.proofs.Common.{◌∙◌, ◌≡◌, ◌+◌, ◌-◌, ◌++◌, ap, arith, length, take, to_z-of_z}
use Rattle.std.specs.Fmt.{signed_decimal}
use Rattle.compute_cast.proofs.DecimalLemmas.{text-cut}
use Rattle.compute_cast.proofs.decimals.append_short.Goals as goal

pub returns : goal.returns
returns c =
    let old = c.args.bytes.now.items in
    let written = c.write_short-start in
    let end = c.len.result + (20 - written.result) in
    let at : end ≡ length old + (20 - written.result) = omega (arith, c.len.ensures) in
    c.truncate.ensures.items ∙ ap (take end) c.in_ok-extend_from_slice.ensures.items
    ∙ text-cut old written.new.buffer _ _ written.result end written.ensures.written written.ensures.start at
    ∙ ap (λ number. old ++ signed_decimal number) (to_z-of_z c.ranges.number)
