use Rattle.std.proofs.Common.{rules, ◌≡◌, ◌<◌, ◌≤◌, length, arith, ap}
use Rattle.arrow_memory.specs.Offsets.{last_of}
use Rattle.arrow_check.proofs.CallerLemmas.{length-items}
use Rattle.arrow_bytes.proofs.PieceLemmas.{ends-short}
use Rattle.arrow_bytes.proofs.KindLemmas.{kinds-short}
use Rattle.arrow_bytes.proofs.growing.MutableByteValuesMutableValues.keep_first.Goals as goal

pub invariant_of-self : goal.invariant_of-self
invariant_of-self g c =
    let os = c.self.inside.offsets in
    let bytes = c.self.inside.bytes.items in
    let end : c.to_usize.result ≡ last_of c.truncate.new.self = search rules in
    let within : last_of os ≤ length bytes = omega (arith, c.self.invariant.1) in
    let low : c.args.len < length os = omega (
      arith,
      c.requires,
      length-items os bytes c.self.invariant.0.some,
      ap (λ v. length v.items) c.self.view_is,
    ) in (
      c.last.ensures.legal,
      rw (c.truncate-2.ensures.items, end, c.truncate.ensures) (ends-short c.args.len os bytes c.self.invariant.0
          within low),
      rw (c.truncate-2.ensures.items, end, c.truncate.ensures) (kinds-short g.K.ByteKind.is_text c.args.len os bytes
          c.self.invariant.0 within low c.self.invariant.2),
    )
