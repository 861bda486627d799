use Rattle.std.proofs.Common.{rules, ◌≡◌, ◌+◌, ◌-◌, ◌<◌, length, take, drop, ap, arith, ◌∙◌}
use Rattle.arrow_check.specs.Pieces.{items_of}
use Rattle.arrow_check.proofs.CallerLemmas.{length-items}
use Rattle.arrow_bytes.specs.Pieces.{around_of}
use Rattle.arrow_bytes.proofs.PieceLemmas.{around-cut, items-cut, piece_cuts, piece_reads}
use Rattle.arrow_bytes.proofs.KindLemmas.{kinds-cut}
use Rattle.arrow_bytes.proofs.values.ByteValuesValues.cut.Goals as goal

pub returns-clause-stored : goal.returns-clause-stored
returns-clause-stored g c =
    let os = c.self.inside.offsets in
    let bytes = c.self.inside.bytes in
    let kept : c.len.result - (c.len_proxy.result - c.args.len) ≡ c.args.len + 1 =
    omega (
      arith,
      c.len.ensures,
      c.buffer.ensures.count,
      c.len_proxy.ensures.count,
      c.requires,
      length-items os bytes c.self.invariant.0.some,
      ap (λ v. length v.items) c.self.view_is,
    ) in
    rw (c.slice.ensures.value, ← c.self.view_is) (ap (λ k. items_of (take k (drop c.args.offset os)) bytes) kept
    ∙ items-cut c.args.offset c.args.len os bytes)

pub returns-clause-around : goal.returns-clause-around
returns-clause-around g c =
    let os = c.self.inside.offsets in
    let bytes = c.self.inside.bytes in
    let kept : c.len.result - (c.len_proxy.result - c.args.len) ≡ c.args.len + 1 =
    omega (
      arith,
      c.len.ensures,
      c.buffer.ensures.count,
      c.len_proxy.ensures.count,
      c.requires,
      length-items os bytes c.self.invariant.0.some,
      ap (λ v. length v.items) c.self.view_is,
    ) in
    let within : c.args.offset + c.args.len < length os =
    omega (
      arith,
      c.requires,
      length-items os bytes c.self.invariant.0.some,
      ap (λ v. length v.items) c.self.view_is,
    ) in
    rw (c.slice.ensures.value, ← c.self.view_is) (ap (λ k. around_of (take k (drop c.args.offset os)) bytes) kept
    ∙ around-cut c.args.offset c.args.len os bytes c.self.invariant.0 within)

pub invariant_of-self : goal.invariant_of-self
invariant_of-self g c =
    let os = c.self.inside.offsets in
    let bytes = c.self.inside.bytes in
    let kept : c.len.result - (c.len_proxy.result - c.args.len) ≡ c.args.len + 1 =
    omega (
      arith,
      c.len.ensures,
      c.buffer.ensures.count,
      c.len_proxy.ensures.count,
      c.requires,
      length-items os bytes c.self.invariant.0.some,
      ap (λ v. length v.items) c.self.view_is,
    ) in (
      search (rules, piece_cuts, piece_reads),
      search (rules, piece_cuts, piece_reads),
      rw (c.slice.ensures.value, kept) (kinds-cut g.K.ByteKind.is_text c.args.offset c.args.len os bytes
          c.self.invariant.2),
    )
