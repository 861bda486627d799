use Rattle.std.proofs.Common.{MatchBool, ◌-◌, ◌/◌, length, take, drop, subst, arith, length-take, length-drop}
use Rattle.std.specs.Str.{IsAscii, IsNotAscii}
use Rattle.arrow_check.proofs.AsciiLemmas.{ascii-parts, ascii-more, ascii-rest, both-match, high-part, match-weaker}
use Rattle.arrow_check.proofs.cost.is_ascii_by_halves.Goals as goal

pub loop-at-preserved : goal.loop-at-preserved
loop-at-preserved c =
    let bytes = c.args.bytes.now in
    let half = length bytes / 2 in
    let at = c.loop-at.at in
    let front = take half bytes in
    let back = take (length bytes - half) (drop half bytes) in
    let both = both-match c.is_ascii_block-first.result c.is_ascii_block-second.result _ _ _ _ (IsNotAscii bytes)
    (λ high. high-part bytes 0 half (high-part front at 64 high)) (λ high.
    high-part bytes half (length bytes - half) (high-part back at 64 high))
    c.is_ascii_block-first.ensures c.is_ascii_block-second.ensures in
    let ascii : IsAscii (take 64 (drop at front)) × IsAscii (take 64 (drop at back)) =
    subst (λ b. MatchBool b (IsAscii (take 64 (drop at front)) × IsAscii (take 64 (drop at back)))
    (IsNotAscii bytes)) c.if-not-first-second.false both in
    record {
      within = omega arith;
      front = ascii-more front at 64 c.loop-at.invariant.front ascii.0;
      back = ascii-more back at 64 c.loop-at.invariant.back ascii.1;
    }

pub returns-then-not-first-second : goal.returns-then-not-first-second
returns-then-not-first-second c =
    let bytes = c.args.bytes.now in
    let half = length bytes / 2 in
    let at = c.loop-at.at in
    let front = take half bytes in
    let back = take (length bytes - half) (drop half bytes) in
    let both = both-match c.is_ascii_block-first.result c.is_ascii_block-second.result _ _ _ _ (IsNotAscii bytes)
    (λ high. high-part bytes 0 half (high-part front at 64 high)) (λ high.
    high-part bytes half (length bytes - half) (high-part back at 64 high))
    c.is_ascii_block-first.ensures c.is_ascii_block-second.ensures in
    subst (λ b. MatchBool b (IsAscii (take 64 (drop at front)) × IsAscii (take 64 (drop at back)))
    (IsNotAscii bytes)) c.if-not-first-second.true both

pub returns : goal.returns
returns c =
    let bytes = c.args.bytes.now in
    let half = length bytes / 2 in
    let at = c.loop-at.at in
    let front = take half bytes in
    let back = take (length bytes - half) (drop half bytes) in
    let first = ascii-parts front at c.loop-at.invariant.front
    (ascii-rest front at _ c.if-not-is_ascii.ensures.cases (omega (arith, length-take half bytes))) in
    match-weaker c.is_ascii-2.result _ _ (IsAscii bytes) (IsNotAscii bytes)
    (λ ascii. ascii-parts bytes half first (ascii-rest bytes half (length bytes - half)
    (ascii-parts back at c.loop-at.invariant.back
    (ascii-rest back at _ ascii (omega (
      arith,
      length-take (length bytes - half) (drop half bytes),
      length-drop half bytes,
    )))) (omega arith)))
    (λ high. high-part bytes half (length bytes - half) (high-part back at _ high))
    c.is_ascii-2.ensures.cases
