use Rattle.std.proofs.Common.{◌*◌, ◌/◌, ◌≤◌, ◌∙◌, ap, arith, length}
use Rattle.std.specs.Int.{bit_at}
use Rattle.std.proofs.lemmas.List.{get_or_read}
use Rattle.arrow_bitmap.proofs.CopyLemmas.{cut-marks, joined-above, joined-below}
use Rattle.arrow_bitmap.proofs.copy.join_byte.Goals as goal

pub returns-then-len-ne0-clause-kept : goal.returns-then-len-ne0-clause-kept
returns-then-len-ne0-clause-kept c =
    let cut = c.truncate.new.self in
    let room : c.args.len ≤ 8 * length cut.items = omega (arith, cut.ok.0, c.truncate.ensures.len) in
    let read = get_or_read cut.items (c.args.len / 8) c.index-byte.result.now (omega arith) c.index-byte.ensures 0 in
    λ i low. joined-below cut.items c.args.len c.joined.result c.args.above (omega (arith, room)) c.if-len-ne0.true
    (λ k below. c.joined.ensures.kept k below ∙ ap (λ b. bit_at b k) read) c.joined.ensures.put i low
    ∙ cut-marks c.args.bytes.now.items cut.items c.args.len (λ k below.
    c.truncate.ensures.by_index k 0 (omega (arith, below))) i low

pub returns-then-len-ne0-clause-put : goal.returns-then-len-ne0-clause-put
returns-then-len-ne0-clause-put c =
    let cut = c.truncate.new.self in
    let room : c.args.len ≤ 8 * length cut.items = omega (arith, cut.ok.0, c.truncate.ensures.len) in
    let read = get_or_read cut.items (c.args.len / 8) c.index-byte.result.now (omega arith) c.index-byte.ensures 0 in
    joined-above cut.items c.args.len c.joined.result c.args.above (omega (arith, room)) c.if-len-ne0.true
    (λ k low. c.joined.ensures.kept k low ∙ ap (λ b. bit_at b k) read) c.joined.ensures.put

pub returns-else-len-ne0-clause-kept : goal.returns-else-len-ne0-clause-kept
returns-else-len-ne0-clause-kept c = cut-marks c.args.bytes.now.items c.truncate.new.self.items c.args.len (λ k below.
    c.truncate.ensures.by_index k 0 (omega (arith, below)))
