use Rattle.std.proofs.Common.{◌≡◌, ℕ, ◌+◌, ◌-◌, ◌*◌, ◌%◌, ◌==◌, ◌<◌, ◌∙◌, ap, arith, false, get_or, length, slice_get}
use Rattle.std.proofs.Common.{sym, zero-add}
use Rattle.std.specs.Int.{bit_at}
use Rattle.arrow_bitmap.specs.Marks.{mark_at}
use Rattle.arrow_bitmap.proofs.AppendLemmas.{appends-part, extended-marks, joined-marks, length-part}
use Rattle.arrow_bitmap.proofs.AppendLemmas.{read-mark, same-first}
use Rattle.arrow_bitmap.proofs.copy.extend_from_marks.Goals as goal

pub returns-in_err-append_marks-clause-kept : goal.returns-in_err-append_marks-clause-kept
returns-in_err-append_marks-clause-kept c =
    let joined = c.join_byte.new.bytes in
    same-first c.append_marks.new.bytes.items c.args.bytes.now.items c.args.len (λ i low.
    c.append_marks.ensures.kept i (omega (arith, low, joined.ok.0, c.join_byte.ensures.len))
    ∙ c.join_byte.ensures.kept i low)

pub returns-in_err-append_marks-clause-room_left : goal.returns-in_err-append_marks-clause-room_left
returns-in_err-append_marks-clause-room_left c = omega (arith, c.join_byte.ensures.len, c.append_marks.ensures.room)

pub returns-in_ok-append_marks-clause-ok : goal.returns-in_ok-append_marks-clause-ok
returns-in_ok-append_marks-clause-ok c =
    let source = c.args.source.now in
    let joined = c.join_byte.new.bytes in
    let new = c.append_marks.new.bytes.items in
    let len = c.args.len in
    let head = (8 - len % 8) % 8 in
    let rest = c.len-then-head-len.result - head in
    let more = c.range.result in
    let whole : 8 * length joined.items ≡ len + head = omega (arith, joined.ok.0, c.join_byte.ensures.len) in
    let put : (k : ℕ) → k < head → k < length source → mark_at joined.items (len + k) ≡ get_or source k false = λ k here low.
    c.join_byte.ensures.put k (omega (arith, here))
    ∙ sym (read-mark source k (bit_at c.byte.result k == 1) low (ap (slice_get source) (sym (zero-add k))
    ∙ c.byte.ensures k (omega (arith, here)) (omega (arith, low)))) in
    let all : head + rest ≡ length source = omega (
      arith,
      c.if-head-len.true,
      c.len-2.ensures,
      c.len-then-head-len.ensures,
    ) in
    let long : length more ≡ rest = length-part source more head rest c.range.ensures (omega (arith, all)) in
    extended-marks c.args.bytes.now.items joined.items len head source whole c.join_byte.ensures.kept put new
    c.in_ok-append_marks.ensures.kept (λ j low.
    (appends-part (λ mark other. mark) source source more more head rest (length more) joined.items new
    (omega (arith, long)) c.range.ensures c.range.ensures c.in_ok-append_marks.ensures.ok).added j
    (omega (arith, low, long, all)))

pub returns-in_ok-append_marks-clause-kept : goal.returns-in_ok-append_marks-clause-kept
returns-in_ok-append_marks-clause-kept c =
    let joined = c.join_byte.new.bytes in
    same-first c.append_marks.new.bytes.items c.args.bytes.now.items c.args.len (λ i low.
    c.append_marks.ensures.kept i (omega (arith, low, joined.ok.0, c.join_byte.ensures.len))
    ∙ c.join_byte.ensures.kept i low)

pub returns-else-head-len-clause-ok : goal.returns-else-head-len-clause-ok
returns-else-head-len-clause-ok c =
    let source = c.args.source.now in
    let joined = c.join_byte.new.bytes in
    let len = c.args.len in
    let head = (8 - len % 8) % 8 in
    let whole : 8 * length joined.items ≡ len + head = omega (arith, joined.ok.0, c.join_byte.ensures.len) in
    joined-marks c.args.bytes.now.items joined.items len head source whole c.join_byte.ensures.kept (λ k here low.
    c.join_byte.ensures.put k (omega (arith, here))
    ∙ sym (read-mark source k (bit_at c.byte.result k == 1) low (ap (slice_get source) (sym (zero-add k))
    ∙ c.byte.ensures k (omega (arith, here)) (omega (arith, low)))))
    (omega (arith, c.if-head-len.false, c.len-2.ensures))

pub returns-else-head-len-clause-kept : goal.returns-else-head-len-clause-kept
returns-else-head-len-clause-kept c =
    same-first c.join_byte.new.bytes.items c.args.bytes.now.items c.args.len c.join_byte.ensures.kept
