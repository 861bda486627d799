use Rattle.std.proofs.Common.{◌≡◌, ◌+◌, ◌-◌, ◌*◌, ◌%◌, ◌≤◌, ◌∙◌, [], ap, arith, count_by, length, not, refl, subst}
use Rattle.std.proofs.Common.{sym, vec_len}
use Rattle.arrow_bitmap.specs.Marks.{marks}
use Rattle.arrow_bitmap.specs.MarkWrites.{AppendsCombined}
use Rattle.arrow_bitmap.proofs.AppendLemmas.{appends-none, length-part, part-appended, part-counted}
use Rattle.arrow_bitmap.proofs.MarkLemmas.{clear-empty, clear-le}
use Rattle.arrow_bitmap.proofs.ops.combine_lists.Goals as goal

pub loop-turn-init : goal.loop-turn-init
loop-turn-init g c = record {
  room = omega (arith, c.in_ok-bytes.ensures.capacity, c.div_ceil.ensures, c.len-count.ensures);
  appended = subst (AppendsCombined g.O.MarkOp.op c.args.first.now c.args.second.now 0 0 [])
      (sym c.in_ok-bytes.ensures.items)
      (appends-none g.O.MarkOp.op c.args.first.now c.args.second.now 0 0 [] refl);
  long = c.in_ok-bytes.ensures.len;
  counted = omega (arith, c.new-set.ensures, clear-empty c.in_ok-bytes.bytes.items 0 0 refl);
}

pub push_combined-bytes-requires-clause-same : goal.push_combined-bytes-requires-clause-same
push_combined-bytes-requires-clause-same g c =
    let a = 2048 * c.loop-turn.turn in
    let within : a + 2048 ≤ length c.args.first.now = omega (arith, c.loop-turn-test.true, c.len-count.ensures) in
    length-part c.args.first.now c.range-one.result a 2048 c.range-one.ensures within
    ∙ sym (length-part c.args.second.now c.range-other.result a 2048 c.range-other.ensures
    (omega (arith, within, c.requires)))

pub push_combined-bytes-requires-clause-room : goal.push_combined-bytes-requires-clause-room
push_combined-bytes-requires-clause-room g c =
    let a = 2048 * c.loop-turn.turn in
    let within : a + 2048 ≤ length c.args.first.now = omega (arith, c.loop-turn-test.true, c.len-count.ensures) in
    let long = length-part c.args.first.now c.range-one.result a 2048 c.range-one.ensures within in
    omega (arith, within, long, c.loop-turn.invariant.long, c.loop-turn.invariant.room)

pub add_four-requires-clause-within : goal.add_four-requires-clause-within
add_four-requires-clause-within g c =
    let a = 2048 * c.loop-turn.turn in
    let within : a + 2048 ≤ length c.args.first.now = omega (arith, c.loop-turn-test.true, c.len-count.ensures) in
    let long = length-part c.args.first.now c.range-one.result a 2048 c.range-one.ensures within in
    omega (arith, long, c.loop-turn.invariant.long, c.push_combined-bytes.ensures.len, c.push_combined-bytes.result.ok.0)

pub add_four-requires-clause-fits : goal.add_four-requires-clause-fits
add_four-requires-clause-fits g c = omega (
  arith,
  c.loop-turn-test.true,
  c.len-count.type_inv,
  c.loop-turn.invariant.counted,
)

pub loop-turn-preserved : goal.loop-turn-preserved
loop-turn-preserved g c =
    let op = g.O.MarkOp.op in
    let first = c.args.first.now in
    let second = c.args.second.now in
    let xs = c.range-one.result in
    let ys = c.range-other.result in
    let mid = c.loop-turn.bytes.items in
    let new = c.push_combined-bytes.result.items in
    let a = 2048 * c.loop-turn.turn in
    let t = 2048 * (c.loop-turn.turn + 1) in
    let within : a + 2048 ≤ length first = omega (arith, c.loop-turn-test.true, c.len-count.ensures) in
    let long : length xs ≡ 2048 = length-part first xs a 2048 c.range-one.ensures within in
    let le : length xs ≤ 2048 = omega (arith, long) in
    let place : 8 * length mid ≡ a = omega (arith, c.loop-turn.invariant.long, c.loop-turn.bytes.ok.0) in
    let all : t ≡ a + length xs = omega (arith, long) in
    let behind : 8 * (256 * c.loop-turn.turn) ≡ a = omega arith in
    let counted : count_by not (marks mid 0 a) + count_by not (marks new (8 * (256 * c.loop-turn.turn)) 2048)
    ≡ count_by not (marks new 0 t) = part-counted op first second xs ys a 2048 (length xs) t mid new le c.range-one.ensures
    c.range-other.ensures place all c.loop-turn.invariant.appended c.push_combined-bytes.ensures.marks
    (8 * (256 * c.loop-turn.turn)) (count_by not (marks mid 0 a))
    (count_by not (marks new (8 * (256 * c.loop-turn.turn)) 2048)) behind refl
    (ap (λ n. count_by not (marks new (8 * (256 * c.loop-turn.turn)) n)) (sym long)) in record {
      room = omega (arith, c.loop-turn.invariant.room, c.push_combined-bytes.ensures.capacity);
      appended = part-appended op first second xs ys a 2048 (length xs) t mid new le c.range-one.ensures
          c.range-other.ensures place all c.loop-turn.invariant.appended c.push_combined-bytes.ensures.marks;
      long = omega (arith, c.loop-turn.invariant.long, c.push_combined-bytes.ensures.len, long);
      counted = omega (
        arith,
        counted,
        c.loop-turn.invariant.counted,
        c.add_four.ensures,
        ap (λ xs. count_by not (marks xs (8 * (256 * c.loop-turn.turn)) 2048)) c.deref.ensures.value,
      );
    }

pub count-requires : goal.count-requires
count-requires g c = omega (
  arith,
  c.loop-turn-test.false,
  c.loop-turn.auto.turn-end,
  c.len-count.type_inv,
  c.loop-turn.invariant.counted,
)

pub overflow_sub-result : goal.overflow_sub-result
overflow_sub-result g c = omega (
  arith,
  c.loop-turn-test.false,
  c.loop-turn.auto.turn-end,
  c.loop-turn.invariant.counted,
  c.count.ensures,
)

pub overflow_add-result : goal.overflow_add-result
overflow_add-result g c =
    let count = c.len-count.result in
    let start = count - count % 2048 in
    let within : start + count % 2048 ≤ length c.args.first.now = omega (arith, c.len-count.ensures) in
    let long = length-part c.args.first.now c.range-one-2.result start (count % 2048) c.range-one-2.ensures within in
    omega (
      arith,
      within,
      long,
      c.len-count.ensures,
      c.len-count.type_inv,
      c.push_counted-grown.ensures.clear,
      clear-le c.push_counted-grown.result.0.items (8 * vec_len c.loop-turn.bytes) (length c.range-one-2.result),
    )

pub returns-clause-ok : goal.returns-clause-ok
returns-clause-ok g c =
    let op = g.O.MarkOp.op in
    let first = c.args.first.now in
    let second = c.args.second.now in
    let xs = c.range-one-2.result in
    let mid = c.loop-turn.bytes.items in
    let new = c.push_counted-grown.result.0.items in
    let count = c.len-count.result in
    let start = count - count % 2048 in
    let rest = count % 2048 in
    let done : 2048 * c.loop-turn.turn ≡ start = omega (
      arith,
      c.loop-turn-test.false,
      c.loop-turn.auto.turn-end,
    ) in
    let long : length xs ≡ rest = length-part first xs start rest c.range-one-2.ensures (omega (
      arith,
      c.len-count.ensures,
    )) in
    let before : AppendsCombined op first second 0 start [] mid =
    subst (λ n. AppendsCombined op first second 0 n [] mid) done c.loop-turn.invariant.appended in
    part-appended op first second xs c.range-other-2.result start rest (length xs) (length first) mid new
    (omega (arith, long)) c.range-one-2.ensures c.range-other-2.ensures
    (omega (arith, c.loop-turn.invariant.long, c.loop-turn.bytes.ok.0, done)) (omega (arith, long, c.len-count.ensures))
    before c.push_counted-grown.ensures.marks

pub returns-clause-clear : goal.returns-clause-clear
returns-clause-clear g c =
    let op = g.O.MarkOp.op in
    let first = c.args.first.now in
    let second = c.args.second.now in
    let xs = c.range-one-2.result in
    let mid = c.loop-turn.bytes.items in
    let new = c.push_counted-grown.result.0.items in
    let count = c.len-count.result in
    let start = count - count % 2048 in
    let rest = count % 2048 in
    let done : 2048 * c.loop-turn.turn ≡ start = omega (
      arith,
      c.loop-turn-test.false,
      c.loop-turn.auto.turn-end,
    ) in
    let long : length xs ≡ rest = length-part first xs start rest c.range-one-2.ensures (omega (
      arith,
      c.len-count.ensures,
    )) in
    let before : AppendsCombined op first second 0 start [] mid =
    subst (λ n. AppendsCombined op first second 0 n [] mid) done c.loop-turn.invariant.appended in
    let set : c.loop-turn.set + count_by not (marks mid 0 start) ≡ start =
    subst (λ n. c.loop-turn.set + count_by not (marks mid 0 n) ≡ n) done c.loop-turn.invariant.counted in
    let left : start - c.count.result ≡ count_by not (marks mid 0 start) = omega (arith, set, c.count.ensures) in
    part-counted op first second xs c.range-other-2.result start rest (length xs) (length first) mid new
    (omega (arith, long)) c.range-one-2.ensures c.range-other-2.ensures
    (omega (arith, c.loop-turn.invariant.long, c.loop-turn.bytes.ok.0, done)) (omega (arith, long, c.len-count.ensures))
    before c.push_counted-grown.ensures.marks (8 * vec_len c.loop-turn.bytes) (start - c.count.result)
    c.push_counted-grown.result.1 (omega (arith, c.loop-turn.invariant.long, done)) left
    c.push_counted-grown.ensures.clear
