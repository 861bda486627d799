use Rattle.std.proofs.Common.{◌+◌, ◌<◌, ◌==◌, ◌∙◌, ap, arith, Some, sym}
use Rattle.std.specs.Int.{bit_at}
use Rattle.arrow_types.proofs.CallerLemmas.{get-map}
use Rattle.compute_comparison.specs.Comparison.{equal_slot_bit, equal_slots}
use Rattle.compute_comparison.proofs.NullLemmas.{equal-slots-at, length-tested_slots}
use Rattle.compute_comparison.proofs.comparison.words.SlotPairsMarkWords.word.Goals as goal

pub equal_word-equal-requires-clause-left : goal.equal_word-equal-requires-clause-left
equal_word-equal-requires-clause-left g c = omega (
  arith,
  c.requires.within,
  length-tested_slots g.A.EqualArray.equal g.C.Equality.holds (g.A.Array.column c.args.self.now.lhs.now).rows
      (g.A.Array.column c.args.self.now.rhs.now).rows,
)

pub equal_word-equal-requires-clause-right : goal.equal_word-equal-requires-clause-right
equal_word-equal-requires-clause-right g c = omega (
  arith,
  c.requires.within,
  length-tested_slots g.A.EqualArray.equal g.C.Equality.holds (g.A.Array.column c.args.self.now.lhs.now).rows
      (g.A.Array.column c.args.self.now.rhs.now).rows,
)

pub marks_word-left-requires-clause-within : goal.marks_word-left-requires-clause-within
marks_word-left-requires-clause-within g c = omega (
  arith,
  c.requires.within,
  length-tested_slots g.A.EqualArray.equal g.C.Equality.holds (g.A.Array.column c.args.self.now.lhs.now).rows
      (g.A.Array.column c.args.self.now.rhs.now).rows,
)

pub marks_word-right-requires-clause-within : goal.marks_word-right-requires-clause-within
marks_word-right-requires-clause-within g c = omega (
  arith,
  c.requires.within,
  length-tested_slots g.A.EqualArray.equal g.C.Equality.holds (g.A.Array.column c.args.self.now.lhs.now).rows
      (g.A.Array.column c.args.self.now.rhs.now).rows,
)

pub returns : goal.returns
returns g c k low =
    let wide : k < 64 = omega (arith, low, c.requires.few) in
    let lhs = g.A.Array.column c.args.self.now.lhs.now in
    let rhs = g.A.Array.column c.args.self.now.rhs.now in
    let equal = c.equal_word-equal.result in
    let left = c.marks_word-left.result in
    let right = c.marks_word-right.result in
    get-map g.C.Equality.holds (equal_slots g.A.EqualArray.equal lhs rhs) (c.args.place + k)
    (equal_slot_bit equal left right k)
    (equal-slots-at g.A.EqualArray.equal lhs.rows rhs.rows (c.args.place + k) (bit_at left k == 1)
    (bit_at right k == 1) (bit_at equal k == 1) (c.marks_word-left.ensures k low) (c.marks_word-right.ensures k low)
    (c.equal_word-equal.ensures k low))
    ∙ ap (λ bit. Some (g.C.Equality.holds bit)) (sym (c.equal_slot_bits.ensures k wide))
    ∙ ap Some (sym (c.test_equal_words.ensures k wide))
