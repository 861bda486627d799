use Rattle.std.proofs.Common.{◌+◌, ◌<◌, ◌==◌, ◌∙◌, ap, arith, Some, sym}
use Rattle.std.specs.Int.{bit_at}
use Rattle.compute_select.proofs.NullLemmas.{differing-at, length-differing}
use Rattle.compute_select.proofs.nullif.DifferingMarksMarkWords.word.Goals as goal

pub marks_word-marks-requires-clause-within : goal.marks_word-marks-requires-clause-within
marks_word-marks-requires-clause-within g c = omega (
  arith,
  c.requires.within,
  length-differing g.A.EqualArray.equal (g.A.Array.column c.args.self.now.lhs.now).rows
      (g.A.Array.column c.args.self.now.rhs.now).rows,
)

pub marks_word-others-requires-clause-within : goal.marks_word-others-requires-clause-within
marks_word-others-requires-clause-within g c = omega (
  arith,
  c.requires.within,
  length-differing g.A.EqualArray.equal (g.A.Array.column c.args.self.now.lhs.now).rows
      (g.A.Array.column c.args.self.now.rhs.now).rows,
)

pub equal_word-requires-clause-left : goal.equal_word-requires-clause-left
equal_word-requires-clause-left g c = omega (
  arith,
  c.requires.within,
  length-differing g.A.EqualArray.equal (g.A.Array.column c.args.self.now.lhs.now).rows
      (g.A.Array.column c.args.self.now.rhs.now).rows,
)

pub equal_word-requires-clause-right : goal.equal_word-requires-clause-right
equal_word-requires-clause-right g c = omega (
  arith,
  c.requires.within,
  length-differing g.A.EqualArray.equal (g.A.Array.column c.args.self.now.lhs.now).rows
      (g.A.Array.column c.args.self.now.rhs.now).rows,
)

pub returns : goal.returns
returns g c k low =
    let wide : k < 64 = omega (arith, low, c.requires.few) in
    differing-at g.A.EqualArray.equal (g.A.Array.column c.args.self.now.lhs.now).rows
    (g.A.Array.column c.args.self.now.rhs.now).rows (c.args.place + k)
    (bit_at c.marks_word-marks.result k == 1) (bit_at c.marks_word-others.result k == 1) (bit_at c.equal_word.result k == 1)
    (c.marks_word-marks.ensures k low) (c.marks_word-others.ensures k low) (c.equal_word.ensures k low)
    ∙ ap Some (sym (c.differing_bits.ensures k wide))
