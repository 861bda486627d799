use Rattle.std.proofs.Common.{◌+◌, ◌<◌, ◌==◌, ◌&&◌, ◌∙◌, ap, arith, Some, sym}
use Rattle.std.specs.Int.{bit_at}
use Rattle.arrow_types.proofs.CallerLemmas.{and-bit, get-map}
use Rattle.compute_comparison.specs.Comparison.{slots_equal_to}
use Rattle.compute_comparison.proofs.NullLemmas.{equal-scalar-at, length-tested_scalar}
use Rattle.compute_comparison.proofs.comparison.words.SlotsByScalarMarkWords.word.Goals as goal

pub equal_word-equal-requires-clause-within : goal.equal_word-equal-requires-clause-within
equal_word-equal-requires-clause-within g c = omega (
  arith,
  c.requires.within,
  length-tested_scalar g.A.EqualArray.equal g.C.Equality.holds (g.A.Array.column c.args.self.now.lhs.now).rows
      (g.S.EqualScalar.value c.args.self.now.rhs),
)

pub marks_word-marks-requires-clause-within : goal.marks_word-marks-requires-clause-within
marks_word-marks-requires-clause-within g c = omega (
  arith,
  c.requires.within,
  length-tested_scalar g.A.EqualArray.equal g.C.Equality.holds (g.A.Array.column c.args.self.now.lhs.now).rows
      (g.S.EqualScalar.value c.args.self.now.rhs),
)

pub returns : goal.returns
returns g c k low =
    let wide : k < 64 = omega (arith, low, c.requires.few) in
    let lhs = g.A.Array.column c.args.self.now.lhs.now in
    let value = g.S.EqualScalar.value c.args.self.now.rhs in
    let equal = c.equal_word-equal.result in
    let marks = c.marks_word-marks.result in
    get-map g.C.Equality.holds (slots_equal_to g.A.EqualArray.equal lhs value) (c.args.place + k)
    ((bit_at marks k == 1) && (bit_at equal k == 1))
    (equal-scalar-at g.A.EqualArray.equal lhs.rows value (c.args.place + k) (bit_at marks k == 1)
    (bit_at equal k == 1) (c.marks_word-marks.ensures k low) (c.equal_word-equal.ensures k low))
    ∙ ap (λ bit. Some (g.C.Equality.holds bit)) (sym (and-bit marks equal k))
    ∙ ap Some (sym (c.test_equal_words.ensures k wide))
