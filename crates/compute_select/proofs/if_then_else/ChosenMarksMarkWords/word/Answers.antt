use Rattle.std.proofs.Common.{◌+◌, ◌==◌, ◌&&◌, ◌∙◌, ap, arith, length, slice_get, Some, sym}
use Rattle.std.specs.Int.{bit_at}
use Rattle.std.proofs.lemmas.List.{length-map}
use Rattle.arrow_types.proofs.CallerLemmas.{and-bit}
use Rattle.compute_select.proofs.ChoiceLemmas.{chosen-mark-at, length-marks}
use Rattle.compute_select.proofs.if_then_else.ChosenMarksMarkWords.word.Goals as goal

pub word_of-predicate-requires-clause-within : goal.word_of-predicate-requires-clause-within
word_of-predicate-requires-clause-within g c = omega (
  arith,
  ap length c.values.ensures,
  length-map c.args.self.now.predicate.now.rows (λ row. row.0),
  c.requires.within,
  length-marks c.args.self.now.predicate.now.rows (g.A.Array.column c.args.self.now.lhs.now).rows
      (g.A.Array.column c.args.self.now.rhs.now).rows,
)

pub marks_word-left-requires-clause-within : goal.marks_word-left-requires-clause-within
marks_word-left-requires-clause-within g c = omega (
  arith,
  c.requires.within,
  length-marks c.args.self.now.predicate.now.rows (g.A.Array.column c.args.self.now.lhs.now).rows
      (g.A.Array.column c.args.self.now.rhs.now).rows,
)

pub marks_word-right-requires-clause-within : goal.marks_word-right-requires-clause-within
marks_word-right-requires-clause-within g c = omega (
  arith,
  c.requires.within,
  length-marks c.args.self.now.predicate.now.rows (g.A.Array.column c.args.self.now.lhs.now).rows
      (g.A.Array.column c.args.self.now.rhs.now).rows,
)

pub marks_word-requires-clause-within : goal.marks_word-requires-clause-within
marks_word-requires-clause-within g c = omega (
  arith,
  c.requires.within,
  length-marks c.args.self.now.predicate.now.rows (g.A.Array.column c.args.self.now.lhs.now).rows
      (g.A.Array.column c.args.self.now.rhs.now).rows,
)

pub returns : goal.returns
returns g c k low =
    let at = c.args.place + k in
    let predicate = c.word_of-predicate.result in
    let mark = c.marks_word.result in
    let left = c.marks_word-left.result in
    let right = c.marks_word-right.result in
    chosen-mark-at c.args.self.now.predicate.now.rows (g.A.Array.column c.args.self.now.lhs.now).rows
    (g.A.Array.column c.args.self.now.rhs.now).rows at
    (bit_at predicate k == 1) (bit_at mark k == 1) (bit_at left k == 1) (bit_at right k == 1)
    (ap (λ values. slice_get values at) (sym c.values.ensures) ∙ c.word_of-predicate.ensures k low)
    (c.marks_word.ensures k low) (c.marks_word-left.ensures k low) (c.marks_word-right.ensures k low)
    ∙ ap Some (sym (and-bit mark c.choose_bits.result k
    ∙ ap (λ b. (bit_at mark k == 1) && b) (c.choose_bits.ensures k (omega (arith, low, c.requires.few)))))
