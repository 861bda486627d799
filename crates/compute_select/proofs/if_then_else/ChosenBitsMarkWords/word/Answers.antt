use Rattle.std.proofs.Common.{◌+◌, ◌==◌, ◌∙◌, ap, arith, Some, sym}
use Rattle.std.specs.Int.{bit_at}
use Rattle.compute_select.proofs.ChoiceLemmas.{chosen-at, length-chosen}
use Rattle.compute_select.proofs.if_then_else.ChosenBitsMarkWords.word.Goals as goal

pub word_of-requires-clause-within : goal.word_of-requires-clause-within
word_of-requires-clause-within c = omega (
  arith,
  c.requires.within,
  length-chosen c.args.self.now.predicate.now c.args.self.now.lhs.now c.args.self.now.rhs.now,
)

pub word_of-requires-2-clause-within : goal.word_of-requires-2-clause-within
word_of-requires-2-clause-within c = omega (
  arith,
  c.requires.within,
  length-chosen c.args.self.now.predicate.now c.args.self.now.lhs.now c.args.self.now.rhs.now,
)

pub word_of-requires-3-clause-within : goal.word_of-requires-3-clause-within
word_of-requires-3-clause-within c = omega (
  arith,
  c.requires.within,
  length-chosen c.args.self.now.predicate.now c.args.self.now.lhs.now c.args.self.now.rhs.now,
)

pub returns : goal.returns
returns c k low =
    chosen-at c.args.self.now.predicate.now c.args.self.now.lhs.now c.args.self.now.rhs.now (c.args.place + k)
    (bit_at c.word_of.result k == 1) (bit_at c.word_of-2.result k == 1) (bit_at c.word_of-3.result k == 1)
    (c.word_of.ensures k low) (c.word_of-2.ensures k low) (c.word_of-3.ensures k low)
    ∙ ap Some (sym (c.choose_bits.ensures k (omega (arith, low, c.requires.few))))
