use Rattle.std.proofs.Common.{◌+◌, ◌==◌, ◌∙◌, ap, arith, Some, sym}
use Rattle.std.specs.Int.{bit_at}
use Rattle.std.specs.Ordering.{bool_cmp}
use Rattle.compute_comparison.proofs.PairLemmas.{length-pairs, pair_at}
use Rattle.compute_comparison.proofs.comparison.booleans.BooleanPairsMarkWords.word.Goals as goal

pub word_of-requires-clause-within : goal.word_of-requires-clause-within
word_of-requires-clause-within g c = omega (
  arith,
  c.requires.within,
  length-pairs g.C.Comparison.test bool_cmp c.args.self.now.lhs.now c.args.self.now.rhs.now,
)

pub word_of-requires-2-clause-within : goal.word_of-requires-2-clause-within
word_of-requires-2-clause-within g c = omega (
  arith,
  c.requires.within,
  length-pairs g.C.Comparison.test bool_cmp c.args.self.now.lhs.now c.args.self.now.rhs.now,
)

pub returns : goal.returns
returns g c k low =
    pair_at g.C.Comparison.test bool_cmp c.args.self.now.lhs.now c.args.self.now.rhs.now (c.args.place + k)
    (bit_at c.word_of.result k == 1) (bit_at c.word_of-2.result k == 1) (c.word_of.ensures k low)
    (c.word_of-2.ensures k low) ∙ ap Some (sym (c.test_words.ensures k (omega (arith, low, c.requires.few))))
