use Rattle.std.proofs.Common.{◌+◌, ◌==◌, ◌∙◌, ap, arith, Some, sym}
use Rattle.std.specs.Int.{bit_at}
use Rattle.std.specs.Ordering.{bool_cmp}
use Rattle.compute_comparison.proofs.PairLemmas.{length-scalar, scalar_at}
use Rattle.compute_comparison.proofs.comparison.booleans.BooleanScalarMarkWords.word.Goals as goal

pub word_of-requires-clause-within : goal.word_of-requires-clause-within
word_of-requires-clause-within g c = omega (
  arith,
  c.requires.within,
  length-scalar g.C.Comparison.test bool_cmp c.args.self.now.lhs.now c.args.self.now.rhs,
)

pub returns : goal.returns
returns g c k low =
    scalar_at g.C.Comparison.test bool_cmp c.args.self.now.lhs.now c.args.self.now.rhs (c.args.place + k)
    (bit_at c.word_of.result k == 1) (c.word_of.ensures k low)
    ∙ ap (λ bit. Some (g.C.Comparison.test (bool_cmp (bit_at c.word_of.result k == 1) bit)))
    (sym (c.repeat_bit.ensures k (omega (arith, low, c.requires.few))))
    ∙ ap Some (sym (c.test_words.ensures k (omega (arith, low, c.requires.few))))
