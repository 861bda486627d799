use Rattle.std.proofs.Common.{◌+◌, ◌==◌, ◌∙◌, ap, arith, is_some, Some, sym}
use Rattle.std.specs.Int.{bit_at}
use Rattle.arrow_types.proofs.CallerLemmas.{get-combined}
use Rattle.arrow_memory.specs.Rows.{slot}
use Rattle.arrow_column.specs.Column.{slots_of}
use Rattle.compute_comparison.proofs.KleeneLemmas.{length-known}
use Rattle.compute_comparison.proofs.boolean_kleene.KnownMarkWords.word.Goals as goal

pub slot_words-left-requires-clause-within : goal.slot_words-left-requires-clause-within
slot_words-left-requires-clause-within g c = omega (
  arith,
  c.requires.within,
  length-known g.K.KleeneOperation.table c.args.self.now.lhs.now c.args.self.now.rhs.now,
)

pub slot_words-right-requires-clause-within : goal.slot_words-right-requires-clause-within
slot_words-right-requires-clause-within g c = omega (
  arith,
  c.requires.within,
  length-known g.K.KleeneOperation.table c.args.self.now.lhs.now c.args.self.now.rhs.now,
)

pub returns : goal.returns
returns g c k low =
    get-combined (λ x y. is_some (g.K.KleeneOperation.table x y)) (slots_of c.args.self.now.lhs.now)
    (slots_of c.args.self.now.rhs.now) (c.args.place + k)
    (slot (bit_at c.slot_words-left.result.values k == 1, bit_at c.slot_words-left.result.marks k == 1))
    (slot (bit_at c.slot_words-right.result.values k == 1, bit_at c.slot_words-right.result.marks k == 1))
    (c.slot_words-left.ensures k low) (c.slot_words-right.ensures k low)
    ∙ ap Some (sym (c.known.ensures k (omega (arith, low, c.requires.few))))
