use Rattle.std.proofs.Common.{◌+◌, ◌==◌, slice_get, ap, sym, ◌∙◌}
use Rattle.std.specs.Int.{bit_at}
use Rattle.arrow_column.proofs.CallerLemmas.{slot-at}
use Rattle.compute_comparison.proofs.boolean_kleene.slot_words.Goals as goal

pub returns : goal.returns
returns c k low = slot-at c.args.array.now.rows (c.args.place + k) (bit_at c.word_of.result k == 1)
    (bit_at c.marks_word.result k == 1)
    (ap (λ values. slice_get values (c.args.place + k)) (sym c.values.ensures) ∙ c.word_of.ensures k low)
    (c.marks_word.ensures k low)
