use Rattle.std.proofs.Common.{arith, ◌∙◌, ap, Some, ◌==◌, sym}
use Rattle.arrow_kernels.proofs.BitLemmas.{low-bit, low-small}
use Rattle.arrow_kernels.proofs.filter_mask.FilterMask.word.Goals as goal

pub returns-clause-marks : goal.returns-clause-marks
returns-clause-marks c = λ k low. rw (← c.self.view_is) (c.word_of.ensures k low
    ∙ ap (λ b. Some (b == 1)) (sym (low-bit c.word_of.result c.args.count (omega arith) k low)))

pub returns-clause-small : goal.returns-clause-small
returns-clause-small c = low-small c.word_of.result c.args.count (omega arith)
