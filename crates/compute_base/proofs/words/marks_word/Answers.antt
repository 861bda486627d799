use Rattle.std.proofs.Common.{◌+◌, Some, ap, arith, sym, ◌∙◌}
use Rattle.arrow_types.proofs.CallerLemmas.{all-ones}
use Rattle.arrow_column.proofs.CallerLemmas.{set-without_mask}
use Rattle.compute_base.proofs.words.marks_word.Goals as goal

pub returns-in-None : goal.returns-in-None
returns-in-None g c k low =
    set-without_mask (g.A.Array.column c.args.array.now) c.validity.ensures.is_column (sym c.in-None.ensures.mask)
    (c.args.place + k) (omega (arith, low, c.requires.within))
    ∙ ap Some (sym (all-ones k (omega (arith, low, c.requires.few))))
