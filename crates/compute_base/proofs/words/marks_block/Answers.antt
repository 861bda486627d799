use Rattle.std.proofs.Common.{◌+◌, Some, ap, arith, sym, ◌∙◌}
use Rattle.arrow_column.proofs.CallerLemmas.{set-without_mask}
use Rattle.compute_base.proofs.WordLemmas.{all-set_block}
use Rattle.compute_base.proofs.words.marks_block.Goals as goal

pub returns-in_default : goal.returns-in_default
returns-in_default g c k low =
    set-without_mask (g.A.Array.column c.args.array.now) c.validity.ensures.is_column (sym c.in_default.ensures.mask)
    (c.args.place + k) (omega (arith, low, c.requires)) ∙ ap Some (sym (all-set_block k low))
