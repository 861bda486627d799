use Rattle.std.proofs.Common.{◌+◌, slice_get, ap, sym, ◌∙◌}
use Rattle.arrow_memory.specs.Marks.{block_mark}
use Rattle.arrow_column.proofs.CallerLemmas.{slot-at}
use Rattle.compute_comparison.proofs.boolean_kleene.slot_blocks.Goals as goal

pub returns : goal.returns
returns c k low = slot-at c.args.array.now.rows (c.args.place + k) (block_mark c.block.result k)
    (block_mark c.marks_block.result k)
    (ap (λ values. slice_get values (c.args.place + k)) (sym c.values.ensures) ∙ c.block.ensures k low)
    (c.marks_block.ensures k low)
