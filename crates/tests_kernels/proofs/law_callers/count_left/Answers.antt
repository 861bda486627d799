use Rattle.std.proofs.Common.{sym, ◌∙◌}
use Rattle.arrow_bytes.specs.Pieces.{nothing_around}
use Rattle.tests_kernels.proofs.law_callers.count_left.Goals as goal

pub returns : goal.returns
returns c =
    c.true_count.ensures
    ∙ sym (c.filtered_slots.ensures.count nothing_around c.args.array.now c.args.filter.now c.requires)
