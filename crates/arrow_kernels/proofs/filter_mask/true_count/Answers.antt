use Rattle.std.proofs.Common.{sym, ◌∙◌}
use Rattle.arrow_column.specs.Column.{slots_of}
use Rattle.arrow_kernels.proofs.CountLemmas.{count-shown}
use Rattle.arrow_kernels.proofs.filter_mask.true_count.Goals as goal

pub returns : goal.returns
returns c = c.true_count.ensures ∙ sym (count-shown (slots_of c.args.array.now))
