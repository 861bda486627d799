use Rattle.std.proofs.Common.{sym, ◌∙◌}
use Rattle.std.proofs.lemmas.List.{length-map}
use Rattle.arrow_memory.specs.Rows.{slot}
use Rattle.arrow_column.specs.Column.{slots_of}
use Rattle.compute_comparison.proofs.CountLemmas.{all_counted}
use Rattle.compute_comparison.proofs.boolean.all.Goals as goal

pub returns : goal.returns
returns c = all_counted (slots_of c.args.array.now) c.true_count.result c.len.result c.true_count.ensures
    (c.len.ensures ∙ sym (length-map c.args.array.now.rows slot))
