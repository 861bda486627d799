use Rattle.arrow_column.specs.Column.{slots_of}
use Rattle.compute_comparison.proofs.CountLemmas.{any_counted}
use Rattle.compute_comparison.proofs.boolean.any.Goals as goal

pub returns : goal.returns
returns c = any_counted (slots_of c.args.array.now) c.true_count.result c.true_count.ensures
