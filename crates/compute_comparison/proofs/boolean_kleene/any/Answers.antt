use Rattle.std.proofs.Common.{arith}
use Rattle.arrow_column.specs.Column.{slots_of}
use Rattle.compute_comparison.proofs.CountLemmas.{any_false, any_null, any_some, clear_nulls}
use Rattle.compute_comparison.proofs.boolean_kleene.any.Goals as goal

pub returns-then-true_count-gt0 : goal.returns-then-true_count-gt0
returns-then-true_count-gt0 c = any_some (slots_of c.args.array.now) (omega (arith, c.true_count.ensures))

pub returns-then-null_count-gt0 : goal.returns-then-null_count-gt0
returns-then-null_count-gt0 c = any_null (slots_of c.args.array.now) (omega (arith, c.true_count.ensures))
    (omega (arith, c.null_count.ensures, clear_nulls c.args.array.now.rows))

pub returns-else-null_count-gt0 : goal.returns-else-null_count-gt0
returns-else-null_count-gt0 c = any_false (slots_of c.args.array.now) (omega (arith, c.true_count.ensures))
    (omega (arith, c.null_count.ensures, clear_nulls c.args.array.now.rows))
