use Rattle.std.proofs.Common.{arith}
use Rattle.std.proofs.lemmas.List.{length-map}
use Rattle.arrow_memory.specs.Rows.{slot}
use Rattle.arrow_column.specs.Column.{slots_of}
use Rattle.compute_comparison.proofs.CountLemmas.{all_false, all_null, all_true, clear_nulls}
use Rattle.compute_comparison.proofs.boolean_kleene.all.Goals as goal

pub returns-then-true_count-len : goal.returns-then-true_count-len
returns-then-true_count-len c = all_false (slots_of c.args.array.now) (omega (
  arith,
  c.true_count.ensures,
  c.len.ensures,
  c.null_count-nulls.ensures,
  clear_nulls c.args.array.now.rows,
  length-map c.args.array.now.rows slot,
))

pub returns-then-nulls-gt0 : goal.returns-then-nulls-gt0
returns-then-nulls-gt0 c = all_null (slots_of c.args.array.now) (omega (
  arith,
  c.true_count.ensures,
  c.len.ensures,
  c.null_count-nulls.ensures,
  clear_nulls c.args.array.now.rows,
  length-map c.args.array.now.rows slot,
)) (omega (
  arith,
  c.true_count.ensures,
  c.len.ensures,
  c.null_count-nulls.ensures,
  clear_nulls c.args.array.now.rows,
  length-map c.args.array.now.rows slot,
))

pub returns-else-nulls-gt0 : goal.returns-else-nulls-gt0
returns-else-nulls-gt0 c = all_true (slots_of c.args.array.now) (omega (
  arith,
  c.true_count.ensures,
  c.len.ensures,
  c.null_count-nulls.ensures,
  clear_nulls c.args.array.now.rows,
  length-map c.args.array.now.rows slot,
)) (omega (
  arith,
  c.true_count.ensures,
  c.len.ensures,
  c.null_count-nulls.ensures,
  clear_nulls c.args.array.now.rows,
  length-map c.args.array.now.rows slot,
))
