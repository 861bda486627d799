use Rattle.std.proofs.Common.{arith, nat_lt, subst, sym, ◌∙◌}
use Rattle.std.specs.Ordering.{bool_cmp}
use Rattle.std.proofs.lemmas.List.{nil_from_length}
use Rattle.arrow_column.specs.Column.{slots_of}
use Rattle.compute_aggregate.specs.Aggregates.{IsGreatest, valid_values}
use Rattle.compute_aggregate.proofs.AggregateLemmas.{count_valid, greatest_truth, true_slots}
use Rattle.compute_aggregate.proofs.aggregate.booleans.max_boolean.Goals as goal

pub returns-then-null_count-len : goal.returns-then-null_count-len
returns-then-null_count-len c = nil_from_length (valid_values c.args.array.now) (omega (arith, count_valid c.args.array.now))

pub returns : goal.returns
returns c =
    let values = valid_values c.args.array.now in
    subst (λ n. IsGreatest bool_cmp values (nat_lt 0 n)) (sym (c.true_count.ensures ∙ true_slots (slots_of c.args.array.now)))
    (greatest_truth values (omega (arith, count_valid c.args.array.now)))
