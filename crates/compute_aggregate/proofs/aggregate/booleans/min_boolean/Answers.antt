use Rattle.std.proofs.Common.{◌≡◌, ◌-◌, ◌==◌, ap₂, arith, length, subst, sym, ◌∙◌}
use Rattle.std.specs.Ordering.{bool_cmp}
use Rattle.std.proofs.lemmas.List.{nil_from_length}
use Rattle.arrow_column.specs.Column.{slots_of}
use Rattle.compute_aggregate.specs.Aggregates.{IsLeast, valid_values}
use Rattle.compute_aggregate.proofs.AggregateLemmas.{count_valid, least_truth, true_slots}
use Rattle.compute_aggregate.proofs.aggregate.booleans.min_boolean.Goals as goal

pub returns-then-valid-eq0 : goal.returns-then-valid-eq0
returns-then-valid-eq0 c = nil_from_length (valid_values c.args.array.now) (omega (arith, count_valid c.args.array.now))

pub returns : goal.returns
returns c =
    let values = valid_values c.args.array.now in
    let count : c.len.result - c.null_count.result ≡ length values = omega (arith, count_valid c.args.array.now) in
    subst (IsLeast bool_cmp values) (sym (ap₂ ◌==◌ (c.true_count.ensures ∙ true_slots (slots_of c.args.array.now)) count))
    (least_truth values (omega (arith, count_valid c.args.array.now)))
