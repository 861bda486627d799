use Rattle.std.proofs.Common.{◌≡◌}
use Rattle.std.specs.List.{filter, range_with_len}
use Rattle.compute_group.specs.Grouping.{is_in_group}
use Rattle.compute_group.proofs.group_numbers.rows_with.Given as goal

abbrev pub invariant-loop-i : goal.invariant-loop-i
invariant-loop-i l = l.rows.items ≡ filter (is_in_group l.indices l.group) (range_with_len 0 l.i)
