use Rattle.std.proofs.Common.{◌≡◌, None}
use Rattle.example_record_batch.specs.Grouping.{first_overflow}
use Rattle.example_record_batch.proofs.any.overflow.first_overflow.Given as goal

abbrev pub invariant-loop-group : goal.invariant-loop-group
invariant-loop-group l = first_overflow l.array l.indices l.group ≡ None
