use Rattle.std.proofs.Common.{◌-◌}
use Rattle.arrow_column.specs.Column.{stored_values}
use Rattle.arrow_check.specs.Items.{IsWithin}
use Rattle.arrow_bench.proofs.text.lengths.Given as goal

abbrev pub invariant-loop-text : goal.invariant-loop-text
invariant-loop-text l = IsWithin stored_values l.text-iterator

abbrev pub decreases-loop-text : goal.decreases-loop-text
decreases-loop-text l = l.text-iterator.end - l.text-iterator.index
