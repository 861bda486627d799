use Rattle.std.proofs.Common.{◌≡◌, ◌+◌, ◌-◌, ◌^◌, ◌<◌, ◌≤◌, take}
use Rattle.std.specs.Int.{bit_at}
use Rattle.arrow_memory.specs.Marks.{bits_of}
use Rattle.arrow_bytes.specs.Selection.{where_set}
use Rattle.arrow_kernels.proofs.filter_marks.filtered_runs.Given as goal

abbrev pub invariant-loop-first : goal.invariant-loop-first
invariant-loop-first l = record {
  high : l.first ≤ 64;
  set : l.first < 64 → bit_at l.selected l.first ≡ 1;
  room : l.count ≤ l.first;
  small : l.kept < 2 ^ l.count;
  so_far : bits_of l.kept l.count ≡ where_set (take (0 + l.first) (bits_of l.selected 64))
      (take (0 + l.first) (bits_of l.marks 64));
}

abbrev pub decreases-loop-first : goal.decreases-loop-first
decreases-loop-first l = 64 - l.first
