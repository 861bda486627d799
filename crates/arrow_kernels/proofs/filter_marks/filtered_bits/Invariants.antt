use Rattle.std.proofs.Common.{◌≡◌, ◌+◌, ◌^◌, ◌<◌, ◌≤◌, take, w64}
use Rattle.std.specs.Int.{trailing_zeros}
use Rattle.arrow_memory.specs.Marks.{bits_of}
use Rattle.arrow_bytes.specs.Selection.{where_set}
use Rattle.arrow_kernels.proofs.WordLemmas.{AreLeft, lowest}
use Rattle.arrow_kernels.proofs.filter_marks.filtered_bits.Given as goal

abbrev pub invariant-loop-left : goal.invariant-loop-left
invariant-loop-left l = record {
  marked : AreLeft (bits_of l.selected 64) 0 64 l.left;
  fits : l.left < 2 ^ 64;
  room : l.count ≤ trailing_zeros w64 l.left;
  small : l.kept < 2 ^ l.count;
  so_far : bits_of l.kept l.count ≡ where_set (take (0 + lowest 64 l.left) (bits_of l.selected 64))
      (take (0 + lowest 64 l.left) (bits_of l.marks 64));
}

abbrev pub decreases-loop-left : goal.decreases-loop-left
decreases-loop-left l = l.left
