use Rattle.std.proofs.Common.{◌≡◌, ◌≤◌, ◌-◌, length, take}
use Rattle.arrow_bytes.specs.Selection.{where_set}
use Rattle.arrow_kernels.proofs.filter_marks.filter_some_marks.Given as goal

abbrev pub invariant-loop-row : goal.invariant-loop-row
invariant-loop-row l = record {
  len : l.len ≡ length l.selected;
  within : l.row ≤ l.len;
  so_far : l.kept ≡ where_set (take l.row l.selected) (take l.row l.marks);
}

abbrev pub decreases-loop-row : goal.decreases-loop-row
decreases-loop-row l = l.len - l.row
