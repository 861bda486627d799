use Rattle.std.proofs.Common.{◌≡◌, ◌-◌, length}
use Rattle.arrow_kernels.specs.Filtering.{IsPending}
use Rattle.arrow_kernels.proofs.filter_rows.keep_rows.Given as goal

abbrev pub invariant-loop-row : goal.invariant-loop-row
invariant-loop-row g l = record {
  len : l.len ≡ length (g.R.FilterRows.selected l.rows);
  pending : IsPending (g.R.FilterRows.selected l.rows) (g.R.FilterRows.keeps_before l.rows l.kept) l.first l.row;
}

abbrev pub decreases-loop-row : goal.decreases-loop-row
decreases-loop-row g l = l.len - l.row
