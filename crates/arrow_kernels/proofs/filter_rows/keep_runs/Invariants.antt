use Rattle.std.proofs.Common.{◌≡◌, ◌+◌, ◌-◌, ◌<◌, ◌≤◌, w64}
use Rattle.std.specs.Int.{bit_at, bit_not}
use Rattle.arrow_kernels.specs.Filtering.{AllSet}
use Rattle.arrow_kernels.proofs.filter_rows.keep_runs.Given as goal

abbrev pub invariant-loop-hole : goal.invariant-loop-hole
invariant-loop-hole g l = record {
  high : l.hole ≤ 64;
  order : l.first ≤ l.row + l.hole;
  clear : l.hole < 64 → bit_at (bit_not w64 l.word) l.hole ≡ 1;
  set : AllSet (g.R.FilterRows.selected l.rows) l.first (l.row + l.hole);
  so_far : g.R.FilterRows.keeps_before l.rows l.kept l.first;
}

abbrev pub decreases-loop-hole : goal.decreases-loop-hole
decreases-loop-hole g l = 64 - l.hole
