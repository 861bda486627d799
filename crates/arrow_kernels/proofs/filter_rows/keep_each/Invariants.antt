use Rattle.std.proofs.Common.{◌+◌, ◌^◌, ◌<◌}
use Rattle.arrow_kernels.proofs.WordLemmas.{AreLeft, lowest}
use Rattle.arrow_kernels.proofs.filter_rows.keep_each.Given as goal

abbrev pub invariant-loop-left : goal.invariant-loop-left
invariant-loop-left g l = record {
  marked : AreLeft (g.R.FilterRows.selected l.rows) l.row l.count l.left;
  small : l.left < 2 ^ l.count;
  so_far : g.R.FilterRows.keeps_before l.rows l.kept (l.row + lowest l.count l.left);
}

abbrev pub decreases-loop-left : goal.decreases-loop-left
decreases-loop-left g l = l.left
