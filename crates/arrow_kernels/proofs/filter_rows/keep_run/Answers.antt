use Rattle.std.proofs.Common.{subst}
use Rattle.arrow_kernels.proofs.filter_rows.keep_run.Goals as goal

pub returns-then-first-end : goal.returns-then-first-end
returns-then-first-end g c =
    subst (g.R.FilterRows.keeps_before c.args.rows.now c.args.kept.now) c.if-first-end.true c.requires.so_far
