use Rattle.arrow_table.proofs.RunLemmas.{both-runs, narrow-costs, wide-costs}
use Rattle.arrow_table.proofs.tables.run_both.Goals as goal

pub returns-clause-run : goal.returns-clause-run
returns-clause-run g c =
    let ran = c.run_all.ensures.run in
    (ran.0, ran.1, both-runs g.T.NativeType.zero g.T.NativeType.PRIMITIVE _ _ _ _ ran.2)

pub returns-clause-narrow_costs : goal.returns-clause-narrow_costs
returns-clause-narrow_costs g c = narrow-costs g.T.NativeType.zero g.T.NativeType.PRIMITIVE _ _ _ _
    c.run_all.ensures.run.2

pub returns-clause-wide_costs : goal.returns-clause-wide_costs
returns-clause-wide_costs g c = wide-costs g.T.NativeType.zero g.T.NativeType.PRIMITIVE _ _ _ _ c.run_all.ensures.run.2
