use Rattle.std.proofs.Common.{map}
use Rattle.arrow_model.specs.Value.{types}
use Rattle.arrow_model.specs.Answer.{answer_of}
use Rattle.arrow_model.specs.Request.{as_request}
use Rattle.arrow_table.proofs.RunLemmas.{table-runs, table-costs}
use Rattle.arrow_table.proofs.table.run.Goals as goal

pub returns-clause-run : goal.returns-clause-run
returns-clause-run g c =
    let t = types g.T.NativeType.zero g.T.NativeType.PRIMITIVE g.O.Offset.most g.O.Offset.IS_LARGE in
    let ran = c.run_all.ensures.run in
    (ran.0, ran.1, table-runs t g.O.Offset.number _ _ _ _ ran.2)

pub returns-clause-costs : goal.returns-clause-costs
returns-clause-costs g c =
    let t = types g.T.NativeType.zero g.T.NativeType.PRIMITIVE g.O.Offset.most g.O.Offset.IS_LARGE in
    table-costs t g.O.Offset.number _ _ _ _ c.run_all.ensures.run.2
