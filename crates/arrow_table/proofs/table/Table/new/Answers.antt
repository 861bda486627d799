use Rattle.arrow_model.specs.Value.{types}
use Rattle.arrow_table.proofs.Steps.{new-values}
use Rattle.arrow_table.proofs.table.Table.new.Goals as goal

pub invariant_of-result : goal.invariant_of-result
invariant_of-result g c =
    new-values (types g.T.NativeType.zero g.T.NativeType.PRIMITIVE g.O.Offset.most g.O.Offset.IS_LARGE)
    c.in_ok-entries.entries.items c.args.n c.in_ok-entries.ensures
