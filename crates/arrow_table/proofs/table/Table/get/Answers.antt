use Rattle.std.proofs.Common.{None, option_copied, refl, Some}
use Rattle.arrow_entry.specs.Entry.{state_of}
use Rattle.arrow_model.specs.Value.{types}
use Rattle.arrow_table.proofs.Listing.{tells}
use Rattle.arrow_table.proofs.Steps.{lent-value}
use Rattle.arrow_table.proofs.table.Table.get.Goals as goal

pub returns-clause-step : goal.returns-clause-step
returns-clause-step g c =
    let all = types g.T.NativeType.zero g.T.NativeType.PRIMITIVE g.O.Offset.most g.O.Offset.IS_LARGE in
    rw (← c.self.view_is) (
      tells all (state_of c.self.inside.entries.items) c.args.i (option_copied c.entry_at.result)
          c.entry_at.ensures,
      refl,
    )

pub returns-clause-value : goal.returns-clause-value
returns-clause-value g c =
    let all = types g.T.NativeType.zero g.T.NativeType.PRIMITIVE g.O.Offset.most g.O.Offset.IS_LARGE in
    lent-value all (state_of c.self.inside.entries.items) c.args.i (option_copied c.entry_at.result) c.self.invariant
    c.entry_at.ensures
