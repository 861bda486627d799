use Rattle.arrow_entry.specs.Entry.{state_of}
use Rattle.arrow_model.specs.Answer.{outcome}
use Rattle.arrow_model.specs.Item.{stored_slot}
use Rattle.arrow_model.specs.Request.{at, push}
use Rattle.arrow_model.specs.Value.{types}
use Rattle.arrow_model.specs.declared.command.Command.TheVariants as command
use Rattle.arrow_model.proofs.CallerLemmas.{fine-changes, request-is}
use Rattle.arrow_table.proofs.table.Table.push_at.Goals as goal

pub invariant_of-self : goal.invariant_of-self
invariant_of-self g c =
    fine-changes (types g.T.NativeType.zero g.T.NativeType.PRIMITIVE g.O.Offset.most g.O.Offset.IS_LARGE)
    (state_of c.self.inside.entries.items) (at c.args.i (push (stored_slot c.args.slot.now))) (outcome c.update_at.result)
    (state_of c.update_at.new.entries.items) (request-is g.O.Offset.number (command.Push c.args.i c.args.slot.now))
    c.self.invariant c.update_at.ensures
