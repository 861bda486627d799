use Rattle.arrow_entry.specs.Entry.{state_of}
use Rattle.arrow_model.specs.Answer.{outcome}
use Rattle.arrow_model.specs.Request.{parts_request}
use Rattle.arrow_model.specs.Value.{types}
use Rattle.arrow_model.specs.declared.command.Command.TheVariants as command
use Rattle.arrow_model.proofs.CallerLemmas.{fine-changes, request-is}
use Rattle.arrow_table.proofs.table.Table.parts_at.Goals as goal

pub invariant_of-self : goal.invariant_of-self
invariant_of-self g c =
    fine-changes (types g.T.NativeType.zero g.T.NativeType.PRIMITIVE g.O.Offset.most g.O.Offset.IS_LARGE)
    (state_of c.self.inside.entries.items) (parts_request g.O.Offset.number c.args.i c.args.parts)
    (outcome c.parts_at.result) (state_of c.parts_at.new.entries.items)
    (request-is g.O.Offset.number (command.Parts c.args.i c.args.parts)) c.self.invariant c.parts_at.ensures.step
