use Rattle.arrow_entry.specs.Entry.{state_of}
use Rattle.arrow_model.specs.Answer.{answer_of}
use Rattle.arrow_model.specs.Request.{as_request}
use Rattle.arrow_model.specs.Value.{types}
use Rattle.arrow_model.proofs.CallerLemmas.{fine-changes, request-is}
use Rattle.arrow_table.proofs.table.TableExecutor.step.Goals as goal

pub invariant_of-self : goal.invariant_of-self
invariant_of-self g c =
    fine-changes (types g.T.NativeType.zero g.T.NativeType.PRIMITIVE g.O.Offset.most g.O.Offset.IS_LARGE)
    (state_of c.self.inside.entries.items) (as_request g.O.Offset.number c.args.command.now) (answer_of c.step.result)
    (state_of c.step.new.entries.items) (request-is g.O.Offset.number c.args.command.now) c.self.invariant
    c.step.ensures.step
