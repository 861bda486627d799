use Rattle.std.proofs.Common.{string_bytes}
use Rattle.arrow_model.specs.Answer.{answer_of}
use Rattle.arrow_model.specs.Request.{as_request}
use Rattle.arrow_table.specs.Width.{on_width}
use Rattle.arrow_interpreter.proofs.Steps.{step_and_text}
use Rattle.arrow_interpreter.proofs.interpreter.Interpreter.run.Goals as goal

pub returns : goal.returns
returns g c =
    let request = on_width g.O.Offset.IS_LARGE (as_request g.O.Offset.number c.args.command) in
    let old = c.args.self.now in
    let new = c.push_reply.new.self in
    step_and_text request (answer_of c.step-reply.result) old.tables c.step-reply.new.tables new.tables
    (string_bytes old.text) (string_bytes new.text)
    c.push_reply.result c.step-reply.ensures.step c.push_reply.ensures
