use Rattle.std.proofs.Common.{string_bytes}
use Rattle.arrow_model.specs.Answer.{answer_of}
use Rattle.arrow_model.specs.Both.{widen}
use Rattle.arrow_interpreter.proofs.Steps.{step_and_text}
use Rattle.arrow_interpreter.proofs.interpreter.Interpreter.widen.Goals as goal

pub returns : goal.returns
returns c =
    let old = c.args.self.now in
    let new = c.push_reply.new.self in
    step_and_text (widen c.args.e c.args.f) (answer_of c.widen-reply.result) old.tables c.widen-reply.new.self
    new.tables (string_bytes old.text) (string_bytes new.text)
    c.push_reply.result c.widen-reply.ensures c.push_reply.ensures
