use Rattle.std.proofs.Common.{string_bytes}
use Rattle.std.specs.Prelude.{option_copied}
use Rattle.arrow_model.specs.Request.{all_slots, at}
use Rattle.arrow_table.specs.Listed.{listed}
use Rattle.arrow_table.specs.Width.{on_width}
use Rattle.arrow_interpreter.proofs.Steps.{text_of_step}
use Rattle.arrow_interpreter.proofs.interpreter.Interpreter.list.Goals as goal

pub returns : goal.returns
returns g c =
    let request = on_width g.O.Offset.IS_LARGE (at c.args.e all_slots) in
    let old = c.args.self.now in
    text_of_step request (listed (option_copied c.get-entry.result)) old.tables old.tables old.tables
    (string_bytes old.text) (string_bytes c.push_listed.new.text)
    c.push_listed.result c.get-entry.ensures.step c.push_listed.ensures
