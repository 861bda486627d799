use Rattle.std.proofs.Common.{arith}
use Rattle.std.proofs.lemmas.List.{map-id}
use Rattle.arrow_interpreter.proofs.lines.convert.TakeLineCommandLine.command.Goals as goal

pub returns : goal.returns
returns g c = grind (arith, map-id c.args.keys.1.items)
