use Rattle.std.proofs.Common.{◌==◌}
use Rattle.arrow_syntax.proofs.Places.{first_is_position}
use Rattle.arrow_syntax.proofs.lines.line_end.Goals as goal

pub returns : goal.returns
returns c = first_is_position (λ b. b == 10) c.args.text.now c.memchr.result c.memchr.ensures
