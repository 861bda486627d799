use Rattle.std.proofs.Common.{string_bytes}
use Rattle.arrow_syntax.proofs.CallerLemmas.{length_after}
use Rattle.arrow_session.proofs.Parsing.{lines_after}
use Rattle.arrow_session.proofs.Runs.{IsRunTo}
use Rattle.arrow_session.proofs.session.run_lines.Given as goal

abbrev pub invariant-loop-rest : goal.invariant-loop-rest
invariant-loop-rest l = IsRunTo l.fn.input (lines_after l.rest) l.interpreter.tables (string_bytes l.interpreter.text)

abbrev pub decreases-loop-rest : goal.decreases-loop-rest
decreases-loop-rest l = length_after l.rest
