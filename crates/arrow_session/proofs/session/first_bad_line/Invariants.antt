use Rattle.std.proofs.Common.{◌+◌, ◌≤◌, length}
use Rattle.std.specs.Prelude.{IsTrue}
use Rattle.std.specs.List.{list_all}
use Rattle.arrow_syntax.proofs.CallerLemmas.{length_after}
use Rattle.arrow_syntax.specs.Words.{is_printable}
use Rattle.arrow_session.proofs.Parsing.{lines_after}
use Rattle.arrow_session.proofs.Runs.{IsReadTo}
use Rattle.arrow_session.proofs.session.first_bad_line.Given as goal

abbrev pub invariant-loop-rest : goal.invariant-loop-rest
invariant-loop-rest l = record {
  read : IsReadTo l.fn.input l.number (lines_after l.rest);
  known : IsTrue l.printable → IsTrue (list_all is_printable (lines_after l.rest));
  room : l.number + length_after l.rest ≤ length l.fn.input + 2;
}

abbrev pub decreases-loop-rest : goal.decreases-loop-rest
decreases-loop-rest l = length_after l.rest
