use Rattle.std.proofs.Common.{◌≡◌, ◌*◌, take}
use Rattle.arrow_bytes.specs.Selection.{at_keys}
use Rattle.arrow_kernels.proofs.take_parts.take_marks.Given as goal

abbrev pub invariant-loop-at : goal.invariant-loop-at
invariant-loop-at g l = l.picked ≡ at_keys g.K.IndexKey.number (take (64 * l.at) l.keys) l.marks
