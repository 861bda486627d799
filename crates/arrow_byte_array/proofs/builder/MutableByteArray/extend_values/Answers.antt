use Rattle.std.proofs.Common.{◌∙◌}
use Rattle.arrow_byte_array.proofs.builder.MutableByteArray.extend_values.Goals as goal
use Rattle.arrow_byte_array.proofs.builder.MutableByteArray.extend_values.Goals.{in-Ok, in-Err}

pub returns-clause-err : goal.returns-clause-err
returns-clause-err g c = elim c.match-extend_values.branch [
  | in-Ok w ↦ rw w.result-is tt
  | in-Err w ↦ let refused = w.in-Err.ensures.err in
      rw (w.result-is, ← c.self.view_is) (
        refused.0,
        refused.1,
        refused.2,
        refused.3,
        (refused.4.0, refused.4.1, w.from_error.ensures ∙ refused.4.2),
      )
]
