-- Two tests that decide one equation answer the same.
use Rattle.std.proofs.Common.{ap₂, ◌∙◌}
use Rattle.std.proofs.lemmas.Bool.Decides.{same_from_decides}
use Rattle.arrow_bitmap.specs.MarkEquality.{same_marks, same_marks-Decides}
use Rattle.arrow_bitmap.proofs.equality.BitmapPartialEq.eq.Goals as goal

pub returns-clause-value : goal.returns-clause-value
returns-clause-value c = same_from_decides _ _ c.are_same.ensures (same_marks-Decides _ _)
    ∙ ap₂ same_marks c.marks.ensures c.marks-2.ensures
