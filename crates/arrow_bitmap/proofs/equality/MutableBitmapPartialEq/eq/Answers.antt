-- Two tests that decide one equation answer the same.
use Rattle.std.proofs.lemmas.Bool.Decides.{same_from_decides}
use Rattle.arrow_bitmap.specs.MarkEquality.{same_marks-Decides}
use Rattle.arrow_bitmap.proofs.equality.MutableBitmapPartialEq.eq.Goals as goal

pub returns-clause-value : goal.returns-clause-value
returns-clause-value c = same_from_decides _ _ c.has_marks_of.ensures (same_marks-Decides _ _)
