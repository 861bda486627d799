use Rattle.std.proofs.Common.{refl}
use Rattle.arrow_bitmap.specs.Marks.{mark_at}
use Rattle.arrow_bitmap.proofs.MarkLemmas.{length-marks, marks-cut, slice_get-marks}
use Rattle.arrow_bitmap.proofs.laws.packed_marks.Goals as goal

pub returns-clause-count : goal.returns-clause-count
returns-clause-count c = length-marks

pub returns-clause-mark : goal.returns-clause-mark
returns-clause-mark c = slice_get-marks

pub returns-clause-bit : goal.returns-clause-bit
unfolding mark_at
returns-clause-bit c = λ bytes i. refl

pub returns-clause-cut : goal.returns-clause-cut
returns-clause-cut c = marks-cut
