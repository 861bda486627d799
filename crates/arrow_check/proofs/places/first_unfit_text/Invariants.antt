use Rattle.std.proofs.Common.{take}
use Rattle.arrow_check.specs.Pieces.{items_of}
use Rattle.arrow_check.specs.Texts.{AreTexts}
use Rattle.arrow_check.proofs.places.first_unfit_text.Given as goal

-- each item so far is text
abbrev pub invariant-loop-i : goal.invariant-loop-i
invariant-loop-i g l = AreTexts (take l.i (items_of l.offsets l.values))
