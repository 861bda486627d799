use Rattle.std.proofs.Common.{◌≡◌, drop, fold, take}
use Rattle.compute_aggregate.specs.Folds.{values_or}
use Rattle.compute_aggregate.proofs.aggregate.fold.fold_word.Given as goal

abbrev pub invariant-loop-i : goal.invariant-loop-i
invariant-loop-i g l = l.state ≡ fold g.F.Folder.step l.fn.start (take l.i (drop l.place (values_or l.null l.values l.mask)))
