use Rattle.std.proofs.Common.{◌≡◌, ◌*◌, fold, take}
use Rattle.compute_aggregate.specs.Folds.{values_or}
use Rattle.compute_aggregate.proofs.aggregate.fold.fold_masked.Given as goal

abbrev pub invariant-loop-i : goal.invariant-loop-i
invariant-loop-i g l = l.state ≡ fold g.F.Folder.step l.fn.start (take (64 * l.i) (values_or l.null l.values l.mask))

abbrev pub invariant-loop-k : goal.invariant-loop-k
invariant-loop-k g l = l.state ≡ fold g.F.Folder.step l.fn.start (take l.k (values_or l.null l.values l.mask))
