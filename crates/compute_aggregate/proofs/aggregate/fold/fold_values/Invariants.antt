use Rattle.std.proofs.Common.{◌≡◌, fold, take}
use Rattle.compute_aggregate.proofs.aggregate.fold.fold_values.Given as goal

abbrev pub invariant-loop-i : goal.invariant-loop-i
invariant-loop-i g l = l.state ≡ fold g.F.Folder.step l.fn.start (take l.i l.values)
