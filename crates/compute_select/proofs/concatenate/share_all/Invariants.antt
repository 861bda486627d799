use Rattle.std.proofs.Common.{◌≡◌, map, take}
use Rattle.compute_select.proofs.concatenate.share_all.Given as goal

abbrev pub invariant-loop-array : goal.invariant-loop-array
invariant-loop-array g l = l.copies.items ≡ map (λ array. array.now) (take l.array-index l.arrays)
