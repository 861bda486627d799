use Rattle.std.proofs.Common.{◌≡◌, ◌≤◌, length, take}
use Rattle.std.specs.List.{concat}
use Rattle.compute_select.proofs.items.items_length.Given as goal

abbrev pub invariant-loop-i : goal.invariant-loop-i
invariant-loop-i g l = record {
  counted : l.total ≡ length (concat (take l.i (g.S.ItemSource.items l.source)));
  within : l.total ≤ l.most;
}
