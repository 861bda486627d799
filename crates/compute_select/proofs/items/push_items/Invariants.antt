use Rattle.std.proofs.Common.{◌≡◌, take}
use Rattle.arrow_bytes.specs.Pieces.{bare_items}
use Rattle.compute_select.proofs.items.push_items.Given as goal

abbrev pub invariant-loop-i : goal.invariant-loop-i
invariant-loop-i g l = l.made ≡ bare_items (take l.i (g.S.ItemSource.items l.source))
