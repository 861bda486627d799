use Rattle.std.proofs.Common.{◌≡◌, take}
use Rattle.arrow_bytes.specs.Pieces.{bare_items}
use Rattle.arrow_bytes.specs.Selection.{at_keys}
use Rattle.arrow_kernels.proofs.take_parts.take_items_at.Given as goal

abbrev pub invariant-loop-key : goal.invariant-loop-key
invariant-loop-key g l = l.picked ≡ bare_items (at_keys g.I.IndexKey.number (take l.key-index l.keys) l.items)
