use Rattle.std.proofs.Common.{◌≡◌, ◌≤◌, length, take}
use Rattle.std.specs.List.{concat}
use Rattle.arrow_bytes.specs.Selection.{at_keys}
use Rattle.arrow_kernels.proofs.take_parts.items_length.Given as goal

abbrev pub invariant-loop-key : goal.invariant-loop-key
invariant-loop-key g l =
    (l.total ≡ length (concat (at_keys g.I.IndexKey.number (take l.key-index l.keys) l.items))) × (l.total ≤ l.most)
