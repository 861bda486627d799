use Rattle.std.proofs.Common.{◌≡◌, ◌*◌, map, take, drop}
use Rattle.std.specs.List.{range_with_len}
use Rattle.arrow_syntax.specs.Fields.{byte_of}
use Rattle.arrow_syntax.proofs.bits.packed_bytes.Given as goal

abbrev pub invariant-loop-index : goal.invariant-loop-index
invariant-loop-index l = l.bytes.items ≡ map (λ i. byte_of (take 8 (drop (8 * i) l.fn.bits))) (range_with_len 0 l.index)
