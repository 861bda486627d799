use Rattle.std.proofs.Common.{◌≡◌, ℕ, ◌<◌, get_or}
use Rattle.arrow_memory.specs.Offsets.{numbers_of}
use Rattle.arrow_memory.proofs.equality.same_offsets.Given as goal

-- the numbers so far are the same
abbrev pub invariant-loop-i : goal.invariant-loop-i
invariant-loop-i g l =
    let number = g.O.Offset.number in
    (k : ℕ) → k < l.i → get_or (numbers_of number l.first) k 0 ≡ get_or (numbers_of number l.second) k 0
