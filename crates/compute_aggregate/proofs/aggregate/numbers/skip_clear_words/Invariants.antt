use Rattle.std.proofs.Common.{◌≡◌, ℕ, ◌*◌, ◌<◌, Some, false, slice_get}
use Rattle.compute_aggregate.proofs.aggregate.numbers.skip_clear_words.Given as goal

abbrev pub invariant-loop-i : goal.invariant-loop-i
invariant-loop-i l = (k : ℕ) → k < 64 * l.i → slice_get l.mask k ≡ Some false
