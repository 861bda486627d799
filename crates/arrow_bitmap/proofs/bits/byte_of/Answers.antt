use Rattle.std.proofs.lemmas.Nat.Bits.{bit_at_ones, bit_at-zero}
use Rattle.arrow_bitmap.proofs.bits.byte_of.Goals as goal

pub returns-then-value : goal.returns-then-value
returns-then-value c = λ k within. rw c.if-value.true (bit_at_ones 8 k within)

pub returns-else-value : goal.returns-else-value
returns-else-value c = λ k within. rw c.if-value.false (bit_at-zero k)
