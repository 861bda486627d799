use Rattle.std.proofs.Common.{arith, inr, refl}
use Rattle.compute_group.proofs.hints.first_places.Goals as goal

pub returns-then-count-ge16384 : goal.returns-then-count-ge16384
returns-then-count-ge16384 c = inr ((12, refl), omega arith, omega (arith, c.if-count-ge16384.true))

pub returns-then-count-ge4096 : goal.returns-then-count-ge4096
returns-then-count-ge4096 c = inr ((10, refl), omega arith, omega (arith, c.if-count-ge4096.true))

pub returns-then-count-ge1024 : goal.returns-then-count-ge1024
returns-then-count-ge1024 c = inr ((8, refl), omega arith, omega (arith, c.if-count-ge1024.true))

pub returns-then-count-ge64 : goal.returns-then-count-ge64
returns-then-count-ge64 c = inr ((6, refl), omega arith, omega (arith, c.if-count-ge64.true))
