use Rattle.std.specs.Cmp.Lexicographic.{pointwise_decides}
use Rattle.arrow_memory.proofs.laws.equal_buffers.Goals as goal

pub returns : goal.returns
returns g c = λ xs ys. pointwise_decides g.met.T.NativeType.same xs ys
