use Rattle.std.proofs.Common.{arith}
use Rattle.arrow_syntax.proofs.Names.{same_whole}
use Rattle.arrow_syntax.proofs.words.same_bytes.Goals as goal

pub returns : goal.returns
returns c = same_whole c.args.word.now c.args.name.now c.loop-at.at (omega arith) (omega arith) c.loop-at.invariant
