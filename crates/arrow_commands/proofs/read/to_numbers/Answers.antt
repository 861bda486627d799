use Rattle.std.proofs.Common.{arith}
use Rattle.arrow_entry.proofs.CallerLemmas.{number-sign}
use Rattle.arrow_commands.proofs.read.to_numbers.Goals as goal

pub to_usize-requires : goal.to_usize-requires
to_usize-requires g c = number-sign g.O.Offset.number g.O.Offset.most c.args.offsets.now c.index-offsets-i.result
    c.loop-i.i c.requires (omega (arith, c.loop-i-test.true)) c.index-offsets-i.is
