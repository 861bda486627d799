use Rattle.std.proofs.Common.{◌+◌, ◌*◌, ◌%◌, ◌^◌, arith, bit_or, subst, sym}
use Rattle.compute_base.proofs.WordLemmas.{HoldsFirst, all-bits, no-bits, one-bit}
use Rattle.compute_base.proofs.words.pack_few.Goals as goal

pub loop-i-init : goal.loop-i-init
loop-i-init g c = no-bits (g.S.MarkSource.marks c.args.source.now) c.args.place

pub loop-i-preserved : goal.loop-i-preserved
loop-i-preserved g c =
    let marks = g.S.MarkSource.marks c.args.source.now in
    subst (λ bit. HoldsFirst (bit_or c.loop-i.word (bit * 2 ^ c.loop-i.i % 2 ^ 64)) marks c.args.place (c.loop-i.i + 1))
    (sym c.from.ensures)
    (one-bit 64 c.loop-i.word marks c.args.place c.loop-i.i c.mark.result (omega arith) c.mark.ensures
    c.loop-i.invariant)

pub returns : goal.returns
returns g c = all-bits c.loop-i.word (g.S.MarkSource.marks c.args.source.now) c.args.place c.loop-i.i c.args.count
    c.loop-i-test.false c.loop-i.invariant
