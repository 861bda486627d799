use Rattle.std.proofs.Common.{◌+◌, ◌*◌, ◌%◌, ◌^◌, arith, bit_or, subst, sym}
use Rattle.compute_base.proofs.WordLemmas.{HoldsFirst, all-bits, no-bits, one-bit}
use Rattle.compute_base.proofs.words.few_of.Goals as goal

pub loop-i-init : goal.loop-i-init
loop-i-init c = no-bits c.args.bitmap.now c.args.place

pub loop-i-preserved : goal.loop-i-preserved
loop-i-preserved c =
    let marks = c.args.bitmap.now in
    subst (λ bit. HoldsFirst (bit_or c.loop-i.word (bit * 2 ^ c.loop-i.i % 2 ^ 64)) marks c.args.place (c.loop-i.i + 1))
    (sym c.from.ensures)
    (one-bit 64 c.loop-i.word marks c.args.place c.loop-i.i c.get_bit.result (omega arith) c.get_bit.ensures
    c.loop-i.invariant)

pub returns : goal.returns
returns c = all-bits c.loop-i.word c.args.bitmap.now c.args.place c.loop-i.i c.args.count c.loop-i-test.false
    c.loop-i.invariant
