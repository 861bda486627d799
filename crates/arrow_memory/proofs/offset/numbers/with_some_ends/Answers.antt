use Rattle.std.proofs.Common.{◌≡◌, ◌+◌, ◌-◌, pos, ◌∙◌, arith}
use Rattle.arrow_memory.specs.Offsets.{numbers_of}
use Rattle.arrow_memory.proofs.OffsetLemmas.{length-numbers, moved-step}
use Rattle.arrow_memory.proofs.offset.numbers.with_some_ends.Goals as goal

pub loop-i-preserved : goal.loop-i-preserved
loop-i-preserved g c =
    let number = g.O.Offset.number in
    let loop = c.loop-i in
    let ns = numbers_of number c.args.other.now in
    let end : number c.from_as_usize.result ≡ pos (c.args.last + (c.number_at.result - c.number_at-first.result)) =
    c.from_as_usize.ensures in
    record {
      ends = moved-step number c.args.offsets.items loop.offsets.items c.push_reserved.new.self.items c.args.from loop.i
          c.args.last c.from_as_usize.result ns (omega arith) (omega (arith, length-numbers number c.args.other.now))
          (rw (← c.number_at.ensures, ← c.number_at-first.ensures) end) c.push_reserved.ensures.items
          loop.invariant.ends;
      count = omega (arith, loop.invariant.count, c.push_reserved.ensures.len);
      capacity = c.push_reserved.ensures.capacity ∙ loop.invariant.capacity;
    }
