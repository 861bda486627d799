use Rattle.std.proofs.Common.{◌≡◌, ◌+◌, ◌-◌, take, drop, ap, ◌∙◌, arith}
use Rattle.arrow_memory.specs.Offsets.{numbers_of}
use Rattle.arrow_memory.proofs.OffsetLemmas.{keeps-piece, last-piece, numbers-piece}
use Rattle.arrow_memory.proofs.offset.growing.Offsets.try_extend_slots.Goals as goal

pub try_extend_cut-requires-clause-keeps : goal.try_extend_cut-requires-clause-keeps
try_extend_cut-requires-clause-keeps g c =
    let count = c.args.run.end - c.args.run.start in
    let e : c.args.run.end + 1 - c.args.run.start ≡ count + 1 = omega (arith, c.requires.order) in
    rw (e, c.as_slice-offsets.ensures) (keeps-piece g.O.Offset.number g.O.Offset.most c.buffer.result.now
    c.args.run.start (count + 1) c.buffer.ensures.keeps (omega arith) (omega (
      arith,
      c.buffer.ensures.count,
      c.requires.order,
      c.requires.within,
    )))

pub try_extend_cut-requires-clause-held : goal.try_extend_cut-requires-clause-held
try_extend_cut-requires-clause-held g c =
    let count = c.args.run.end - c.args.run.start in
    let e : c.args.run.end + 1 - c.args.run.start ≡ count + 1 = omega (arith, c.requires.order) in
    let end = last-piece c.args.other.now c.args.run.start (count + 1) c.buffer.ensures.legal (omega arith)
    (omega (arith, c.requires.order, c.requires.within)) in
    rw (
      e,
      c.as_slice-offsets.ensures,
      numbers-piece g.O.Offset.number c.buffer.result.now c.args.run.start
          (count + 1),
      c.buffer.ensures.numbers,
    ) (omega (arith, end, c.requires.held))

pub returns-clause-ok : goal.returns-clause-ok
returns-clause-ok g c =
    let number = g.O.Offset.number in
    let count = c.args.run.end - c.args.run.start in
    let e : c.args.run.end + 1 - c.args.run.start ≡ count + 1 = omega (arith, c.requires.order) in
    let piece : numbers_of number (take (c.args.run.end + 1 - c.args.run.start)
    (drop c.args.run.start c.as_slice-offsets.result.now))
    ≡ take (count + 1) (drop c.args.run.start c.args.other.now) =
    rw (e, c.as_slice-offsets.ensures) (numbers-piece number c.buffer.result.now c.args.run.start (count + 1)
    ∙ ap (λ ns. take (count + 1) (drop c.args.run.start ns)) c.buffer.ensures.numbers)
    in
    rw piece at c.try_extend_cut.ensures.ok

pub returns-clause-bytes : goal.returns-clause-bytes
returns-clause-bytes g c =
    let number = g.O.Offset.number in
    let count = c.args.run.end - c.args.run.start in
    let e : c.args.run.end + 1 - c.args.run.start ≡ count + 1 = omega (arith, c.requires.order) in
    let piece : numbers_of number (take (c.args.run.end + 1 - c.args.run.start)
    (drop c.args.run.start c.as_slice-offsets.result.now))
    ≡ take (count + 1) (drop c.args.run.start c.args.other.now) =
    rw (e, c.as_slice-offsets.ensures) (numbers-piece number c.buffer.result.now c.args.run.start (count + 1)
    ∙ ap (λ ns. take (count + 1) (drop c.args.run.start ns)) c.buffer.ensures.numbers)
    in
    rw piece at c.try_extend_cut.ensures.bytes

pub returns-clause-err : goal.returns-clause-err
returns-clause-err g c =
    let number = g.O.Offset.number in
    let count = c.args.run.end - c.args.run.start in
    let e : c.args.run.end + 1 - c.args.run.start ≡ count + 1 = omega (arith, c.requires.order) in
    let piece : numbers_of number (take (c.args.run.end + 1 - c.args.run.start)
    (drop c.args.run.start c.as_slice-offsets.result.now))
    ≡ take (count + 1) (drop c.args.run.start c.args.other.now) =
    rw (e, c.as_slice-offsets.ensures) (numbers-piece number c.buffer.result.now c.args.run.start (count + 1)
    ∙ ap (λ ns. take (count + 1) (drop c.args.run.start ns)) c.buffer.ensures.numbers)
    in
    rw piece at c.try_extend_cut.ensures.err
