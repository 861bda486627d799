use Rattle.std.proofs.Common.{◌≡◌, ◌+◌, ◌∙◌, ap, ℕ, replicate, arith}
use Rattle.arrow_memory.proofs.OffsetLemmas.{filled, keeps-zeros, numbers-zeros}
use Rattle.arrow_memory.proofs.offset.growing.Offsets.new_zeroed.Goals as goal

pub invariant_of-result : goal.invariant_of-result
invariant_of-result g c =
    let count = c.in-Some.count in
    let zero = c.from_as_usize.result in
    rw (filled count _ _ c.resize.new.self.items zero c.new-offsets.ensures.items c.new-offsets.ensures.len
    c.in_ok-resize.ensures.items)
    (keeps-zeros g.O.Offset.number g.O.Offset.most zero count (omega (arith, c.in-Some.ensures))
    c.from_as_usize.ensures)

pub returns-clause-ok : goal.returns-clause-ok
returns-clause-ok g c =
    let count = c.in-Some.count in
    let zero = c.from_as_usize.result in
    let all : count ≡ c.args.length + 1 = omega (arith, c.in-Some.ensures) in
    rw (filled count _ _ c.resize.new.self.items zero c.new-offsets.ensures.items c.new-offsets.ensures.len
    c.in_ok-resize.ensures.items)
    (numbers-zeros g.O.Offset.number zero count c.from_as_usize.ensures ∙ ap (λ n. replicate {A = ℕ} n 0) all)
