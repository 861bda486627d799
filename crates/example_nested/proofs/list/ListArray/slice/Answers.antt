use Rattle.std.proofs.Common.{◌+◌, ◌<◌, None, Some, arith, length}
use Rattle.example_nested.proofs.CutLemmas.{cut-lists, cut-passes}
use Rattle.example_nested.proofs.ListLemmas.{length-lists}
use Rattle.example_nested.proofs.list.ListArray.slice.Goals as goal

pub returns-in_default : goal.returns-in_default
returns-in_default g c =
    let slots = g.A.InnerArray.slots c.self.inside.values in
    rw (← c.self.view_is, c.slice.ensures.value, c.in_default.is)
    (cut-lists c.self.inside.offsets slots None c.args.offset c.args.len)

pub invariant_of-self-2 : goal.invariant_of-self-2
invariant_of-self-2 g c =
    let slots = g.A.InnerArray.slots c.self.inside.values in
    let passes = rw c.in-Some.is at c.self.invariant.1 in
    let fits = rw (← c.self.view_is) at c.requires in
    let within : c.args.offset + c.args.len < length c.self.inside.offsets = omega (
      arith,
      fits,
      length-lists c.self.inside.offsets slots c.self.inside.validity c.self.invariant.0 c.self.invariant.1,
    ) in (
      c.slice.ensures.legal,
      rw (c.slice.ensures.value, c.slice-2.ensures)
          (cut-passes c.self.inside.offsets slots (Some c.in-Some.marks) c.args.offset c.args.len c.self.invariant.0
          passes within),
    )

pub returns : goal.returns
returns g c =
    let slots = g.A.InnerArray.slots c.self.inside.values in
    rw (← c.self.view_is, c.slice.ensures.value, c.slice-2.ensures, c.in-Some.is)
    (cut-lists c.self.inside.offsets slots (Some c.in-Some.marks) c.args.offset c.args.len)
