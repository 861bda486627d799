use Rattle.std.proofs.Common.{rules, ◌≡◌, ◌+◌, ◌-◌, ◌<◌, length, ap, arith}
use Rattle.arrow_check.proofs.CallerLemmas.{length-items}
use Rattle.arrow_bytes.proofs.CutLemmas.{added-err, added-ok, ends-added, kinds-added}
use Rattle.arrow_bytes.proofs.growing.MutableByteValues.push_items.Goals as goal

pub overflow_add-slots : goal.overflow_add-slots
overflow_add-slots g c =
    let other = c.items.inside in
    let inside : c.args.first + c.args.count < length other.offsets.now = omega (
      arith,
      c.requires,
      length-items other.offsets.now other.bytes.now c.items.invariant.0.some,
      ap length c.items.view_is,
    ) in
    omega (arith, inside, c.len_proxy.ensures.count)

pub invariant_of-self : goal.invariant_of-self
invariant_of-self g c =
    let values = c.self.inside in
    let e : c.args.first + c.args.count - c.args.first ≡ c.args.count = omega arith in
    let other = c.items.inside in
    let inside : c.args.first + c.args.count < length other.offsets.now = omega (
      arith,
      c.requires,
      length-items other.offsets.now other.bytes.now c.items.invariant.0.some,
      ap length c.items.view_is,
    ) in
    let ends = ends-added values.offsets values.bytes.items other.offsets.now other.bytes.now c.args.first c.args.count
    c.self.invariant.0 c.self.invariant.1 c.items.invariant.0 c.items.invariant.1 inside in
    let kinds = kinds-added values.offsets values.bytes.items other.offsets.now other.bytes.now c.args.first c.args.count
    c.self.invariant.0 c.self.invariant.1 c.items.invariant.0 c.items.invariant.1 inside g.K.ByteKind.is_text
    c.self.invariant.2 c.items.invariant.2 in
    (c.try_extend_slots.ensures.legal, grind arith, grind arith)

pub returns-clause-ok : goal.returns-clause-ok
returns-clause-ok g c =
    let values = c.self.inside in
    let e : c.args.first + c.args.count - c.args.first ≡ c.args.count = omega arith in
    let other = c.items.inside in
    let inside : c.args.first + c.args.count < length other.offsets.now = omega (
      arith,
      c.requires,
      length-items other.offsets.now other.bytes.now c.items.invariant.0.some,
      ap length c.items.view_is,
    ) in
    rw (← c.self.view_is, ← c.items.view_is) (added-ok values.offsets values.bytes.items other.offsets.now other.bytes.now
    c.args.first c.args.count c.self.invariant.0 c.self.invariant.1 c.items.invariant.0 c.items.invariant.1 inside
    g.O.Offset.most c.try_extend_slots.new.self c.try_extend_slots.new.values.items c.try_extend_slots.result
    (rw e at c.try_extend_slots.ensures.ok)
    (rw e at c.try_extend_slots.ensures.bytes))

pub returns-clause-err : goal.returns-clause-err
returns-clause-err g c =
    let values = c.self.inside in
    let e : c.args.first + c.args.count - c.args.first ≡ c.args.count = omega arith in
    let other = c.items.inside in
    let inside : c.args.first + c.args.count < length other.offsets.now = omega (
      arith,
      c.requires,
      length-items other.offsets.now other.bytes.now c.items.invariant.0.some,
      ap length c.items.view_is,
    ) in
    rw (← c.self.view_is, ← c.items.view_is) (added-err values.offsets values.bytes.items other.offsets.now other.bytes.now
    c.args.first c.args.count c.self.invariant.0 c.self.invariant.1 c.items.invariant.0 c.items.invariant.1 inside
    g.O.Offset.most c.try_extend_slots.new.self c.try_extend_slots.new.values.items c.try_extend_slots.result
    (rw e at c.try_extend_slots.ensures.err)
    c.try_extend_slots.ensures.kept)
