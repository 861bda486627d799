use Rattle.std.proofs.Common.{rules, ◌<◌, length, arith, ◌∙◌, ap, sym, Some}
use Rattle.std.proofs.lemmas.Option.{slice_get-get_or}
use Rattle.arrow_types.proofs.CallerLemmas.{get-combined}
use Rattle.compute_base.proofs.CallerLemmas.{length-of_pairs}
use Rattle.compute_arithmetics.proofs.combine.CheckedPairsSlotSource.slot.Goals as goal

pub offset_bounds-self-i : goal.offset_bounds-self-i
offset_bounds-self-i g c =
    let low : c.args.i < length c.args.self.now.lhs.now = omega (
      arith,
      c.requires,
      length-of_pairs g.O.CheckedOperation.make c.args.self.now.lhs.now c.args.self.now.rhs.now,
    ) in
    search rules

pub bounds-self-i : goal.bounds-self-i
bounds-self-i g c = omega (
  arith,
  c.requires,
  length-of_pairs g.O.CheckedOperation.make c.args.self.now.lhs.now c.args.self.now.rhs.now,
)

pub offset_bounds-self-i-2 : goal.offset_bounds-self-i-2
offset_bounds-self-i-2 g c =
    let low : c.args.i < length c.args.self.now.rhs.now = omega (
      arith,
      c.requires,
      length-of_pairs g.O.CheckedOperation.make c.args.self.now.lhs.now c.args.self.now.rhs.now,
    ) in
    search rules

pub bounds-self-i-2 : goal.bounds-self-i-2
bounds-self-i-2 g c = omega (
  arith,
  c.requires,
  length-of_pairs g.O.CheckedOperation.make c.args.self.now.lhs.now c.args.self.now.rhs.now,
)

pub returns : goal.returns
returns g c =
    let xs = c.args.self.now.lhs.now in
    let ys = c.args.self.now.rhs.now in
    let make = g.O.CheckedOperation.make in
    let count = length-of_pairs make xs ys in
    get-combined make xs ys c.args.i _ _
    (slice_get-get_or xs c.args.i c.index-self-i.result (omega (arith, c.requires, count)))
    (slice_get-get_or ys c.args.i c.index-self-i-2.result (omega (arith, c.requires, count)))
    ∙ ap Some (sym c.apply.ensures)
