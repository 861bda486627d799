use Rattle.std.proofs.Common.{rules, ◌<◌, get_or, length, arith, ◌∙◌, ap, sym, Some}
use Rattle.std.proofs.lemmas.Option.{slice_get-get_or}
use Rattle.compute_comparison.proofs.PairLemmas.{length-pairs, pair_at}
use Rattle.compute_comparison.proofs.comparison.numbers.NumberPairsMarkSource.mark.Goals as goal

pub offset_bounds-self-i : goal.offset_bounds-self-i
offset_bounds-self-i g c =
    let low : c.args.i < length c.args.self.now.lhs.now = omega (
      arith,
      c.requires,
      length-pairs (λ truth. truth) g.C.Test.holds c.args.self.now.lhs.now c.args.self.now.rhs.now,
    ) in
    search rules

pub bounds-self-i : goal.bounds-self-i
bounds-self-i g c = omega (
  arith,
  c.requires,
  length-pairs (λ truth. truth) g.C.Test.holds c.args.self.now.lhs.now c.args.self.now.rhs.now,
)

pub offset_bounds-self-i-2 : goal.offset_bounds-self-i-2
offset_bounds-self-i-2 g c =
    let low : c.args.i < length c.args.self.now.rhs.now = omega (
      arith,
      c.requires,
      length-pairs (λ truth. truth) g.C.Test.holds c.args.self.now.lhs.now c.args.self.now.rhs.now,
    ) in
    search rules

pub bounds-self-i-2 : goal.bounds-self-i-2
bounds-self-i-2 g c = omega (
  arith,
  c.requires,
  length-pairs (λ truth. truth) g.C.Test.holds c.args.self.now.lhs.now c.args.self.now.rhs.now,
)

pub returns : goal.returns
returns g c =
    let xs = c.args.self.now.lhs.now in
    let ys = c.args.self.now.rhs.now in
    let low = length-pairs (λ truth. truth) g.C.Test.holds xs ys in
    let x = get_or xs c.args.i c.index-self-i.result in
    let y = get_or ys c.args.i c.index-self-i-2.result in
    pair_at (λ truth. truth) g.C.Test.holds xs ys c.args.i x y
    (slice_get-get_or xs c.args.i c.index-self-i.result (omega (arith, c.requires, low)))
    (slice_get-get_or ys c.args.i c.index-self-i-2.result (omega (arith, c.requires, low)))
    ∙ ap Some (sym c.test.ensures)
