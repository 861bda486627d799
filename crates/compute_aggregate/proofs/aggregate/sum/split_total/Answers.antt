use Rattle.std.proofs.Common.{◌≡◌, ◌+ℤ◌, ◌∙◌, ap, arith, map, of_z, rules, to_z}
use Rattle.std.specs.Prelude.{FitsSigned, MatchOption}
use Rattle.std.specs.Int.{w128}
use Rattle.std.proofs.Common.{subst}
use Rattle.std.proofs.lemmas.Int.{to_z-of_z}
use Rattle.arrow_column.specs.Column.{slots_of}
use Rattle.compute_aggregate.specs.Aggregates.{sum_all}
use Rattle.compute_aggregate.proofs.AggregateLemmas.{all_slots, valid}
use Rattle.compute_aggregate.proofs.SumLemmas.{high_fits, high_step, split_step}
use Rattle.compute_aggregate.proofs.aggregate.sum.split_total.Goals as goal

pub loop-i-preserved : goal.loop-i-preserved
loop-i-preserved g c =
    let high = to_z w128 c.loop-i.high-bits in
    let part = c.split-parts.result.0 in
    let part_fits : FitsSigned w128 part = search rules in
    let next =
    ap (λ p. to_z w128 (of_z w128 (high +ℤ p))) (to_z-of_z w128 part part_fits)
    ∙ to_z-of_z w128 (high +ℤ part) (high_fits high part c.loop-i.i c.loop-i.invariant.high
    c.split-parts.ensures.high (omega arith)) in
    let number_fits : FitsSigned w128 c.number_at.result = search rules in
    record {
      sum = split_step g.T.NativeArithmetics.number (slots_of c.args.array.now) c.loop-i.i high part
          (to_z w128 (of_z w128 (high +ℤ to_z w128 (of_z w128 part)))) c.number_at.result
          (to_z w128 (of_z w128 c.number_at.result)) c.loop-i.low c.split-parts.result.1 next
          (to_z-of_z w128 c.number_at.result number_fits) c.loop-i.invariant.sum c.split-parts.ensures.parts
          c.number_at.ensures;
      high = high_step high part (to_z w128 (of_z w128 (high +ℤ to_z w128 (of_z w128 part)))) c.loop-i.i next
          c.loop-i.invariant.high c.split-parts.ensures.high;
      low = omega (arith, c.loop-i.invariant.low, c.split-parts.ensures.low);
    }

pub returns : goal.returns
returns g c =
    let all = c.loop-i.invariant.sum ∙ ap (λ slots. sum_all (map g.T.NativeArithmetics.number (valid slots)))
    (all_slots c.args.array.now c.len-i-end.result c.loop-i.i c.len-i-end.ensures c.loop-i-test.false) in
    subst (λ z. MatchOption c.join_sum.result (FitsSigned w128 z → ⊥) (λ sum. sum ≡ z)) all c.join_sum.ensures
