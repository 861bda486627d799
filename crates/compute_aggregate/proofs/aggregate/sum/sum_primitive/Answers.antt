use Rattle.std.proofs.Common.{◌≡◌, ◌<◌, ◌∙◌, Some, ap, arith, length, map, of_z, rules, sym, to_z}
use Rattle.std.specs.Prelude.{FitsSigned}
use Rattle.std.specs.Int.{w128}
use Rattle.std.proofs.lemmas.Int.{to_z-of_z}
use Rattle.std.proofs.lemmas.List.{length-map, nil_from_length}
use Rattle.std.proofs.lemmas.Option.{cond_some}
use Rattle.compute_aggregate.specs.Aggregates.{sum_of, valid_values}
use Rattle.compute_aggregate.proofs.AggregateLemmas.{count_valid, sum_of_some}
use Rattle.compute_aggregate.proofs.aggregate.sum.sum_primitive.Goals as goal

pub returns-then-null_count-len-clause-ok : goal.returns-then-null_count-len-clause-ok
returns-then-null_count-len-clause-ok g c =
    ap (λ values. sum_of (map g.T.NativeArithmetics.number values))
    (sym (nil_from_length (valid_values c.args.array.now) (omega (arith, count_valid c.args.array.now))))

pub returns-in-Some-from_i128-clause-ok : goal.returns-in-Some-from_i128-clause-ok
returns-in-Some-from_i128-clause-ok g c =
    let total = c.in-Some.ensures in
    let sum_fits : FitsSigned w128 c.in-Some.sum = search rules in
    let same = to_z-of_z w128 c.in-Some.sum sum_fits in
    let sum = to_z w128 (of_z w128 c.in-Some.sum) in
    let taken = cond_some (g.T.NativeArithmetics.fits sum) (g.T.NativeArithmetics.wrap sum)
    c.in-Some-from_i128.sum (sym c.in-Some-from_i128.ensures) in
    let exact : g.T.NativeArithmetics.number c.in-Some-from_i128.sum ≡ c.in-Some.sum =
    ap g.T.NativeArithmetics.number (sym taken.1)
    ∙ g.met.T.NativeArithmetics.number_of_wrap sum taken.0 ∙ same in
    let some : 0 < length (valid_values c.args.array.now) = omega (arith, count_valid c.args.array.now) in
    ap Some (exact ∙ total)
    ∙ sum_of_some (map g.T.NativeArithmetics.number (valid_values c.args.array.now))
    (omega (arith, some, length-map (valid_values c.args.array.now) g.T.NativeArithmetics.number))
