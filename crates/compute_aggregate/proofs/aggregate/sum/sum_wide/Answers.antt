use Rattle.std.proofs.Common.{◌<◌, ◌∙◌, Some, ap, arith, length, map, refl, rules, sym}
use Rattle.std.specs.Prelude.{FitsSigned}
use Rattle.std.specs.Int.{w128}
use Rattle.std.proofs.lemmas.Bool.{false_from_ne_true}
use Rattle.std.proofs.lemmas.Int.{to_z-of_z}
use Rattle.std.proofs.lemmas.List.{length-map, nil_from_length}
use Rattle.arrow_integers.specs.NativeArithmetics.{fits_signed}
use Rattle.arrow_integers.specs.NativeNumbers.{signed_decides}
use Rattle.compute_aggregate.specs.Aggregates.{sum_all, sum_of, valid_values}
use Rattle.compute_aggregate.proofs.AggregateLemmas.{count_valid, sum_of_some}
use Rattle.compute_aggregate.proofs.aggregate.sum.sum_wide.Goals as goal

pub returns-then-null_count-len-clause-ok : goal.returns-then-null_count-len-clause-ok
returns-then-null_count-len-clause-ok g c =
    ap (λ values. sum_of (map g.T.NativeArithmetics.number values))
    (sym (nil_from_length (valid_values c.args.array.now) (omega (arith, count_valid c.args.array.now))))

pub returns-clause-ok : goal.returns-clause-ok
returns-clause-ok g c =
    let values = valid_values c.args.array.now in
    let some : 0 < length values = omega (arith, count_valid c.args.array.now) in
    let fits : FitsSigned w128 c.in-Some.wide = search rules in
    ap Some (to_z-of_z w128 c.in-Some.wide fits ∙ c.in-Some.ensures)
    ∙ sum_of_some (map g.T.NativeArithmetics.number values)
    (omega (arith, some, length-map values g.T.NativeArithmetics.number))

pub returns-in_default-clause-err : goal.returns-in_default-clause-err
returns-in_default-clause-err g c =
    let total = sum_all (map g.T.NativeArithmetics.number (valid_values c.args.array.now)) in (
      refl,
      false_from_ne_true (fits_signed w128 total) (λ e. c.in_default.ensures ((signed_decides w128 total).0 e)),
    )
