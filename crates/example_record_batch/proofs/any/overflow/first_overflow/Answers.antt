use Rattle.std.proofs.Common.{◌≡◌, ◌∙◌, false, rules, sym, true}
use Rattle.std.specs.Prelude.{FitsSigned, not}
use Rattle.std.specs.Int.{w64, w128}
use Rattle.std.proofs.lemmas.Int.{to_z-of_z}
use Rattle.std.proofs.lemmas.Option.{get_or_from_slice_get}
use Rattle.dethrugn.specs.Aggregates.{sum_all}
use Rattle.dethrugn.specs.Groups.{group_values}
use Rattle.dethrugn.specs.NativeArithmetics.{fits_signed}
use Rattle.example_record_batch.proofs.OverflowLemmas.{first-found, none-more}
use Rattle.example_record_batch.proofs.any.overflow.first_overflow.Goals as goal

pub returns-then-overflows-clause-ok : goal.returns-then-overflows-clause-ok
returns-then-overflows-clause-ok c =
    let values = group_values c.args.array.now c.args.indices.now in
    let group = c.loop-group.group in
    let low = c.loop-group-test.true in
    let sum = c.index.result.now in
    let read : sum ≡ sum_all (values group) = c.index.ensures
    ∙ get_or_from_slice_get c.in_ok-sums.sums.items group (sum_all (values group)) sum (c.in_ok-sums.ensures.ok group low) in
    let fits : FitsSigned w128 sum = search rules in
    let same = to_z-of_z w128 sum fits in
    let said = c.overflows.ensures in
    let holds = c.if-overflows.true in
    let passes : not (fits_signed w64 (sum_all (values group))) ≡ true = cc in
    sym (first-found (λ g. not (fits_signed w64 (sum_all (values g)))) group c.args.groups low c.loop-group.invariant passes)

pub loop-group-preserved : goal.loop-group-preserved
loop-group-preserved c =
    let values = group_values c.args.array.now c.args.indices.now in
    let group = c.loop-group.group in
    let low = c.loop-group-test.true in
    let sum = c.index.result.now in
    let read : sum ≡ sum_all (values group) = c.index.ensures
    ∙ get_or_from_slice_get c.in_ok-sums.sums.items group (sum_all (values group)) sum (c.in_ok-sums.ensures.ok group low) in
    let fits : FitsSigned w128 sum = search rules in
    let same = to_z-of_z w128 sum fits in
    let said = c.overflows.ensures in
    let holds = c.if-overflows.false in
    let fails : not (fits_signed w64 (sum_all (values group))) ≡ false = cc in
    none-more (λ g. not (fits_signed w64 (sum_all (values g)))) group c.loop-group.invariant fails
