use Rattle.std.proofs.Common.{◌+ℤ◌, ◌∙◌, ◌||◌, ap, ap₂, arith, false, get_or, pos, rules, sym, unsigned_abs}
use Rattle.std.specs.Prelude.{FitsSigned, slice_set}
use Rattle.std.specs.Int.{w128}
use Rattle.std.proofs.lemmas.Int.{to_z-of_z}
use Rattle.std.proofs.lemmas.Option.{same_Some, slice_get-get_or}
use Rattle.arrow_memory.specs.Rows.{slot}
use Rattle.compute_aggregate.specs.GroupSums.{more_in_sum}
use Rattle.compute_aggregate.proofs.GroupSumLemmas.{Whole, valid_is_some}
use Rattle.compute_aggregate.proofs.aggregate.whole_sums.add_slot.Goals as goal

pub returns : goal.returns
returns g c = λ _.
    let number = g.T.NativeArithmetics.number in
    let shown = slot (c.args.value, c.args.is_valid) in
    let none : Whole = (pos 0, false) in
    let current = get_or c.args.sums.now c.args.group none in
    let state = slice_get-get_or c.args.sums.now c.args.group none c.requires.within in
    let fits : FitsSigned w128 c.valid_number-number.result = search rules in
    let own = to_z-of_z w128 c.valid_number-number.result fits ∙ c.valid_number-number.ensures in
    record {
      small = omega (arith, ap unsigned_abs own, c.unsigned_abs.ensures.value, c.if-unsigned_abs.false);
      sums = λ sum at. ap (slice_set c.args.sums.now c.args.group) (c.add_number.ensures
          ∙ ap₂ (λ z b. (current.0 +ℤ z, current.1 || b)) own (sym (valid_is_some c.args.is_valid c.args.value))
          ∙ ap (more_in_sum number shown) (same_Some current sum (sym state ∙ at)));
    }
