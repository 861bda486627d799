use Rattle.std.proofs.Common.{◌∙◌, None, Some, ap, if◌then◌else◌, rules, sym}
use Rattle.std.specs.Prelude.{FitsSigned, option_map}
use Rattle.std.specs.Int.{w128}
use Rattle.std.proofs.lemmas.Int.{to_z-of_z}
use Rattle.arrow_column.proofs.CallerLemmas.{slot-at}
use Rattle.compute_aggregate.specs.Sums.{number_or_zero}
use Rattle.compute_aggregate.proofs.aggregate.sum.number_at.Goals as goal

pub returns-then-is_valid : goal.returns-then-is_valid
returns-then-is_valid g c =
    let number = c.to_i128-number.result in
    let fits : FitsSigned w128 number = search rules in
    ap (option_map (number_or_zero g.T.NativeArithmetics.number))
    (slot-at c.args.array.now.rows c.args.i c.value.result c.is_valid.result c.value.ensures c.is_valid.ensures)
    ∙ ap (λ mark. Some (number_or_zero g.T.NativeArithmetics.number (if mark then Some c.value.result else None))) c.if-is_valid.true
    ∙ ap Some (sym c.to_i128-number.ensures.value ∙ sym (to_z-of_z w128 number fits))

pub returns-else-is_valid : goal.returns-else-is_valid
returns-else-is_valid g c =
    ap (option_map (number_or_zero g.T.NativeArithmetics.number))
    (slot-at c.args.array.now.rows c.args.i c.value.result c.is_valid.result c.value.ensures c.is_valid.ensures)
    ∙ ap (λ mark. Some (number_or_zero g.T.NativeArithmetics.number (if mark then Some c.value.result else None))) c.if-is_valid.false
