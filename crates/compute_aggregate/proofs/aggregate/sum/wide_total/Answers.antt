use Rattle.std.proofs.Common.{◌≡◌, ◌^◌, ◌∙◌, ap, arith, length, pos, rules}
use Rattle.std.specs.Prelude.{FitsSigned}
use Rattle.std.specs.Int.{w128}
use Rattle.std.proofs.lemmas.Int.{to_z-of_z}
use Rattle.std.proofs.lemmas.List.{length-map}
use Rattle.arrow_memory.specs.Rows.{slot}
use Rattle.arrow_column.specs.Column.{slots_of}
use Rattle.compute_aggregate.proofs.SumLemmas.{small_total}
use Rattle.compute_aggregate.proofs.aggregate.sum.wide_total.Goals as goal

pub returns-then-is_exact : goal.returns-then-is_exact
returns-then-is_exact g c =
    let sum = c.fold_slots-sum.result.0 in
    let fits : FitsSigned w128 sum = search rules in
    let zero : g.T.NativeArithmetics.number c.default.result ≡ pos 0 =
    ap g.T.NativeArithmetics.number c.default.ensures ∙ g.met.T.NativeArithmetics.zero_number in
    let long : length (slots_of c.args.array.now) ≡ length c.args.array.now.rows = length-map c.args.array.now.rows slot in
    to_z-of_z w128 sum fits
    ∙ small_total w128 (2 ^ 64) g.T.NativeArithmetics.number c.default.result (slots_of c.args.array.now)
    c.fold_slots-sum.result zero c.fold_slots-sum.ensures c.if-is_exact.true (omega arith)
