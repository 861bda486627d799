use Rattle.std.proofs.Common.{ap, ◌+◌, suc, drop, take, [], ◌∷◌, ◌++◌, sym, ◌∙◌}
use Rattle.std.proofs.Math.Seq.{drop-cons}
use Rattle.std.proofs.lemmas.List.{take_more, take-append-drop}
use Rattle.arrow_column.specs.Column.{refused_growth, slot_overflows}
use Rattle.arrow_column.proofs.AppendLemmas.{one-more}
use Rattle.arrow_column.proofs.growing.GrowingColumn.extend_from_slots.Goals as goal

pub loop-slot-preserved : goal.loop-slot-preserved
loop-slot-preserved g c =
    let P = g.V.PushValue in
    let slots = c.args.slots.now in
    let i = c.loop-slot.slot-index in
    let x = c.slot-item.result in
    let more = take_more slots i x c.loop-slot-test.true ∙ ap (λ y. take i slots ++ y ∷ []) (sym c.slot-item.is) in (
      one-more P.overflows P.shown g.V.MutableValues.default c.args.self.now _ c.push.new.self (take i slots)
          (take (i + 1) slots) x more c.loop-slot.invariant.0 c.in-Ok.ensures.ok,
      c.in-Ok.ensures.data_type ∙ c.loop-slot.invariant.1,
    )

pub returns-in-Err-clause-err : goal.returns-in-Err-clause-err
returns-in-Err-clause-err g c =
    let so_far = c.loop-slot.invariant.0 in
    let refused = c.in-Err.ensures.err in
    let slots = c.args.slots.now in
    let i = c.loop-slot.slot-index in
    let x = c.slot-item.result in
    let split = sym (take-append-drop i slots)
    ∙ ap (λ rest. take i slots ++ rest) (drop-cons slots i x c.loop-slot-test.true
    ∙ ap (λ y. y ∷ drop (suc i) slots) (sym c.slot-item.is)) in (
      take i slots,
      drop (suc i) slots,
      x,
      split,
      (
        so_far.0,
        refused.1 ∙ so_far.1,
        refused.0
            ∙ ap (λ column. refused_growth (slot_overflows g.V.PushValue.overflows column x)) (sym refused.1),
      ),
    )
