use Rattle.std.proofs.Common.{ap, ◌+◌, suc, map, drop, take, Some, [], ◌∷◌, ◌++◌, sym, ◌∙◌}
use Rattle.std.proofs.Math.Seq.{drop-cons}
use Rattle.std.proofs.lemmas.List.{map-append, take_more, take-append-drop}
use Rattle.arrow_column.specs.Column.{refused_growth, slot_overflows}
use Rattle.arrow_column.proofs.AppendLemmas.{one-more}
use Rattle.arrow_column.proofs.growing.GrowingColumn.extend_from_values.Goals as goal

pub loop-value-preserved : goal.loop-value-preserved
loop-value-preserved g c =
    let P = g.V.PushValue in
    let values = c.args.values.now in
    let i = c.loop-value.value-index in
    let x = c.value-item.result in
    let more = take_more values i x c.loop-value-test.true ∙ ap (λ y. take i values ++ y ∷ []) (sym c.value-item.is) in (
      one-more P.overflows P.shown g.V.MutableValues.default c.args.self.now _ c.push_valid.new.self
          (map Some (take i values)) (map Some (take (i + 1) values)) (Some x)
          (ap (map Some) more ∙ map-append Some (take i values) (x ∷ [])) c.loop-value.invariant.0 c.in-Ok.ensures.ok,
      c.in-Ok.ensures.data_type ∙ c.loop-value.invariant.1,
    )

pub returns-in-Err-clause-err : goal.returns-in-Err-clause-err
returns-in-Err-clause-err g c =
    let so_far = c.loop-value.invariant.0 in
    let refused = c.in-Err.ensures.err in
    let values = c.args.values.now in
    let i = c.loop-value.value-index in
    let x = c.value-item.result in
    let split = sym (take-append-drop i values)
    ∙ ap (λ rest. take i values ++ rest) (drop-cons values i x c.loop-value-test.true
    ∙ ap (λ y. y ∷ drop (suc i) values) (sym c.value-item.is)) in (
      map Some (take i values),
      map Some (drop (suc i) values),
      Some x,
      ap (map Some) split ∙ map-append Some (take i values) (x ∷ drop (suc i) values),
      (
        so_far.0,
        refused.1 ∙ so_far.1,
        refused.0
            ∙ ap (λ column. refused_growth (slot_overflows g.V.PushValue.overflows column (Some x))) (sym refused.1),
      ),
    )
