use Rattle.std.proofs.Common.{◌≡◌, ◌+◌, ap, arith, length, refl, take, ◌∙◌}
use Rattle.std.specs.List.{concat}
use Rattle.arrow_types.proofs.CallerLemmas.{length-push, take-next}
use Rattle.compute_select.proofs.ItemLemmas.{some-shorter}
use Rattle.compute_select.proofs.items.items_length.Goals as goal

pub returns-then-added-most-clause-err : goal.returns-then-added-most-clause-err
returns-then-added-most-clause-err g c =
    let items = g.S.ItemSource.items c.args.source.now in
    let i = c.loop-i.i in
    let item = c.item-added.result.now in
    let grown : length (concat (take (i + 1) items)) ≡ length (concat (take i items)) + length item =
    ap (λ xs. length (concat xs)) (take-next items i item c.item-added.ensures.value)
    ∙ length-push (take i items) item in
    let same : c.to_usize-most.result ≡ g.O.Offset.most = cc in (
      refl,
      omega (
        arith,
        grown,
        same,
        some-shorter (i + 1) items,
        c.if-added-most.true,
        c.loop-i.invariant.counted,
        c.loop-i.invariant.within,
      ),
    )

pub loop-i-preserved : goal.loop-i-preserved
loop-i-preserved g c =
    let items = g.S.ItemSource.items c.args.source.now in
    let i = c.loop-i.i in
    let item = c.item-added.result.now in
    let grown : length (concat (take (i + 1) items)) ≡ length (concat (take i items)) + length item =
    ap (λ xs. length (concat xs)) (take-next items i item c.item-added.ensures.value)
    ∙ length-push (take i items) item in
    record {
      counted = omega (arith, grown, c.loop-i.invariant.counted);
      within = omega (arith, c.if-added-most.false, c.loop-i.invariant.within);
    }
