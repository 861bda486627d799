use Rattle.std.proofs.Common.{◌+◌, [], ◌∷◌, arith, sym, take}
use Rattle.arrow_types.proofs.CallerLemmas.{take-next}
use Rattle.arrow_kernels.proofs.CallerLemmas.{bare-fits, bare-grown}
use Rattle.compute_select.proofs.ItemLemmas.{some-shorter}
use Rattle.compute_select.proofs.items.push_items.Goals as goal

pub push_fitting_item-requires-clause-fits : goal.push_fitting_item-requires-clause-fits
push_fitting_item-requires-clause-fits g c =
    let items = g.S.ItemSource.items c.args.source.now in
    let i = c.loop-i.i in
    let item = c.item.result.now in
    bare-fits g.O.Offset.most c.loop-i.made (take i items) (item ∷ []) (take (i + 1) items) c.loop-i.invariant
    (sym (take-next items i item c.item.ensures.value)) (omega (arith, some-shorter (i + 1) items, c.requires))

pub loop-i-preserved : goal.loop-i-preserved
loop-i-preserved g c =
    let items = g.S.ItemSource.items c.args.source.now in
    let i = c.loop-i.i in
    let item = c.item.result.now in
    bare-grown g.O.Offset.most c.loop-i.made (take i items) (item ∷ []) (take (i + 1) items) c.loop-i.invariant
    (sym (take-next items i item c.item.ensures.value)) _ c.in_ok-push_fitting_item.ensures.ok
