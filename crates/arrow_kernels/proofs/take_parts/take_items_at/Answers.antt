use Rattle.std.proofs.Common.{◌+◌, [], ◌∷◌, arith, sym, take}
use Rattle.arrow_bytes.specs.Selection.{at_keys}
use Rattle.arrow_kernels.proofs.ChoiceLemmas.{key-place, keys-more}
use Rattle.arrow_kernels.proofs.ItemLemmas.{bare-fits, bare-grown, keys-length}
use Rattle.arrow_kernels.proofs.take_parts.take_items_at.Goals as goal

pub push_fitting_item-requires-clause-fits : goal.push_fitting_item-requires-clause-fits
push_fitting_item-requires-clause-fits g c =
    let number = g.I.IndexKey.number in
    let keys = c.args.keys.now in
    let items = c.args.items in
    let i = c.loop-key.key-index in
    let item = c.value.result.now in
    let found = key-place items (number c.key-item.result) c.place_of.result item c.place_of.ensures.place
    c.value.ensures.value in
    let more = keys-more number keys items i c.key-item.result item c.loop-key-test.true c.key-item.is found in
    bare-fits g.O.Offset.most c.loop-key.picked (at_keys number (take i keys) items) (item ∷ [])
    (at_keys number (take (i + 1) keys) items) c.loop-key.invariant (sym more)
    (omega (arith, keys-length number (i + 1) keys items, c.requires.within))

pub loop-key-preserved : goal.loop-key-preserved
loop-key-preserved g c =
    let number = g.I.IndexKey.number in
    let keys = c.args.keys.now in
    let items = c.args.items in
    let i = c.loop-key.key-index in
    let item = c.value.result.now in
    let found = key-place items (number c.key-item.result) c.place_of.result item c.place_of.ensures.place
    c.value.ensures.value in
    let more = keys-more number keys items i c.key-item.result item c.loop-key-test.true c.key-item.is found in
    bare-grown g.O.Offset.most c.loop-key.picked (at_keys number (take i keys) items) (item ∷ [])
    (at_keys number (take (i + 1) keys) items) c.loop-key.invariant (sym more) _
    c.in_ok-push_fitting_item.ensures.ok
