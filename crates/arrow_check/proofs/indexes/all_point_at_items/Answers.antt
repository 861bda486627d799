use Rattle.std.proofs.Common.{not, Some, sym, ap, ◌∙◌, arith}
use Rattle.std.proofs.lemmas.Option.{slice_get-get_or}
use Rattle.std.proofs.lemmas.Bool.{and_parts}
use Rattle.arrow_check.proofs.KeyLemmas.{find-step}
use Rattle.arrow_check.proofs.indexes.all_point_at_items.Goals as goal

pub loop-index-preserved : goal.loop-index-preserved
loop-index-preserved g c all =
    let keys = c.args.keys.now in
    let key = c.index-keys-index.result in
    let index = c.loop-index.index in
    let read = slice_get-get_or keys index key (omega arith) ∙ ap Some (sym c.index-keys-index.is) in
    let both = and_parts c.loop-index.all c.points_at_item-all.result all in
    find-step g.K.IndexKey.number c.args.len keys index key (c.loop-index.invariant both.0) read
    (ap not (sym c.points_at_item-all.ensures ∙ both.1))
