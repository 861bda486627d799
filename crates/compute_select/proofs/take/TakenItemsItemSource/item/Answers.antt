use Rattle.std.proofs.Common.{arith, ◌<◌, ◌-◌, ◌^◌}
use Rattle.std.proofs.lemmas.List.{length-map}
use Rattle.arrow_memory.specs.Rows.{slot}
use Rattle.arrow_column.specs.Column.{slots_of}
use Rattle.compute_select.proofs.ItemLemmas.{item-past, item-unkeyed, item-within}
use Rattle.compute_select.proofs.take.TakenItemsItemSource.item.Goals as goal

pub returns-in-None-clause-value : goal.returns-in-None-clause-value
returns-in-None-clause-value g c =
    item-unkeyed g.I.IndexKey.number (slots_of c.args.self.now.array.now) (slots_of c.args.self.now.keys.now) c.args.i
    c.in-None.ensures

pub returns-then-index-len-clause-value : goal.returns-then-index-len-clause-value
returns-then-index-len-clause-value g c =
    let low : c.index_of_key-index.result < 2 ^ 64 - 1 = omega (arith, c.if-index-len.true) in
    item-within g.I.IndexKey.number (slots_of c.args.self.now.array.now) (slots_of c.args.self.now.keys.now) c.args.i
    c.in-Some.key c.index_of_key-index.result c.shown_item.result.now c.in-Some.ensures c.index_of_key-index.ensures low
    c.shown_item.ensures.value

pub returns-else-index-len-clause-value : goal.returns-else-index-len-clause-value
returns-else-index-len-clause-value g c =
    item-past g.I.IndexKey.number (slots_of c.args.self.now.array.now) (slots_of c.args.self.now.keys.now) c.args.i
    c.in-Some.key c.index_of_key-index.result c.in-Some.ensures c.index_of_key-index.ensures
    (omega (arith, c.if-index-len.false, c.len.ensures, length-map c.args.self.now.array.now.rows slot))
