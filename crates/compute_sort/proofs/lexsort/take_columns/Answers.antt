use Rattle.compute_sort.proofs.ColumnLemmas.{picks-column, taken-more}
use Rattle.compute_sort.proofs.lexsort.take_columns.Goals as goal

pub take-requires : goal.take-requires
take-requires c =
    picks-column c.args.columns.now c.loop-column.column-index c.column-item.result c.args.indexes.now
    c.requires.columns
    c.loop-column-test.true c.column-item.is c.requires.once

pub loop-column-preserved : goal.loop-column-preserved
loop-column-preserved c =
    taken-more c.args.columns.now c.args.indexes.now c.loop-column.made.items c.push.new.self.items
    c.loop-column.column-index
    c.column-item.result c.in_ok-take.field-0 c.loop-column-test.true c.column-item.is c.loop-column.invariant
    c.in_ok-push.ensures.items c.in_ok-take.ensures.ok
