use Rattle.std.proofs.Common.{◌≡◌, ap, length, map, refl, subst}
use Rattle.std.specs.List.{AllZip}
use Rattle.std.proofs.lemmas.List.{take_all}
use Rattle.std.proofs.lemmas.List.Elements.{All-cons, All-push}
use Rattle.std.proofs.lemmas.Option.{slice_get_read}
use Rattle.example_record_batch.specs.AnyArrays.{slot_count}
use Rattle.example_record_batch.specs.Batches.{named}
use Rattle.example_csv.specs.Grouping.{IsAggregated}
use Rattle.example_csv.proofs.GroupLemmas.{aggregates-more, not-all-aggregates}
use Rattle.example_csv.proofs.ReadLemmas.{weaken-err}
use Rattle.example_csv.proofs.group.grouped_columns.Goals as goal

pub returns-in_err-aggregate_column-clause-err : goal.returns-in_err-aggregate_column-clause-err
returns-in_err-aggregate_column-clause-err c =
    let asked = c.args.asked.now in
    let i = c.loop-aggregation.aggregation-index in
    let one = c.aggregation-item.result in
    let at = slice_get_read asked (length asked) i one refl c.loop-aggregation-test.true c.aggregation-item.is in
    weaken-err c.from_residual.result _ _ c.from_residual.ensures.1
    (λ e is. rw is (not-all-aggregates c.args.table.now c.args.groups.now.indices (named c.args.keys) asked i one
    _ _ at c.loop-aggregation.invariant.0 c.in_err-aggregate_column.ensures.err))

pub loop-aggregation-preserved : goal.loop-aggregation-preserved
loop-aggregation-preserved c =
    let field = c.in_ok-aggregate_column.field-0 in
    let items = c.in_ok-push.ensures.items in (
      aggregates-more c.args.table.now c.args.groups.now.indices (named c.args.keys) c.args.asked.now
          c.loop-aggregation.aggregation-index c.aggregation-item.result c.loop-aggregation.columns.items
          c.push.new.self.items field c.loop-aggregation-test.true c.aggregation-item.is
          c.loop-aggregation.invariant.0 c.in_ok-aggregate_column.ensures.ok items,
      rw items
          (All-push (λ field. slot_count field.array ≡ slot_count c.args.keys.array) _ _ c.loop-aggregation.invariant.1
          c.in_ok-aggregate_column.ensures.count),
    )

pub returns-clause-ok : goal.returns-clause-ok
returns-clause-ok c = (
  map named c.loop-aggregation.columns.items,
  subst (λ asked. AllZip (IsAggregated c.args.table.now c.args.groups.now.indices (slot_count c.args.keys.array)) asked
      (map named c.loop-aggregation.columns.items))
      (take_all c.loop-aggregation.aggregation-index c.args.asked.now c.loop-aggregation-test.false)
      c.loop-aggregation.invariant.0,
  ap (map named) c.in_ok-insert.ensures.items,
)

pub returns-clause-rows : goal.returns-clause-rows
returns-clause-rows c = rw c.in_ok-insert.ensures.items
    (All-cons (λ field. slot_count field.array ≡ slot_count c.args.keys.array) c.args.keys
    c.loop-aggregation.columns.items refl c.loop-aggregation.invariant.1)
