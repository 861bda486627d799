use Rattle.std.proofs.Common.{◌≡◌, ◌∙◌, arith}
use Rattle.arrow_types.specs.Types.{logical_type}
use Rattle.arrow_types.specs.declared.error.Error.TheVariants as error
use Rattle.arrow_types.proofs.CallerLemmas.{on-residual}
use Rattle.compute_aggregate.specs.Groups.{as_seen}
use Rattle.compute_aggregate.proofs.OrderedLemmas.{made_of_items, made_under, only_memory, size_within}
use Rattle.compute_aggregate.proofs.aggregate.made.items_like.Goals as goal

pub returns-clause-ok : goal.returns-clause-ok
returns-clause-ok g c =
    let t = logical_type c.in_ok-data_type.data_type in
    made_under t c.args.array.now.data_type (as_seen g.X.ByteItem.bytes c.args.slots.now) c.with_items_type.result
    (c.in_ok-data_type.ensures.cases ∙ c.data_type.ensures.value)
    (made_of_items g.X.ByteItem.bytes g.O.Offset.most (g.K.ByteKind.default_type g.O.Offset.IS_LARGE) t c.args.slots.now
    c.in_ok-from.field-0 c.with_items_type.result c.in_ok-from.ensures.ok c.with_items_type.ensures)

pub returns-in_err-from-clause-err : goal.returns-in_err-from-clause-err
returns-in_err-from-clause-err g c =
    on-residual c.from_residual-in_err-from.result c.in_err-from.field-0.0 (λ e. e ≡ error.OutOfMemory) c.from_residual-in_err-from.ensures.1
    (only_memory g.X.ByteItem.bytes g.O.Offset.most (g.K.ByteKind.default_type g.O.Offset.IS_LARGE) c.args.slots.now
    c.in_err-from.field-0.0 (omega (
      arith,
      c.requires,
      size_within c.args.array.now c.offsets.result.now g.O.Offset.most c.offsets.ensures c.last.ensures.within,
    )) c.in_err-from.ensures.err)
