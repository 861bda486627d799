use Rattle.std.proofs.Common.{ap₂, ◌∙◌}
use Rattle.arrow_column.specs.Column.{append_slots}
use Rattle.arrow_column.proofs.CallerLemmas.{same-slots}
use Rattle.arrow_primitive.proofs.builder.MutablePrimitiveArray.from.Goals as goal

pub returns-clause-ok : goal.returns-clause-ok
returns-clause-ok g c = c.in_ok-extend_from_slots.ensures.ok.1
    ∙ ap₂ (append_slots g.T.NativeType.zero) (c.builder.view_is
    ∙ c.masked-builder.ensures) (same-slots c.args.slots.now)
