use Rattle.std.proofs.Common.{◌<◌, length, refl, arith, slice_set}
use Rattle.arrow_model.specs.Answer.{outcome}
use Rattle.arrow_model.specs.Kind.{shape}
use Rattle.arrow_model.specs.Request.{source_of}
use Rattle.arrow_model.specs.Value.{types}
use Rattle.arrow_model.proofs.CallerLemmas.{costs-anywhere, most-anywhere}
use Rattle.arrow_model.specs.Step.{IntoEmpty, Makes}
use Rattle.arrow_entry.specs.Entry.{value_in}
use Rattle.arrow_entry.proofs.CallerLemmas.{at-transition, got}
use Rattle.arrow_creation.proofs.parts.parts_at.Goals as goal

pub returns-clause-step : goal.returns-clause-step
returns-clause-step g c =
    let given = c.args.given in
    let entries = c.args.entries.now.items in
    let entry = c.index_mut-entry.result.now in
    let within : c.args.e < length entries = omega arith in
    let known = types g.T.NativeType.zero g.T.NativeType.PRIMITIVE g.O.Offset.most g.O.Offset.IS_LARGE in
    at-transition value_in (IntoEmpty (Makes known (shape given.kind) (source_of g.O.Offset.number given))) entries
    (slice_set entries c.args.e c.put_parts.new.entry) c.args.e entry c.put_parts.new.entry
    (outcome c.put_parts.result) (got entries c.args.e entry entry within c.index_mut-entry.ensures.value) refl
    c.put_parts.ensures.transition

pub returns-clause-exact : goal.returns-clause-exact
returns-clause-exact g c =
    let given = c.args.given in
    costs-anywhere 0 c.args.e (shape given.kind) (source_of g.O.Offset.number given) (outcome c.put_parts.result)
    c.args.cost.now c.put_parts.new.cost c.put_parts.ensures.exact

pub returns-clause-most : goal.returns-clause-most
returns-clause-most g c =
    let given = c.args.given in
    most-anywhere 0 c.args.e (shape given.kind) (source_of g.O.Offset.number given) c.args.cost.now c.put_parts.new.cost
    c.put_parts.ensures.most
