use Rattle.std.proofs.Common.{◌<◌, ◌∙◌, length, option_map, slice_set, Some, refl, ap, arith}
use Rattle.arrow_entry.specs.Entry.{value_of}
use Rattle.arrow_model.specs.Answer.{not_met, outcome}
use Rattle.arrow_model.specs.Step.{Does}
use Rattle.arrow_model.specs.Value.{types}
use Rattle.arrow_entry.proofs.CallerLemmas.{at-transition, got}
use Rattle.arrow_commands.proofs.command.update_at.Goals as goal

pub returns-in-Some : goal.returns-in-Some
returns-in-Some g c =
    let known = types g.T.NativeType.zero g.T.NativeType.PRIMITIVE g.O.Offset.most g.O.Offset.IS_LARGE in
    let entries = c.args.entries.now.items in
    let within : c.args.e < length entries = omega arith in
    at-transition (option_map value_of) (λ old. Does known old (g.R.UpdatesEntry.asks c.args.command)) entries
    (slice_set entries c.args.e (Some c.update.new.entry)) c.args.e (Some c.in-Some.entry) (Some c.update.new.entry)
    (outcome c.update.result)
    (got entries c.args.e c.index_mut.result.now c.index_mut.result.now within c.index_mut.ensures.value
    ∙ ap Some c.in-Some.is) refl c.update.ensures

pub returns : goal.returns
returns g c =
    let known = types g.T.NativeType.zero g.T.NativeType.PRIMITIVE g.O.Offset.most g.O.Offset.IS_LARGE in
    let entries = c.args.entries.now.items in
    let entry = c.index_mut.result.now in
    let within : c.args.e < length entries = omega arith in
    at-transition (option_map value_of) (λ old. Does known old (g.R.UpdatesEntry.asks c.args.command)) entries
    (slice_set entries c.args.e entry) c.args.e entry entry not_met
    (got entries c.args.e entry entry within c.index_mut.ensures.value) refl (rw c.in-None.is (refl, refl))
