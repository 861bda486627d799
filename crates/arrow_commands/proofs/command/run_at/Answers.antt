use Rattle.std.proofs.Common.{◌<◌, length, option_map, slice_set, refl, arith}
use Rattle.arrow_model.specs.Answer.{outcome}
use Rattle.arrow_entry.specs.Entry.{value_of}
use Rattle.arrow_model.specs.Step.{Does}
use Rattle.arrow_model.specs.Value.{types}
use Rattle.arrow_entry.proofs.CallerLemmas.{at-transition, got}
use Rattle.arrow_commands.proofs.command.run_at.Goals as goal

pub returns : goal.returns
returns g c =
    let known = types g.T.NativeType.zero g.T.NativeType.PRIMITIVE g.O.Offset.most g.O.Offset.IS_LARGE in
    let within : c.args.e < length c.args.entries.now.items = omega arith in
    at-transition (option_map value_of) (λ old. Does known old (g.R.ChangesEntry.asks c.args.command))
    c.args.entries.now.items (slice_set c.args.entries.now.items c.args.e c.run.new.entry) c.args.e
    c.index_mut-entry.result.now c.run.new.entry (outcome c.run.result)
    (got c.args.entries.now.items c.args.e c.index_mut-entry.result.now c.index_mut-entry.result.now
    within c.index_mut-entry.ensures.value) refl c.run.ensures
