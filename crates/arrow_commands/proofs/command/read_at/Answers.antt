use Rattle.std.proofs.Common.{◌<◌, length, option_map, Some, None, sym, ap, ◌∙◌, refl, arith}
use Rattle.arrow_model.specs.Answer.{outcome}
use Rattle.arrow_entry.specs.Entry.{value_of}
use Rattle.arrow_model.specs.Answer.{not_met}
use Rattle.arrow_model.specs.Step.{Does}
use Rattle.arrow_model.specs.Value.{types}
use Rattle.arrow_entry.proofs.CallerLemmas.{stays-transition, got}
use Rattle.arrow_commands.proofs.command.read_at.Goals as goal

pub returns-in-Some : goal.returns-in-Some
returns-in-Some g c =
    let known = types g.T.NativeType.zero g.T.NativeType.PRIMITIVE g.O.Offset.most g.O.Offset.IS_LARGE in
    let entries = c.args.entries.now.items in
    let within : c.args.e < length entries = omega arith in
    stays-transition (option_map value_of) (λ old. Does known old (g.R.ReadsEntry.asks c.args.command)) entries c.args.e
    (Some c.in-Some.entry) (outcome c.read.result)
    (got entries c.args.e c.index.result.now c.index.result.now within c.index.ensures
    ∙ ap Some c.in-Some.is) c.read.ensures

pub returns : goal.returns
returns g c =
    let known = types g.T.NativeType.zero g.T.NativeType.PRIMITIVE g.O.Offset.most g.O.Offset.IS_LARGE in
    let entries = c.args.entries.now.items in
    let within : c.args.e < length entries = omega arith in
    stays-transition (option_map value_of) (λ old. Does known old (g.R.ReadsEntry.asks c.args.command)) entries c.args.e None
    not_met
    (got entries c.args.e c.index.result.now c.index.result.now within c.index.ensures
    ∙ ap Some c.in-None.is) (refl, refl)
