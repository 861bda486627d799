use Rattle.std.proofs.Common.{◌<◌, length, option_map, rules, arith}
use Rattle.std.proofs.lemmas.Result.{err_from_is_err_and}
use Rattle.arrow_types.specs.Types.{refusal}
use Rattle.arrow_entry.specs.Entry.{state_of, value_of}
use Rattle.arrow_model.specs.Answer.{answer_of, refused}
use Rattle.arrow_entry.proofs.CallerLemmas.{got}
use Rattle.arrow_creation.proofs.Steps.{empty-filled, empty-stays, filled-unmet, made-done, made-unmet}
use Rattle.arrow_creation.proofs.make.put_at.Goals as goal
use Rattle.arrow_creation.proofs.make.put_at.Goals.{else-is_some-2, then-is_some-2}

pub returns-then-is_some : goal.returns-then-is_some
returns-then-is_some g c =
    let entries = c.args.entries.now.items in
    let within : c.args.e < length entries = omega arith in
    filled-unmet (g.R.MakesEntry.makes c.args.command (state_of entries)) entries c.args.e c.index.result.now
    (got entries c.args.e c.index.result.now c.index.result.now within c.index.ensures) (search rules)

pub returns-in_err-made : goal.returns-in_err-made
returns-in_err-made g c =
    let entries = c.args.entries.now.items in
    let within : c.args.e < length entries = omega arith in
    let p = err_from_is_err_and c.from_residual.result c.from_residual.ensures.1 in
    rw (p.1, p.2) (
    empty-stays (g.R.MakesEntry.makes c.args.command (state_of entries)) entries c.args.e c.index.result.now
    (got entries c.args.e c.index.result.now c.index.result.now within c.index.ensures)
    (refused (refusal c.in_err-made.field-0.0)) (search rules) c.in_err-made.ensures
    )

pub returns : goal.returns
returns g c =
    let entries = c.args.entries.now.items in
    let within : c.args.e < length entries = omega arith in
    let transition = g.R.MakesEntry.makes c.args.command (state_of entries) in
    let made = c.in_ok-made.made in
    let answer = answer_of c.if-is_some-2.reply in
    let puts : transition answer (option_map value_of made) = elim c.if-is_some-2.branch [
      | then-is_some-2 w ↦ rw w.reply-is (made-done transition made (search rules) c.in_ok-made.ensures)
      | else-is_some-2 w ↦ rw w.reply-is (made-unmet transition made (search rules) c.in_ok-made.ensures)
    ] in
    rw c.replace.ensures (
    empty-filled transition entries c.args.e c.index.result.now
    (got entries c.args.e c.index.result.now c.index.result.now within c.index.ensures)
    made answer (search rules) puts
    )
