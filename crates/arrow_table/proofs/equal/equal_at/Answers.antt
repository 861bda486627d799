use Rattle.std.proofs.Common.{◌<◌, length, map, option_map, arith}
use Rattle.arrow_entry.specs.Entry.{value_of}
use Rattle.arrow_entry.proofs.CallerLemmas.{got, stays-transition}
use Rattle.arrow_model.specs.Answer.{answer_of}
use Rattle.arrow_model.specs.Step.{ComparesWith, entry_at}
use Rattle.arrow_table.proofs.equal.equal_at.Goals as goal

pub returns : goal.returns
returns g c =
    let entries = c.args.entries.now.items in
    let e = c.args.e in
    let within : e < length entries = omega arith in
    stays-transition (option_map value_of) (λ old. ComparesWith old (entry_at (map (option_map value_of) entries) c.args.f))
    entries e c.index.result.now (answer_of c.compare.result)
    (got entries e c.index.result.now c.index.result.now within c.index.ensures)
    (rw c.entry_at.ensures c.compare.ensures)
