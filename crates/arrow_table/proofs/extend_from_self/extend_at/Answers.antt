use Rattle.std.proofs.Common.{◌<◌, length, map, option_map, slice_set, ap, arith}
use Rattle.arrow_entry.specs.Entry.{value_of}
use Rattle.arrow_entry.proofs.CallerLemmas.{at-transition, got, others-stay, set-twice}
use Rattle.arrow_model.specs.Answer.{outcome}
use Rattle.arrow_model.specs.Step.{ExtendsFrom, other_at}
use Rattle.arrow_model.specs.Value.{types}
use Rattle.arrow_table.proofs.extend_from_self.extend_at.Goals as goal

pub returns : goal.returns
returns g c =
    let entries = c.args.entries.now.items in
    let e = c.args.e in
    let within : e < length entries = omega arith in
    let others = others-stay (option_map value_of) entries e c.args.f c.take-entry.new.self
    (ap (option_map value_of) c.take-entry.ensures.after) in
    at-transition (option_map value_of)
    (λ old. ExtendsFrom (types g.T.NativeType.zero g.T.NativeType.PRIMITIVE g.O.Offset.most g.O.Offset.IS_LARGE) old
    (other_at (map (option_map value_of) entries) e c.args.f))
    entries (slice_set (slice_set entries e c.take-entry.new.self) e c.replace.new.entry) e c.index_mut.result.now
    c.replace.new.entry (outcome c.join-result.result)
    (got entries e c.index_mut.result.now c.index_mut.result.now within c.index_mut.ensures.value)
    (set-twice entries e c.take-entry.new.self c.replace.new.entry)
    (rw (← others, c.entry_at.ensures, ← c.take-entry.ensures.value, c.replace.ensures) c.join-result.ensures)
