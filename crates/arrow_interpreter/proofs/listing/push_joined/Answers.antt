use Rattle.std.proofs.Common.{string_bytes}
use Rattle.arrow_column.specs.Column.{slots_of}
use Rattle.arrow_entry.specs.Entry.{value_of}
use Rattle.arrow_syntax.specs.Text.{slot_text}
use Rattle.arrow_interpreter.proofs.Gaps.{text-more}
use Rattle.arrow_interpreter.proofs.listing.push_joined.Goals as goal

pub loop-i-preserved : goal.loop-i-preserved
loop-i-preserved g c =
    text-more slot_text (slots_of (value_of c.args.entry.now).column) c.loop-i.i
    (string_bytes c.args.text.now) (string_bytes c.loop-i.text) (string_bytes c.push_gap.new.text)
    (string_bytes c.push_slot_at.new.text)
    c.loop-i.invariant c.in_ok-push_gap.ensures c.in_ok-push_slot_at.ensures
