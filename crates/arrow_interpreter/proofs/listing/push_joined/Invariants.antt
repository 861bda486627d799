use Rattle.std.proofs.Common.{◌≡◌, ◌++◌, map, take, string_bytes}
use Rattle.std.specs.List.{join_with_byte}
use Rattle.arrow_column.specs.Column.{slots_of}
use Rattle.arrow_entry.specs.Entry.{value_of}
use Rattle.arrow_syntax.specs.Text.{slot_text}
use Rattle.arrow_interpreter.proofs.listing.push_joined.Given as goal

abbrev pub invariant-loop-i : goal.invariant-loop-i
invariant-loop-i g l = string_bytes l.text ≡ string_bytes l.fn.text
    ++ join_with_byte 32 (map slot_text (take l.i (slots_of (value_of l.fn.entry).column)))
