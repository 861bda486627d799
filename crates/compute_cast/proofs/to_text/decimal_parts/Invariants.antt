use Rattle.std.proofs.Common.{take}
use Rattle.arrow_column.specs.Column.{slots_of}
use Rattle.compute_cast.specs.Stored.{HoldTexts}
use Rattle.compute_cast.proofs.to_text.decimal_parts.Given as goal

abbrev pub invariant-loop-i : goal.invariant-loop-i
invariant-loop-i g l = HoldTexts g.A.NumberSlots.number g.O.Offset.most g.K.ByteKind.is_text
    (g.K.ByteKind.default_type g.O.Offset.IS_LARGE) (take l.i (slots_of
    (g.A.Array.column l.array))) l.offsets l.bytes.items
