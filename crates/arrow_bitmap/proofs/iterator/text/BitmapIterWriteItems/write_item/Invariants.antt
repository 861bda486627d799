use Rattle.std.proofs.Common.{codes, ◌++◌}
use Rattle.std.specs.Fmt.{HasWritten, IsPlainFormatter}
use Rattle.arrow_bitmap.specs.MarkText.{byte_digits}
use Rattle.arrow_bitmap.proofs.iterator.text.BitmapIterWriteItems.write_item.Given as goal

-- the digits so far are written
abbrev pub invariant-loop-k : goal.invariant-loop-k
invariant-loop-k g l =
    IsPlainFormatter l.fn.f → HasWritten g.W.Write.write_str_gives l.fn.f (codes "0b" ++ byte_digits l.self l.i l.k) l.f
