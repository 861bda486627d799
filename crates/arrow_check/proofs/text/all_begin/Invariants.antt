use Rattle.std.proofs.Common.{◌≡◌, ◌↔◌, ◌+◌, IsTrue}
use Rattle.arrow_memory.specs.Offsets.{numbers_of}
use Rattle.arrow_check.specs.Reading.{after_looks}
use Rattle.arrow_check.specs.Windows.{AllBegin}
use Rattle.arrow_check.proofs.text.all_begin.Given as goal

-- so far each offset was looked at
abbrev pub invariant-loop-k : goal.invariant-loop-k
invariant-loop-k g l =
    let read = g.J.Judge.reading in
    record {
      stays : (read l.text).bytes ≡ (read l.initial.text).bytes;
      begin : IsTrue l.begins ↔ AllBegin l.fn.from (l.fn.from + l.k) (numbers_of g.O.Offset.number l.offsets)
          (read l.initial.text).bytes;
      looks : read l.text ≡ after_looks l.k (read l.initial.text);
    }
