use Rattle.std.proofs.Common.{◌≡◌, ◌↔◌, ◌-◌, ◌≤◌, IsTrue}
use Rattle.arrow_memory.specs.Offsets.{numbers_of}
use Rattle.arrow_check.specs.Reading.{after_looks}
use Rattle.arrow_check.specs.Windows.{AllBegin}
use Rattle.arrow_check.proofs.text.all_begin_by_eights.Given as goal

-- so far each offset was looked at
abbrev pub invariant-loop-done : goal.invariant-loop-done
invariant-loop-done g l =
    let read = g.J.Judge.reading in
    record {
      low : l.fn.from ≤ l.done;
      high : l.done ≤ l.upto;
      stays : (read l.text).bytes ≡ (read l.initial.text).bytes;
      begin : IsTrue l.begins ↔ AllBegin l.fn.from l.done (numbers_of g.O.Offset.number l.offsets)
          (read l.initial.text).bytes;
      looks : read l.text ≡ after_looks (l.done - l.fn.from) (read l.initial.text);
    }

abbrev pub decreases-loop-done : goal.decreases-loop-done
decreases-loop-done g l = l.upto - l.done
