use Rattle.std.proofs.Common.{◌+◌, ◌-◌, ◌≡◌, ◌∙◌, ap, arith}
use Rattle.arrow_memory.specs.Offsets.{numbers_of}
use Rattle.arrow_check.specs.Reading.{after_looks}
use Rattle.arrow_check.proofs.CountLemmas.{looks-then}
use Rattle.arrow_check.proofs.WindowLemmas.{begin-join}
use Rattle.arrow_check.proofs.text.all_begin_by_eights.Goals as goal

pub loop-done-preserved : goal.loop-done-preserved
loop-done-preserved g c =
    let numbers = numbers_of g.O.Offset.number c.args.offsets.now in
    let old = g.J.Judge.reading c.args.text.now in
    let so_far = c.loop-done.invariant in
    let eight = c.all_begin-begins.ensures in
    let more : (c.loop-done.done + 8 - c.loop-done.done) + (c.loop-done.done - c.args.from)
    ≡ c.loop-done.done + 8 - c.args.from = omega (arith, so_far.low) in
    record {
      low = omega (arith, so_far.low);
      high = omega (arith, so_far.high, c.loop-done-test.true);
      stays = ap (λ r. r.bytes) eight.counted ∙ so_far.stays;
      begin = begin-join numbers old.bytes (g.J.Judge.reading c.loop-done.text).bytes c.args.from c.loop-done.done
          (c.loop-done.done + 8) c.loop-done.begins c.all_begin-begins.result
          so_far.stays so_far.low (omega arith) so_far.begin eight.answer;
      looks = eight.counted ∙ ap (after_looks (c.loop-done.done + 8 - c.loop-done.done)) so_far.looks
          ∙ looks-then _ _ _ old more;
    }

pub returns-clause-counted : goal.returns-clause-counted
returns-clause-counted g c =
    let old = g.J.Judge.reading c.args.text.now in
    let so_far = c.loop-done.invariant in
    let all : (c.args.upto - c.loop-done.done) + (c.loop-done.done - c.args.from) ≡ c.args.upto - c.args.from =
    omega (arith, so_far.low, so_far.high) in
    c.all_begin.ensures.counted ∙ ap (after_looks (c.args.upto - c.loop-done.done)) so_far.looks
    ∙ looks-then _ _ _ old all
