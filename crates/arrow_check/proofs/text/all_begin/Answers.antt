use Rattle.std.proofs.Common.{◌+◌, ◌≡◌, ◌↔◌, ◌∙◌, IsTrue, ◌&&◌, not, suc, ap, subst, arith}
use Rattle.arrow_memory.specs.Offsets.{numbers_of}
use Rattle.arrow_check.specs.Reading.{after_look, after_looks}
use Rattle.arrow_check.specs.Windows.{AllBegin}
use Rattle.arrow_check.proofs.WindowLemmas.{begin-more}
use Rattle.arrow_check.proofs.text.all_begin.Goals as goal

pub loop-k-preserved : goal.loop-k-preserved
loop-k-preserved g c =
    let numbers = numbers_of g.O.Offset.number c.args.offsets.now in
    let old = g.J.Judge.reading c.args.text.now in
    let so_far = c.loop-k.invariant in
    let one : suc c.loop-k.k ≡ c.loop-k.k + 1 = omega arith in
    let next : c.args.from + c.loop-k.k + 1 ≡ c.args.from + (c.loop-k.k + 1) = omega arith in
    record {
      stays = ap (λ r. r.bytes) c.look.ensures.counted ∙ so_far.stays;
      begin = subst (λ upto. IsTrue (c.loop-k.begins && not c.goes_on.result)
          ↔ AllBegin c.args.from upto numbers old.bytes) next
          (begin-more numbers old.bytes (g.J.Judge.reading c.loop-k.text).bytes c.args.from
          (c.args.from + c.loop-k.k) c.number_at.result c.look.result c.loop-k.begins c.goes_on.result
          so_far.stays (omega arith) c.number_at.ensures c.look.ensures.byte c.goes_on.ensures so_far.begin);
      looks = c.look.ensures.counted ∙ ap after_look so_far.looks ∙ ap (λ n. after_looks n old) one;
    }
