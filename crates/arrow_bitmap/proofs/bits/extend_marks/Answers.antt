use Rattle.std.proofs.Common.{◌+◌, ◌*◌, refl, inl, inr, ◌∙◌, arith}
use Rattle.std.specs.Int.{div_ceil}
use Rattle.std.proofs.lemmas.Bool.{cases_lt}
use Rattle.arrow_bitmap.proofs.MarkLemmas.{marks-fill_on, same_marks}
use Rattle.arrow_bitmap.proofs.bits.extend_marks.Goals as goal

pub returns-clause-ok : goal.returns-clause-ok
returns-clause-ok c =
    let n = c.args.length in
    let fills = c.fill_byte.ensures.marks in
    let kept = same_marks c.fill_byte.new.bytes.items c.grow_bytes.new.bytes.items 0 0 n (λ i low.
    fills.below (0 + i) (omega arith)) ∙ c.grow_bytes.ensures.kept in
    marks-fill_on c.args.bytes.now.items c.fill_byte.new.bytes.items c.fill_byte.new.bytes.items n c.args.end
    c.args.value c.requires.order kept (record {
      inside = λ i low high. elim (cases_lt i (8 * div_ceil n 8)) [
        | inl here ↦ fills.inside i low here
        | inr past ↦ fills.above i past ∙ c.in_ok-grow_bytes.ensures.filled i past (omega arith)
      ];
      below = λ i low. refl;
      above = λ i high. refl;
    })
