use Rattle.std.proofs.Common.{◌∙◌, ap, arith}
use Rattle.arrow_bitmap.specs.Marks.{marks}
use Rattle.arrow_bitmap.proofs.EqualityLemmas.{bytes-same}
use Rattle.arrow_bitmap.proofs.equality.have_same_bytes.Goals as goal

pub returns-then-same_slices : goal.returns-then-same_slices
returns-then-same_slices c = λ e.
    let count = c.len-count.result in
    let left = c.in-Some-Some.left.now in
    let right = c.in-Some-Some.right.now in
    bytes-same left right count (c.same_slices.ensures c.if-same_slices.true) c.args.first.now c.args.second.now
    (ap (marks left 0) c.len-count.ensures ∙ c.in-Some-Some.ensures.marks)
    (ap (marks right 0) (c.len-count.ensures ∙ c.requires) ∙ c.in-Some-Some.ensures'.marks)
    (omega (arith, c.if-count-lt64.false)) (λ k low. c.agree_in_word.ensures.0 e k low tt)
