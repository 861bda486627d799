use Rattle.std.proofs.Common.{◌≡◌, ◌∙◌, Bool, List, [], ap, ap₂, length, map, refl, sym}
use Rattle.std.specs.List.{zip}
use Rattle.std.proofs.lemmas.Result.{MatchResult-weaker}
use Rattle.arrow_bitmap.specs.Marks.{marks}
use Rattle.arrow_bitmap.proofs.AppendLemmas.{all-combined}
use Rattle.arrow_bitmap.proofs.ops.combine.Goals as goal

pub returns-clause-ok : goal.returns-clause-ok
returns-clause-ok g c =
    let op = g.O.MarkOp.op in
    let xs = c.marks.result in
    let ys = c.marks-2.result in
    let new = c.in_ok-bytes.bytes.items in
    let same : length ys ≡ length xs =
    ap length c.marks-2.ensures ∙ sym c.requires ∙ ap length (sym c.marks.ensures) in
    MatchResult-weaker c.from_counted.result c.from_counted.ensures.ok (λ bitmap e. e
    ∙ ap (marks new 0) (c.len.ensures ∙ ap length (sym c.marks.ensures))
    ∙ all-combined op [] new xs ys (length xs) refl refl same c.in_ok-bytes.ensures.ok
    ∙ ap₂ (λ (first second : List Bool). map (λ (pair : Bool × Bool). op pair.0 pair.1) (zip first second)) c.marks.ensures
    c.marks-2.ensures) (λ _ t. t)
