use Rattle.std.proofs.Common.{◌≡◌, ap, arith, count_by, length, map, not, refl, sym, ◌∙◌}
use Rattle.std.proofs.lemmas.Result.{MatchResult-weaker}
use Rattle.arrow_bitmap.specs.Marks.{marks}
use Rattle.arrow_bitmap.proofs.AppendLemmas.{all-combined, both-counts, map-first}
use Rattle.arrow_bitmap.proofs.ops.not.Goals as goal

pub from_counted-requires-clause-unset : goal.from_counted-requires-clause-unset
from_counted-requires-clause-unset c =
    let xs = c.args.bitmap.now in
    let ys = c.marks-marks.result in
    let new = c.append_combined.new.bytes.items in
    let made : marks new 0 c.len-2.result ≡ map not xs =
    ap (marks new 0) (c.len-2.ensures ∙ ap length (sym c.marks-marks.ensures))
    ∙ all-combined (λ first second. not first) c.in_ok-bytes.bytes.items new ys ys (length ys)
    (ap length c.in_ok-bytes.ensures.items) refl refl c.in_ok-append_combined.ensures.ok
    ∙ map-first not ys ∙ ap (map not) c.marks-marks.ensures in
    omega (arith, c.len-3.ensures, c.unset_bits.ensures, both-counts xs, ap (count_by not) made)

pub returns-clause-ok : goal.returns-clause-ok
returns-clause-ok c =
    let ys = c.marks-marks.result in
    let new = c.append_combined.new.bytes.items in
    MatchResult-weaker c.from_counted.result c.from_counted.ensures.ok (λ marked e. e
    ∙ ap (marks new 0) (c.len-2.ensures ∙ ap length (sym c.marks-marks.ensures))
    ∙ all-combined (λ first second. not first) c.in_ok-bytes.bytes.items new ys ys (length ys)
    (ap length c.in_ok-bytes.ensures.items) refl refl c.in_ok-append_combined.ensures.ok
    ∙ map-first not ys ∙ ap (map not) c.marks-marks.ensures) (λ _ t. t)
