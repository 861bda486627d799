use Rattle.std.proofs.Common.{◌≡◌, ◌+◌, ◌-◌, ◌/◌, ◌∙◌, ap, arith, length, sym}
use Rattle.arrow_bitmap.specs.Marks.{marks}
use Rattle.arrow_bitmap.proofs.CopyLemmas.{marks-piece}
use Rattle.arrow_bitmap.proofs.MarkLemmas.{length-marks}
use Rattle.arrow_bitmap.proofs.marks.Marks.bytes.Goals as goal

pub returns-clause-marks : goal.returns-clause-marks
returns-clause-marks c =
    let bytes = c.self.inside.bytes.now in
    let start = c.self.inside.start in
    let count = c.self.inside.count in
    let long : length c.args.self.now ≡ count = ap length (sym c.self.view_is) ∙ length-marks bytes start count in
    marks-piece bytes start (start / 8) (start / 8 + c.div_ceil.result - start / 8) 0 (length c.args.self.now)
    (omega (arith, c.if-self-ne0.false)) (omega (arith, long, c.div_ceil.ensures))
    ∙ ap (marks bytes start) long ∙ c.self.view_is
