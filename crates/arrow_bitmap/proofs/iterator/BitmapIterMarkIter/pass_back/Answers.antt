use Rattle.std.proofs.Common.{◌≡◌, ◌+◌, ◌-◌, ◌<◌, ◌++◌, ◌∷◌, [], length, ap, sym, ◌∙◌, arith}
use Rattle.arrow_bitmap.specs.Marks.{mark_at, marks}
use Rattle.arrow_bitmap.proofs.MarkLemmas.{length-marks, marks-last}
use Rattle.arrow_bitmap.proofs.iterator.BitmapIterMarkIter.pass_back.Goals as goal

pub returns : goal.returns
returns c =
    let bytes = c.self.inside.bytes.now in
    let index = c.self.inside.index in
    let end = c.self.inside.end in
    let some : index < end = omega (
      arith,
      c.requires,
      length-marks bytes index (end - index),
      ap length c.self.view_is,
    ) in
    let place : index + (end - 1 - index) ≡ end - 1 = omega (arith, some) in
    sym c.self.view_is ∙ marks-last bytes index (end - 1 - index) (end - index) (omega (arith, some))
    ∙ ap (λ v. marks bytes index (end - 1 - index) ++ v ∷ []) (ap (mark_at bytes) place ∙ sym c.mark_of.ensures)
