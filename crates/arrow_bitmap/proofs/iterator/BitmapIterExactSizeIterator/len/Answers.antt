use Rattle.std.proofs.Common.{◌-◌, length, ap, sym, ◌∙◌}
use Rattle.arrow_bitmap.proofs.MarkLemmas.{length-marks}
use Rattle.arrow_bitmap.proofs.iterator.BitmapIterExactSizeIterator.len.Goals as goal

pub returns-clause-value : goal.returns-clause-value
returns-clause-value c =
    let iterator = c.self.inside in
    sym (length-marks iterator.bytes.now iterator.index (iterator.end - iterator.index)) ∙ ap length c.self.view_is
