use Rattle.std.proofs.Common.{◌+◌, ◌/◌, ap, ◌∙◌, arith}
use Rattle.arrow_bitmap.specs.Marks.{marks}
use Rattle.arrow_bitmap.proofs.MarkLemmas.{mark_of_same, same_marks}
use Rattle.arrow_bitmap.proofs.mutable.MutableBitmap.shrink_to_fit.Goals as goal

pub returns-clause-kept : goal.returns-clause-kept
returns-clause-kept c =
    let length = c.self.inside.length in
    ap (λ bytes. marks bytes 0 length) c.shrink_to_fit.ensures.items
    ∙ same_marks c.truncate.new.self.items c.self.inside.bytes.items 0 0 length (λ i low.
    mark_of_same c.truncate.new.self.items c.self.inside.bytes.items (0 + i)
    (c.truncate.ensures.by_index ((0 + i) / 8) 0 (omega arith)))
    ∙ c.self.view_is
