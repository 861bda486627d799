use Rattle.std.proofs.Common.{◌+◌, ◌-◌, ◌++◌, ◌∷◌, [], ap, sym, ◌∙◌, arith}
use Rattle.arrow_bitmap.specs.Marks.{marks}
use Rattle.arrow_bitmap.proofs.MarkLemmas.{marks-last, mark_at-read}
use Rattle.arrow_bitmap.proofs.mutable.MutableBitmap.pop.Goals as goal

pub returns : goal.returns
returns c =
    let bytes = c.self.inside.bytes.items in
    let n = c.self.inside.length in
    let read = mark_at-read c.deref.result.now bytes (n - 1) (0 + (n - 1)) c.deref.ensures.value (omega arith) in
    sym c.self.view_is ∙ marks-last bytes 0 (n - 1) n (omega arith)
    ∙ ap (λ v. marks bytes 0 (n - 1) ++ v ∷ []) (sym (c.masked_mark_of.ensures ∙ read))
