use Rattle.std.proofs.Common.{◌-◌, Some, length, ap, sym, ◌∙◌}
use Rattle.std.specs.Int.{div_ceil}
use Rattle.std.proofs.lemmas.List.FromFn.{length-map-range_with_len}
use Rattle.arrow_bitmap.specs.MarkText.{byte_text}
use Rattle.arrow_bitmap.proofs.MarkLemmas.{length-marks}
use Rattle.arrow_bitmap.proofs.iterator.text.BitmapIterWriteItems.item_count.Goals as goal

pub returns : goal.returns
returns c =
    let self = c.self.inside in
    let ms = c.args.self.now in
    let long = ap length (sym c.self.view_is) ∙ length-marks self.bytes.now self.index (self.end - self.index) in
    c.div_ceil.ensures ∙ ap (λ n. div_ceil n 8) (sym long)
    ∙ sym (length-map-range_with_len (λ i. Some (byte_text ms i)) 0 (div_ceil (length ms) 8))
