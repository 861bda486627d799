use Rattle.std.proofs.Common.{◌==◌, ap, ◌∙◌}
use Rattle.std.specs.Int.{bit_at}
use Rattle.arrow_bitmap.proofs.ByteWords.{word-mark}
use Rattle.arrow_bitmap.proofs.words.whole_word.Goals as goal

pub returns : goal.returns
returns c k low = ap (λ n. bit_at n k == 1) c.from_le_bytes.ensures ∙ word-mark c.args.bytes.now c.args.first (λ i.
    (c.type_inv.bytes i).fits) k low
