use Rattle.arrow_bitmap.proofs.CopyLemmas.{clear-few}
use Rattle.arrow_bitmap.proofs.bits.count_clear_few.Goals as goal

pub returns : goal.returns
returns c = clear-few c.args.bytes.now c.args.start c.args.count c.byte_at.result c.requires c.byte_at.type_inv
    c.byte_at.ensures
