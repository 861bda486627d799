use Rattle.std.proofs.Common.{get_or, ◌/◌, ◌%◌, ◌==◌, ◌∙◌, not, bit_and, ap, sym, arith}
use Rattle.std.proofs.lemmas.Nat.{one_shl}
use Rattle.arrow_bitmap.proofs.MarkLemmas.{mark_by_mask}
use Rattle.arrow_bitmap.specs.Marks.{mark_at}
use Rattle.arrow_bitmap.proofs.bits.masked_mark_of.Goals as goal

pub returns : goal.returns
unfolding mark_at
returns c =
    let byte = get_or c.args.bytes.now (c.args.index / 8) 0 in
    ap (λ mask. not (bit_and byte mask == 0)) (c.bit_by_itself.ensures
    ∙ sym (one_shl (c.args.index % 8) 8 (omega arith)))
    ∙ mark_by_mask byte (c.args.index % 8) (omega arith)
