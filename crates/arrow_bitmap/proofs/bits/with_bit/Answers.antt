use Rattle.arrow_bitmap.proofs.MarkLemmas.{put_same, put_other}
use Rattle.arrow_bitmap.proofs.bits.with_bit.Goals as goal

pub returns-clause-same : goal.returns-clause-same
returns-clause-same c = put_same c.args.bit c.requires c.args.byte c.bit_by_itself-mask.result c.kept_where.result
    c.args.value c.bit_by_itself-mask.ensures c.kept_where.ensures

pub returns-clause-others : goal.returns-clause-others
returns-clause-others c = put_other c.args.bit c.requires c.args.byte c.bit_by_itself-mask.result
    c.kept_where.result c.args.value c.bit_by_itself-mask.ensures c.kept_where.ensures
