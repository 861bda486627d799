use Rattle.arrow_check.proofs.KeyLemmas.{all-in-bounds}
use Rattle.arrow_check.proofs.indexes.check_indexes.Goals as goal

pub returns-then-all_point_at_items-clause-ok : goal.returns-then-all_point_at_items-clause-ok
returns-then-all_point_at_items-clause-ok g c =
    all-in-bounds g.K.IndexKey.number c.args.len c.args.keys.now
    (c.all_point_at_items.ensures c.if-all_point_at_items.true)
