use Rattle.std.proofs.Common.{◌≡◌, not, true, find, take, None}
use Rattle.arrow_check.specs.Indexes.{in_bounds}
use Rattle.arrow_check.proofs.indexes.all_point_at_items.Given as goal

abbrev pub invariant-loop-index : goal.invariant-loop-index
invariant-loop-index g l = l.all ≡ true → find (λ key. not (in_bounds l.len (g.K.IndexKey.number key)))
    (take l.index l.keys) ≡ None
