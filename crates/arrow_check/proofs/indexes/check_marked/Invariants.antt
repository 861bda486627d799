use Rattle.std.proofs.Common.{◌≡◌, not, find, take, None, Some}
use Rattle.arrow_check.specs.Indexes.{in_bounds, valid_keys}
use Rattle.arrow_check.proofs.indexes.check_marked.Given as goal

abbrev pub invariant-loop-index : goal.invariant-loop-index
invariant-loop-index g l = find (λ key. not (in_bounds l.len (g.K.IndexKey.number key)))
    (valid_keys (take l.index l.keys) (Some (take l.index l.marks))) ≡ None
