use Rattle.std.proofs.Common.{◌≡◌, ◌++◌, map, take}
use Rattle.compute_sort.proofs.indexed_values.push_indexes.Given as goal

abbrev pub invariant-loop-index : goal.invariant-loop-index
invariant-loop-index g l =
    l.indexes.items ≡ l.fn.indexes.items ++ map (λ pair. pair.1) (take l.index-index l.values)
