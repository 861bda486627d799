use Rattle.std.proofs.Common.{◌≡◌, ◌*◌, count_by, take}
use Rattle.arrow_column.specs.Combined.{set_in_both}
use Rattle.arrow_boolean.proofs.true_count.count_both.Given as goal

abbrev pub invariant-loop-at : goal.invariant-loop-at
invariant-loop-at l = l.count ≡ count_by (λ mark. mark) (take (64 * l.at) (set_in_both l.values l.validity))
