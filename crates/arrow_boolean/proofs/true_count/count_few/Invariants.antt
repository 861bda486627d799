use Rattle.std.proofs.Common.{◌≡◌, count_by, take}
use Rattle.arrow_column.specs.Combined.{set_in_both}
use Rattle.arrow_boolean.proofs.true_count.count_few.Given as goal

abbrev pub invariant-loop-i : goal.invariant-loop-i
invariant-loop-i l = l.count ≡ count_by (λ mark. mark) (take l.i (set_in_both l.values l.validity))
