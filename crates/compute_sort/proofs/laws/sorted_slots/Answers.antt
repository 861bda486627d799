use Rattle.compute_sort.proofs.LawLemmas.{ascend, count-slots, every-slot, nulls-first, nulls-last}
use Rattle.compute_sort.proofs.laws.sorted_slots.Goals as goal

pub returns-clause-count : goal.returns-clause-count
returns-clause-count g c = count-slots

pub returns-clause-permutation : goal.returns-clause-permutation
returns-clause-permutation g c = every-slot

pub returns-clause-ascend : goal.returns-clause-ascend
returns-clause-ascend g c = λ options cmp slots limit shown sorted total.
    ascend options cmp slots total limit shown sorted

pub returns-clause-nulls_first : goal.returns-clause-nulls_first
returns-clause-nulls_first g c = λ options cmp slots limit shown sorted total.
    nulls-first options cmp shown (ascend options cmp slots total limit shown sorted)

pub returns-clause-nulls_last : goal.returns-clause-nulls_last
returns-clause-nulls_last g c = λ options cmp slots limit shown sorted total.
    nulls-last options cmp shown (ascend options cmp slots total limit shown sorted)
