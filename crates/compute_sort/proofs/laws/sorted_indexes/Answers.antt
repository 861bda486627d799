use Rattle.compute_sort.proofs.LawLemmas.{count-indexes, every-index, keep-order}
use Rattle.compute_sort.proofs.laws.sorted_indexes.Goals as goal

pub returns-clause-count : goal.returns-clause-count
returns-clause-count g c = count-indexes

pub returns-clause-permutation : goal.returns-clause-permutation
returns-clause-permutation g c = every-index

pub returns-clause-stable : goal.returns-clause-stable
returns-clause-stable g c = λ options cmp slots limit keys sorted total.
    keep-order options cmp slots total limit keys sorted
