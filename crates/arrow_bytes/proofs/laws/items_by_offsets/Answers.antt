use Rattle.arrow_check.proofs.CallerLemmas.{item-at, length-items}
use Rattle.arrow_bytes.proofs.PieceLemmas.{items-by-pairs, items-cut}
use Rattle.arrow_bytes.proofs.laws.items_by_offsets.Goals as goal

pub returns-clause-count : goal.returns-clause-count
returns-clause-count g c = λ offsets xs some. length-items offsets xs some

pub returns-clause-all : goal.returns-clause-all
returns-clause-all g c = λ offsets xs. items-by-pairs offsets xs

pub returns-clause-item : goal.returns-clause-item
returns-clause-item g c = λ offsets xs i low. item-at offsets xs i low

pub returns-clause-cut : goal.returns-clause-cut
returns-clause-cut g c = λ offsets xs a n. items-cut a n offsets xs
