use Rattle.arrow_check.proofs.WindowLemmas.{text-cut-at}
use Rattle.arrow_check.proofs.laws.text_is_cut.Goals as goal

pub returns-clause-before : goal.returns-clause-before
returns-clause-before c = λ text i whole cut. (text-cut-at text i whole cut).0

pub returns-clause-after : goal.returns-clause-after
returns-clause-after c = λ text i whole cut. (text-cut-at text i whole cut).1
