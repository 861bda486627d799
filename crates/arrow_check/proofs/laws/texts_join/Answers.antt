use Rattle.arrow_check.proofs.WindowLemmas.{texts-join}
use Rattle.arrow_check.proofs.laws.texts_join.Goals as goal

pub returns : goal.returns
returns c = texts-join
