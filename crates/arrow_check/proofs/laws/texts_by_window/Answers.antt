use Rattle.arrow_check.proofs.WindowLemmas.{cuts-texts, passes-whole}
use Rattle.arrow_check.proofs.laws.texts_by_window.Goals as goal

pub returns-clause-window : goal.returns-clause-window
returns-clause-window c = λ offsets bytes legal cut. (passes-whole offsets bytes legal cut).window

pub returns-clause-inner : goal.returns-clause-inner
returns-clause-inner c = λ offsets bytes legal cut. (passes-whole offsets bytes legal cut).inner

pub returns-clause-texts : goal.returns-clause-texts
returns-clause-texts c = cuts-texts
