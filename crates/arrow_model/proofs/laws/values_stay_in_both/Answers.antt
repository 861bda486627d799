use Rattle.arrow_model.proofs.StepLemmas.{fine-both, fine-both-run}
use Rattle.arrow_model.proofs.laws.values_stay_in_both.Goals as goal

pub returns-clause-step : goal.returns-clause-step
returns-clause-step g c = λ zero primitive old new asks reply named all step. fine-both zero primitive old asks
    reply new named all.0 all.1 step

pub returns-clause-run : goal.returns-clause-run
returns-clause-run g c = λ zero primitive old new requests answers named all run. fine-both-run zero primitive old
    requests answers new named all.0 all.1 run
