use Rattle.arrow_model.proofs.StepLemmas.{fine-changes, fine-run}
use Rattle.arrow_model.proofs.laws.values_stay.Goals as goal

pub returns-clause-step : goal.returns-clause-step
returns-clause-step g c = λ known old new asks reply request all step. fine-changes known old.entries asks reply
    new.entries request all step.0

pub returns-clause-run : goal.returns-clause-run
returns-clause-run g c = λ known old new requests answers named all run. fine-run known old requests answers new named
    all run
