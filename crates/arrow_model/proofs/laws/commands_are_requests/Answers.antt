use Rattle.arrow_model.proofs.RequestLemmas.{request-is, all-requests}
use Rattle.arrow_model.proofs.laws.commands_are_requests.Goals as goal

pub returns-clause-one : goal.returns-clause-one
returns-clause-one g c = λ number command. request-is number command

pub returns-clause-all : goal.returns-clause-all
returns-clause-all g c = λ number commands. all-requests number commands
