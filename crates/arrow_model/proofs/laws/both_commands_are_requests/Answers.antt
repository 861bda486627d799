use Rattle.arrow_model.proofs.RequestLemmas.{both-is, all-both}
use Rattle.arrow_model.proofs.laws.both_commands_are_requests.Goals as goal

pub returns-clause-one : goal.returns-clause-one
returns-clause-one g c = λ command. both-is command

pub returns-clause-all : goal.returns-clause-all
returns-clause-all g c = λ commands. all-both commands
