-- What proofs of callers cite about the model of a table.

-- Costs of commands that test nothing, and of parts in any entry.
pub use Rattle.arrow_model.proofs.Costs.{costs-still, costs-anywhere, most-anywhere, untested, unmet-costs}
-- That a step keeps the entries of a table values, on one table and on two; that each command is a request, of which
-- this is so; and the value in one entry.
pub use Rattle.arrow_model.proofs.StepLemmas.{fine-changes, fine-both, entry-is}
pub use Rattle.arrow_model.proofs.RequestLemmas.{request-is}
