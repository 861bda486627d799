-- Two tests that decide one equation answer the same.
use Rattle.std.proofs.lemmas.Bool.Decides.{same_from_decides}
use Rattle.arrow_types.specs.TypeEquality.{same_type-Decides}
use Rattle.arrow_types.proofs.data_type.equality.DataTypePartialEq.eq.Goals as goal

pub returns-clause-value : goal.returns-clause-value
returns-clause-value c = same_from_decides _ _ c.same.ensures (same_type-Decides _ _)
