use Rattle.std.proofs.Common.{true, Some, ap, ◌∙◌}
use Rattle.std.proofs.lemmas.Bool.{not-false, not-true}
use Rattle.arrow_column.proofs.RowLemmas.{null-at, slot-at}
use Rattle.arrow_column.proofs.growing.GrowingColumn.is_null.Goals as goal

pub returns-clause-null : goal.returns-clause-null
returns-clause-null g c = λ null. null-at c.args.self.now.rows c.args.i c.requires (c.is_valid.ensures
    ∙ ap Some (not-true c.is_valid.result null))

pub returns-clause-valid : goal.returns-clause-valid
returns-clause-valid g c = λ valid value stored. slot-at c.args.self.now.rows c.args.i value true stored
    (c.is_valid.ensures ∙ ap Some (not-false c.is_valid.result (not-true _ valid)))
