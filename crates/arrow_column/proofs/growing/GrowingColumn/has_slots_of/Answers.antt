use Rattle.std.proofs.lemmas.Bool.Decides.{same_from_decides}
use Rattle.arrow_column.specs.SlotEquality.{same_slots-Decides}
use Rattle.arrow_column.proofs.growing.GrowingColumn.has_slots_of.Goals as goal

pub returns-clause-decides : goal.returns-clause-decides
returns-clause-decides g c = rw (← c.self.view_is) (rw (← c.other.view_is) c.show_same_slots.ensures)

pub returns-clause-value : goal.returns-clause-value
returns-clause-value g c =
    same_from_decides _ _ (returns-clause-decides g c) (same_slots-Decides g.V.EqualValues.test
    g.met.V.EqualValues.test_decides _ _)
