use Rattle.std.proofs.Common.{refl}
use Rattle.arrow_table.proofs.step.change.Goals as goal

pub returns-in-FromSlots : goal.returns-in-FromSlots
returns-in-FromSlots g c = rw (c.in-FromSlots.is, ← c.deref.ensures.value) c.put_at-in-FromSlots.ensures

pub returns-in-FromItems : goal.returns-in-FromItems
returns-in-FromItems g c = rw (c.in-FromItems.is, ← c.deref-in-FromItems.ensures.value) c.put_at-in-FromItems.ensures

pub returns-in-SetValues : goal.returns-in-SetValues
returns-in-SetValues g c = rw (c.in-SetValues.is, ← c.deref-in-SetValues.ensures.value) c.update_at-in-SetValues.ensures

pub returns-in-Set : goal.returns-in-Set
returns-in-Set g c = rw c.in-Set.is c.update_at-in-Set.ensures

pub returns-in-Push : goal.returns-in-Push
returns-in-Push g c = rw c.in-Push.is c.update_at-in-Push.ensures

pub returns-in-Extend : goal.returns-in-Extend
returns-in-Extend g c = rw (c.in-Extend.is, ← c.deref-in-Extend.ensures.value) c.update_at-in-Extend.ensures

pub returns-in-ExtendValues : goal.returns-in-ExtendValues
returns-in-ExtendValues g c =
    rw (c.in-ExtendValues.is, ← c.deref-in-ExtendValues.ensures.value) c.update_at-in-ExtendValues.ensures

pub returns-in-ExtendConstant : goal.returns-in-ExtendConstant
returns-in-ExtendConstant g c = rw c.in-ExtendConstant.is c.update_at-in-ExtendConstant.ensures

pub returns-in-CheckIndexes : goal.returns-in-CheckIndexes
returns-in-CheckIndexes g c = rw c.in-CheckIndexes.is (c.check_indexes.ensures, refl)
