use Rattle.std.proofs.Common.{◌≡◌, is_none}
use Rattle.std.specs.List.{list_any}
use Rattle.example_nested.proofs.callers.has_null.Given as goal

-- a slot of the list is null exactly if one that is left is
abbrev pub invariant-loop-slot : goal.invariant-loop-slot
invariant-loop-slot g l = list_any is_none l.list ≡ list_any is_none l.slot-iterator
