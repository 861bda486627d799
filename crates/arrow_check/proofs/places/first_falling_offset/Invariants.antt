use Rattle.std.proofs.Common.{◌≡◌, ◌≤◌, ◌∷◌, map, pos, slice_get, Some}
use Rattle.std.specs.List.{position_or_len}
use Rattle.arrow_check.specs.Places.{falls, steps_of}
use Rattle.arrow_check.proofs.places.first_falling_offset.Given as goal

-- no offset so far falls, and this is the one before the next
abbrev pub invariant-loop-i : goal.invariant-loop-i
invariant-loop-i g l = let numbers = map g.O.Offset.number l.offsets in
    (l.i ≤ position_or_len falls (steps_of numbers)) × (slice_get (pos 0 ∷ numbers) l.i ≡ Some (pos l.before))
