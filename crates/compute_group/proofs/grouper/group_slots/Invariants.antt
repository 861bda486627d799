use Rattle.std.proofs.Common.{◌≡◌, length}
use Rattle.std.specs.Prelude.{vec_capacity}
use Rattle.compute_group.specs.Grouping.{ArePlaces}
use Rattle.compute_group.proofs.GroupLemmas.{HintsAre, IsGroupedSoFar}
use Rattle.compute_group.proofs.grouper.group_slots.Given as goal

abbrev pub invariant-loop-i : goal.invariant-loop-i
invariant-loop-i g l = record {
  groups : IsGroupedSoFar g.S.Keys.seen (g.S.Keys.slots l.source) l.i l.keys.keys l.null l.first.items l.indices.items;
  hints : HintsAre g.S.Keys.seen l.keys.keys l.null l.hints.items;
  places : ArePlaces l.count (length l.hints.items);
  count : length l.indices.items ≡ l.i;
  room : vec_capacity l.indices ≡ l.count;
}
