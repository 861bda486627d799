use Rattle.std.proofs.Common.{◌≡◌, ◌∙◌, None, Some, ap, arith, map, slice_get, subst, sym}
use Rattle.arrow_memory.specs.Rows.{slot}
use Rattle.compute_group.proofs.GroupLemmas.{HintsAre, added_key, added_null, all_groups, are-groups, hints_more, hints_null, known_slot, with_null}
use Rattle.compute_group.proofs.grouper.group_slots.Goals as goal
use Rattle.compute_group.proofs.grouper.group_slots.Goals.{in-Some, in-None+then-is_valid+in_ok-number-in-None, in-None+else-is_valid+in_ok-number-in-None-2}

pub loop-i-preserved : goal.loop-i-preserved
loop-i-preserved g c =
    let seen = g.S.Keys.seen in
    let eq = g.S.Key.PartialEq.eq in
    let same = g.met.S.Keys.decides in
    let slots = g.S.Keys.slots c.args.source.now in
    let i = c.loop-i.i in
    let key = c.row-key.result.0 in
    let keys = c.loop-i.keys.keys in
    let null = c.loop-i.null in
    let first = c.loop-i.first.items in
    let numbers = c.loop-i.indices.items in
    let so_far = c.loop-i.invariant in
    elim c.match-known_number.branch [
      | in-Some w ↦
          let groups = known_slot eq seen same slots i key c.row-key.result.1 c.row-key.ensures keys null first numbers
          c.deref.result.now c.hinted_number-hinted.result.0 c.hinted_number-hinted.result.1 w.in-Some.number so_far.groups
          (subst (HintsAre seen keys null) (sym c.deref.ensures.value) so_far.hints) c.hinted_number-hinted.ensures
          w.in-Some.ensures in
          rw (w.keys-is, w.null-is, w.first-is, w.hints-is, c.push_reserved.ensures.items, w.number-is) (record {
            groups = groups;
            hints = so_far.hints;
            places = so_far.places;
            count = groups.groups.count;
            room = c.push_reserved.ensures.capacity ∙ c.loop-i.invariant.room;
          })
      | in-None+then-is_valid+in_ok-number-in-None w ↦
          let made = w.in_ok-number-in-None.ensures in
          let is : slice_get slots i ≡ Some (Some (seen key)) =
          c.row-key.ensures ∙ ap (λ b. Some (slot (seen key, b))) w.if-is_valid.true in
          let groups = added_key eq seen same slots i key is keys _ null first _ numbers _ so_far.groups made.keys made.first
          made.number in
          rw (w.keys-is, w.null-is, w.first-is, w.hints-is, c.push_reserved.ensures.items, w.number-is) (record {
            groups = groups;
            hints = hints_more eq seen same key keys _ null _ c.loop-i.hints.items _ so_far.groups.within so_far.hints
                made.keys made.number made.hints;
            places = made.places;
            count = groups.groups.count;
            room = c.push_reserved.ensures.capacity ∙ c.loop-i.invariant.room;
          })
      | in-None+else-is_valid+in_ok-number-in-None-2 w ↦
          let made = w.in_ok-number-in-None-2.ensures in
          let is : slice_get slots i ≡ Some None =
          c.row-key.ensures ∙ ap (λ b. Some (slot (seen key, b))) w.if-is_valid.false in
          let groups = added_null eq seen same slots i is keys null first _ numbers _ so_far.groups made.first made.number in
          rw (w.keys-is, w.null-is, w.first-is, w.hints-is, c.push_reserved.ensures.items, w.number-is) (record {
            groups = groups;
            hints = hints_null eq seen same slots i keys null first numbers c.loop-i.hints.items _ so_far.groups so_far.hints
                made.number;
            places = so_far.places;
            count = groups.groups.count;
            room = c.push_reserved.ensures.capacity ∙ c.loop-i.invariant.room;
          })
    ]

pub from_lists-requires : goal.from_lists-requires
from_lists-requires g c =
    let slots = g.S.Keys.slots c.args.source.now in
    are-groups slots c.loop-i.first.items c.loop-i.indices.items
    (all_groups slots c.loop-i.i (with_null c.loop-i.null (map g.S.Keys.seen c.loop-i.keys.keys)) c.loop-i.first.items
    c.loop-i.indices.items (omega arith) c.loop-i.invariant.groups.groups)

pub returns : goal.returns
returns g c = rw (c.from_lists.ensures.first, c.from_lists.ensures.indices)
    (all_groups (g.S.Keys.slots c.args.source.now) c.loop-i.i
    (with_null c.loop-i.null (map g.S.Keys.seen c.loop-i.keys.keys)) c.loop-i.first.items c.loop-i.indices.items (omega arith)
    c.loop-i.invariant.groups.groups)
