use Rattle.std.proofs.Common.{◌≡◌, ◌∙◌, ◌+◌, drop, option_map, Some, refl, ap}
use Rattle.std.proofs.lemmas.List.{drop_more}
use Rattle.arrow_model.specs.Item.{stored_slot}
use Rattle.arrow_entry.proofs.TurnLemmas.{turned}
use Rattle.arrow_entry.proofs.turns.all_turns.Goals as goal
use Rattle.arrow_entry.proofs.turns.all_turns.Goals.{in-Some+in_ok-to_item-in-Some, in-None}

pub loop-i-preserved : goal.loop-i-preserved
loop-i-preserved g c = (
  c.turn_of.ensures.keeps,
  λ stored same.
      let given = option_map g.I.TurnsIterator.seen c.turn_of.result in
      let is : stored_slot c.match-turn_of.slot ≡ option_map stored given = elim c.match-turn_of.branch [
        | in-Some+in_ok-to_item-in-Some w ↦
            rw (w.slot-is, w.in-Some.is) (ap Some (w.in_ok-to_item-in-Some.ensures ∙ same w.in-Some.item))
        | in-None w ↦ rw (w.slot-is, w.in-None.is) refl
      ] in
      rw c.in_ok-push.ensures.items (turned stored c.loop-i.slots.items c.match-turn_of.slot _
      (drop c.loop-i.i c.args.turns.now) (drop (c.loop-i.i + 1) c.args.turns.now)
      (g.I.TurnsIterator.left c.loop-i.items) (g.I.TurnsIterator.left c.turn_of.new.items) given _
      (drop_more c.args.turns.now c.loop-i.i _ c.loop-i-test.true) c.turn_of.ensures.gives is
      (c.loop-i.invariant.1 stored same)),
)
