use Rattle.std.proofs.Common.{map, refl, Some}
use Rattle.arrow_entry.specs.Entry.{value_of}
use Rattle.arrow_model.specs.Item.{stored_slot}
use Rattle.arrow_model.specs.Kind.{is_frozen, shape}
use Rattle.arrow_model.specs.Step.{SlotsFill}
use Rattle.arrow_model.specs.Value.{types}
use Rattle.arrow_creation.proofs.FilledLemmas.{finish-built, slots-done, slots-refused}
use Rattle.arrow_creation.proofs.fill.entry_from_slots.Goals as goal

pub returns : goal.returns
returns g c =
    let known = types g.T.NativeType.zero g.T.NativeType.PRIMITIVE g.O.Offset.most g.O.Offset.IS_LARGE in
    let s = shape c.args.kind in
    let slots = map stored_slot c.args.slots.now in
    let v = value_of c.in_ok-made.made in
    let w = value_of c.push_slots-filled.new.entry in
    finish-built known v w slots (SlotsFill known s slots) (is_frozen s) c.push_slots-filled.result c.finish.result
    c.push_slots-filled.ensures.ok c.push_slots-filled.ensures.err
    c.finish.ensures.ok c.finish.ensures.stopped c.finish.ensures.err
    (slots-done known s.value_kind s.group slots v w c.in_ok-made.ensures.ok)
    (λ over. slots-refused known s.value_kind s.group slots v over (Some w) c.in_ok-made.ensures.ok) refl
