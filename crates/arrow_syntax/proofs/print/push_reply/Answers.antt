use Rattle.std.proofs.Common.{string_bytes}
use Rattle.arrow_types.proofs.CallerLemmas.{map-map}
use Rattle.arrow_model.specs.Item.{stored_slot}
use Rattle.arrow_syntax.specs.Text.{slot_text}
use Rattle.arrow_syntax.proofs.print.push_reply.Goals as goal

pub returns-in-Slots : goal.returns-in-Slots
returns-in-Slots c =
    let old = string_bytes c.args.text.now in
    rw (c.in-Slots.is, map-map slot_text stored_slot c.in-Slots.slots.items, ← c.deref.ensures.value)
    c.push_list.ensures
