use Rattle.std.proofs.Common.{◌∙◌, ap, length, map, rules}
use Rattle.arrow_bytes.specs.Pieces.{nothing_around}
use Rattle.arrow_entry.specs.Entry.{value_of}
use Rattle.arrow_model.specs.Item.{bit, stored_item, value}
use Rattle.arrow_entry.proofs.CallerLemmas.{length-seen}
use Rattle.arrow_commands.proofs.ValueLists.{replaced-count}
use Rattle.arrow_commands.proofs.values.replace_values.Goals as goal

pub set_values-requires : goal.set_values-requires
set_values-requires g c =
    replaced-count value c.in_ok-from_vec-in-Primitive.field-0 (map stored_item c.args.items.now)
    (length (value_of c.args.entry.now).column.rows) _ (search rules) c.requires
    ∙ ap (λ entry. length (value_of entry).column.rows) c.in-Primitive.is
    ∙ length-seen (λ _. nothing_around) value c.in-Primitive.array

pub set_values-requires-in-MutablePrimitive : goal.set_values-requires-in-MutablePrimitive
set_values-requires-in-MutablePrimitive g c =
    replaced-count value c.in_ok-natives-in-MutablePrimitive.field-0.items (map stored_item c.args.items.now)
    (length (value_of c.args.entry.now).column.rows) _ (search rules) c.requires
    ∙ ap (λ entry. length (value_of entry).column.rows) c.in-MutablePrimitive.is
    ∙ length-seen (λ _. nothing_around) value c.in-MutablePrimitive.builder

pub set_values-requires-in-Boolean : goal.set_values-requires-in-Boolean
set_values-requires-in-Boolean g c =
    replaced-count bit c.in_ok-freeze-in-Boolean.field-0 (map stored_item c.args.items.now)
    (length (value_of c.args.entry.now).column.rows) _ (search rules) c.requires
    ∙ ap (λ entry. length (value_of entry).column.rows) c.in-Boolean.is
    ∙ length-seen (λ _. nothing_around) bit c.in-Boolean.array
