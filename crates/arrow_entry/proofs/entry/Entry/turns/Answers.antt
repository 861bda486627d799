use Rattle.std.proofs.Common.{true, false, refl}
use Rattle.arrow_bytes.specs.Pieces.{nothing_around}
use Rattle.arrow_model.specs.Item.{bit, bytes_item, value}
use Rattle.arrow_entry.proofs.Seen.{stored-seen}
use Rattle.arrow_entry.proofs.entry.Entry.turns.Goals as goal

pub returns-in-Primitive : goal.returns-in-Primitive
returns-in-Primitive g c =
    rw (
      c.in-Primitive.is,
      stored-seen (λ _. nothing_around) value c.in-Primitive.array,
      ← c.values_iter.ensures,
    )
    (c.all_turns.ensures value (λ item. refl))

pub returns-in-Boolean : goal.returns-in-Boolean
returns-in-Boolean g c =
    rw (
      c.in-Boolean.is,
      stored-seen (λ _. nothing_around) bit c.in-Boolean.array,
      ← c.values_iter-in-Boolean.ensures,
    )
    (c.all_turns-in-Boolean.ensures bit (λ item. refl))

pub returns-in-Binary : goal.returns-in-Binary
returns-in-Binary g c =
    rw (
      c.in-Binary.is,
      stored-seen (λ around. around) (bytes_item false) c.in-Binary.array,
      ← c.values_iter-in-Binary.ensures.all,
    )
    (c.all_turns-in-Binary.ensures (bytes_item false) (λ item. refl))

pub returns-in-Utf8 : goal.returns-in-Utf8
returns-in-Utf8 g c =
    rw (
      c.in-Utf8.is,
      stored-seen (λ around. around) (bytes_item true) c.in-Utf8.array,
      ← c.values_iter-in-Utf8.ensures.all,
    )
    (c.all_turns-in-Utf8.ensures (bytes_item true) (λ item. refl))

pub returns-in-MutablePrimitive : goal.returns-in-MutablePrimitive
returns-in-MutablePrimitive g c =
    rw (
      c.in-MutablePrimitive.is,
      stored-seen (λ _. nothing_around) value c.in-MutablePrimitive.builder,
      ← c.values_iter-in-MutablePrimitive.ensures,
    )
    (c.all_turns-in-MutablePrimitive.ensures value (λ item. refl))

pub returns-in-MutableBoolean : goal.returns-in-MutableBoolean
returns-in-MutableBoolean g c =
    rw (
      c.in-MutableBoolean.is,
      stored-seen (λ _. nothing_around) bit c.in-MutableBoolean.builder,
      ← c.values_iter-in-MutableBoolean.ensures,
    )
    (c.all_turns-in-MutableBoolean.ensures bit (λ item. refl))

pub returns-in-MutableBinary : goal.returns-in-MutableBinary
returns-in-MutableBinary g c =
    rw (
      c.in-MutableBinary.is,
      stored-seen (λ around. around) (bytes_item false) c.in-MutableBinary.builder,
      ← c.values_iter-in-MutableBinary.ensures.all,
    )
    (c.all_turns-in-MutableBinary.ensures (bytes_item false) (λ item. refl))

pub returns-in-MutableUtf8 : goal.returns-in-MutableUtf8
returns-in-MutableUtf8 g c =
    rw (
      c.in-MutableUtf8.is,
      stored-seen (λ around. around) (bytes_item true) c.in-MutableUtf8.builder,
      ← c.values_iter-in-MutableUtf8.ensures.all,
    )
    (c.all_turns-in-MutableUtf8.ensures (bytes_item true) (λ item. refl))

pub returns-in-BinaryValues : goal.returns-in-BinaryValues
returns-in-BinaryValues g c =
    rw (
      c.in-BinaryValues.is,
      stored-seen (λ around. around) (bytes_item false) c.in-BinaryValues.builder,
      ← c.iter.ensures.all,
    )
    (c.all_turns-in-BinaryValues.ensures (bytes_item false) (λ item. refl))

pub returns-in-Utf8Values : goal.returns-in-Utf8Values
returns-in-Utf8Values g c =
    rw (
      c.in-Utf8Values.is,
      stored-seen (λ around. around) (bytes_item true) c.in-Utf8Values.builder,
      ← c.iter-in-Utf8Values.ensures.all,
    )
    (c.all_turns-in-Utf8Values.ensures (bytes_item true) (λ item. refl))
