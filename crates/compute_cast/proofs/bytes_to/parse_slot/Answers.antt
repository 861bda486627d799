use Rattle.std.proofs.Common.{◌∙◌}
use Rattle.compute_cast.specs.Decimals.{value_of_text}
use Rattle.compute_cast.proofs.SlotLemmas.{null-made, value-made}
use Rattle.compute_cast.proofs.bytes_to.parse_slot.Goals as goal

pub returns-then-is_null : goal.returns-then-is_null
returns-then-is_null g c slot found =
    null-made c.args.array.now c.args.i c.is_null.result
    (value_of_text g.T.NativeArithmetics.fits g.T.NativeArithmetics.wrap) slot c.is_null.ensures found c.requires
    c.if-is_null.true

pub returns : goal.returns
returns g c slot found =
    c.parse_value.ensures
    ∙ value-made c.args.array.now c.args.i c.is_null.result
    (value_of_text g.T.NativeArithmetics.fits g.T.NativeArithmetics.wrap) slot c.is_null.ensures found
    c.item.result.now c.item.ensures.value c.if-is_null.false
