use Rattle.std.proofs.Common.{option_map}
use Rattle.arrow_types.specs.Types.{logical_type}
use Rattle.arrow_model.specs.Kind.{frozen}
use Rattle.arrow_model.specs.Request.{packed_bits}
use Rattle.arrow_model.specs.Value.{types}
use Rattle.arrow_creation.proofs.Passes.{values-made}
use Rattle.arrow_creation.proofs.parts.native.array_from_parts.Goals as goal

pub returns : goal.returns
returns g c =
    let tested = c.try_new.ensures in
    values-made (types g.T.NativeType.zero g.T.NativeType.PRIMITIVE g.O.Offset.most g.O.Offset.IS_LARGE)
    frozen (logical_type c.args.data_type) (option_map packed_bits c.args.mask)
    c.in_ok-mask.mask c.in_ok-mask.ensures.fit c.in_ok-mask.ensures.mask
    c.args.values.items c.in_ok-values.values c.try_new.result c.in_ok-values.ensures.ok
    (record { ok = tested.ok; err = tested.err })
