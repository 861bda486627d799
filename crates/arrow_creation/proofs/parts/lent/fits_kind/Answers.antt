use Rattle.std.proofs.Common.{map, option_map}
use Rattle.arrow_types.specs.Types.{logical_type}
use Rattle.arrow_model.specs.Request.{packed_bits}
use Rattle.arrow_model.specs.Value.{types}
use Rattle.arrow_creation.proofs.Passes.{unfit-pieces, unmet-pieces}
use Rattle.arrow_creation.proofs.parts.lent.fits_kind.Goals as goal

pub returns-in_default-kind-clause-fits : goal.returns-in_default-kind-clause-fits
returns-in_default-kind-clause-fits g c =
    let given = c.args.given.now in
    let other = c.in_default-kind in
    rw c.in-Pieces.is (
    unfit-pieces given.kind given.mask other.not-Binary other.not-Utf8 other.not-MutableBinary other.not-MutableUtf8
    other.not-BinaryValues other.not-Utf8Values
    )

pub returns-in_default-kind-clause-not : goal.returns-in_default-kind-clause-not
returns-in_default-kind-clause-not g c =
    let given = c.args.given.now in
    let other = c.in_default-kind in
    λ _. rw c.in-Pieces.is (
    unmet-pieces (types g.T.NativeType.zero g.T.NativeType.PRIMITIVE g.O.Offset.most g.O.Offset.IS_LARGE) given.kind
    (logical_type given.data_type) (option_map packed_bits given.mask)
    (map g.O.Offset.number c.in-Pieces.field-0.items) c.in-Pieces.field-1.items
    other.not-Binary other.not-Utf8 other.not-MutableBinary other.not-MutableUtf8 other.not-BinaryValues
    other.not-Utf8Values
    )
