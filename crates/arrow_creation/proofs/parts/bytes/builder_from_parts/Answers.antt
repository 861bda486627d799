use Rattle.std.proofs.Common.{false, option_map, map, refl}
use Rattle.arrow_types.specs.Types.{logical_type}
use Rattle.arrow_bytes.specs.Column.{byte_column}
use Rattle.arrow_bytes.specs.Validation.{builder_tests}
use Rattle.arrow_model.specs.Kind.{with_nulls}
use Rattle.arrow_model.specs.Request.{packed_bits}
use Rattle.arrow_model.specs.Value.{types}
use Rattle.arrow_creation.proofs.Passes.{builder-cost, of-kind, pieces-made}
use Rattle.arrow_creation.proofs.parts.bytes.builder_from_parts.Goals as goal

pub returns-clause-transition : goal.returns-clause-transition
returns-clause-transition g c =
    let all = (types g.T.NativeType.zero g.T.NativeType.PRIMITIVE g.O.Offset.most g.O.Offset.IS_LARGE) in
    let text = g.K.ByteKind.is_text in
    let t = logical_type c.args.data_type in
    let made = c.in_ok-offsets in
    let is = c.in_ok-offsets.ensures in
    let tested = c.try_new_counted.ensures in
    let says = of-kind all text false (g.K.ByteKind.layout g.O.Offset.IS_LARGE) g.K.ByteKind.wrong_builder_type
    (λ lies wrong. builder_tests text lies wrong t made.offsets c.args.bytes.items made.mask)
    (byte_column t made.offsets c.args.bytes.items made.mask)
    c.try_new_counted.result c.requires (record { ok = tested.ok; err = tested.err }) in
    pieces-made all with_nulls text t (option_map packed_bits c.args.mask) made.mask
    (map g.O.Offset.number c.args.offsets.items) c.args.bytes.items made.offsets c.args.bytes.items
    is.fit is.mask is.legal is.offsets refl c.try_new_counted.result says refl

pub returns-clause-exact : goal.returns-clause-exact
returns-clause-exact g c =
    let all = (types g.T.NativeType.zero g.T.NativeType.PRIMITIVE g.O.Offset.most g.O.Offset.IS_LARGE) in
    let text = g.K.ByteKind.is_text in
    let t = logical_type c.args.data_type in
    let made = c.in_ok-offsets in
    let is = c.in_ok-offsets.ensures in
    let tested = c.try_new_counted.ensures in
    let says = of-kind all text false (g.K.ByteKind.layout g.O.Offset.IS_LARGE) g.K.ByteKind.wrong_builder_type
    (λ lies wrong. builder_tests text lies wrong t made.offsets c.args.bytes.items made.mask)
    (byte_column t made.offsets c.args.bytes.items made.mask)
    c.try_new_counted.result c.requires (record { ok = tested.ok; err = tested.err }) in
    builder-cost all with_nulls text t (option_map packed_bits c.args.mask) made.mask
    (map g.O.Offset.number c.args.offsets.items) c.args.bytes.items made.offsets c.args.bytes.items
    is.fit is.mask is.legal is.offsets refl c.try_new_counted.result says refl tested.exact
