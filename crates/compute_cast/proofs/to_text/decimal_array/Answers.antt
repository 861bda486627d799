use Rattle.std.proofs.Common.{◌∙◌, ap}
use Rattle.arrow_column.specs.Column.{slots_of}
use Rattle.arrow_bytes.specs.Column.{byte_column}
use Rattle.compute_cast.proofs.TextLemmas.{array-made, mask-fits, parts-cut, still-held}
use Rattle.compute_cast.proofs.to_text.decimal_array.Goals as goal

pub new-requires-clause-cut : goal.new-requires-clause-cut
new-requires-clause-cut g c =
    let number = g.A.NumberSlots.number in
    let t = g.K.ByteKind.default_type g.O.Offset.IS_LARGE in
    let array = g.A.Array.column c.args.array.now in
    parts-cut number g.O.Offset.most g.K.ByteKind.is_text t array c.in_ok-ends.ends c.in_ok-values.values
    (still-held number g.O.Offset.most g.K.ByteKind.is_text t (slots_of array) c.in_ok-offsets.offsets
    c.in_ok-offsets.bytes.items c.in_ok-ends.ends c.in_ok-values.values
    c.in_ok-ends.ensures.ok c.in_ok-values.ensures.ok c.in_ok-offsets.ensures.ok)

pub new-requires-clause-mask : goal.new-requires-clause-mask
new-requires-clause-mask g c =
    let number = g.A.NumberSlots.number in
    let t = g.K.ByteKind.default_type g.O.Offset.IS_LARGE in
    let array = g.A.Array.column c.args.array.now in
    mask-fits number g.O.Offset.most g.K.ByteKind.is_text t array c.in_ok-ends.ends c.in_ok-values.values
    (still-held number g.O.Offset.most g.K.ByteKind.is_text t (slots_of array) c.in_ok-offsets.offsets
    c.in_ok-offsets.bytes.items c.in_ok-ends.ends c.in_ok-values.values
    c.in_ok-ends.ensures.ok c.in_ok-values.ensures.ok c.in_ok-offsets.ensures.ok)
    c.in_ok-validity.validity c.in_ok-validity.ensures.ok

pub returns : goal.returns
returns g c =
    let number = g.A.NumberSlots.number in
    let t = g.K.ByteKind.default_type g.O.Offset.IS_LARGE in
    let array = g.A.Array.column c.args.array.now in (
      c.in_ok-offsets.ensures.ok.fit,
      c.new.ensures
          ∙ ap (λ u. byte_column u c.in_ok-ends.ends c.in_ok-values.values c.in_ok-validity.validity)
          (c.default_type.ensures.value ∙ ap g.K.ByteKind.default_type c.IS_LARGE.ensures)
          ∙ array-made number g.O.Offset.most g.K.ByteKind.is_text t array c.in_ok-ends.ends c.in_ok-values.values
          (still-held number g.O.Offset.most g.K.ByteKind.is_text t (slots_of array) c.in_ok-offsets.offsets
          c.in_ok-offsets.bytes.items c.in_ok-ends.ends c.in_ok-values.values
          c.in_ok-ends.ensures.ok c.in_ok-values.ensures.ok c.in_ok-offsets.ensures.ok)
          c.in_ok-validity.validity c.in_ok-validity.ensures.ok,
    )
