use Rattle.std.proofs.Common.{true, false}
use Rattle.std.proofs.lemmas.Result.{err_from_is_err_and}
use Rattle.arrow_creation.proofs.Chosen.{bits-refused, bits-taken, pieces-refused, pieces-taken, values-refused}
use Rattle.arrow_creation.proofs.Chosen.{values-taken}
use Rattle.arrow_creation.proofs.select.taken.Goals as goal

pub returns-in_ok-take_primitive-in-Primitive : goal.returns-in_ok-take_primitive-in-Primitive
returns-in_ok-take_primitive-in-Primitive g c =
    rw c.in-Primitive.is (
    values-taken g.row.T.Denot g.O.Offset.most c.args.keys.now c.in-Primitive.array
    c.in_ok-take_primitive-in-Primitive.field-0
    c.in_ok-take_primitive-in-Primitive.ensures.out_of_bounds c.in_ok-take_primitive-in-Primitive.ensures.ok
    )

pub returns-in_err-take_primitive-in-Primitive : goal.returns-in_err-take_primitive-in-Primitive
returns-in_err-take_primitive-in-Primitive g c =
    let p = err_from_is_err_and c.from_residual.result c.from_residual.ensures.1 in
    rw (p.1, p.2, c.in-Primitive.is) (
    values-refused g.row.T.Denot g.O.Offset.most c.args.keys.now c.in-Primitive.array
    c.in_err-take_primitive-in-Primitive.field-0.0
    c.in_err-take_primitive-in-Primitive.ensures.out_of_bounds c.in_err-take_primitive-in-Primitive.ensures.err
    )

pub returns-in_ok-take_boolean-in-Boolean : goal.returns-in_ok-take_boolean-in-Boolean
returns-in_ok-take_boolean-in-Boolean g c =
    rw c.in-Boolean.is (
    bits-taken g.row.T.Denot g.O.Offset.most c.args.keys.now c.in-Boolean.array c.in_ok-take_boolean-in-Boolean.field-0
    c.in_ok-take_boolean-in-Boolean.ensures.out_of_bounds c.in_ok-take_boolean-in-Boolean.ensures.ok
    )

pub returns-in_err-take_boolean-in-Boolean : goal.returns-in_err-take_boolean-in-Boolean
returns-in_err-take_boolean-in-Boolean g c =
    let p = err_from_is_err_and c.from_residual-in_err-take_boolean-in-Boolean.result
    c.from_residual-in_err-take_boolean-in-Boolean.ensures.1 in
    rw (p.1, p.2, c.in-Boolean.is) (
    bits-refused g.row.T.Denot g.O.Offset.most c.args.keys.now c.in-Boolean.array
    c.in_err-take_boolean-in-Boolean.field-0.0
    c.in_err-take_boolean-in-Boolean.ensures.out_of_bounds c.in_err-take_boolean-in-Boolean.ensures.err
    )

pub returns-in_ok-take_binary-in-Binary : goal.returns-in_ok-take_binary-in-Binary
returns-in_ok-take_binary-in-Binary g c =
    rw c.in-Binary.is (
    pieces-taken g.row.T.Denot g.O.Offset.most c.args.keys.now false c.in-Binary.array
    c.in_ok-take_binary-in-Binary.field-0
    c.in_ok-take_binary-in-Binary.ensures.out_of_bounds c.in_ok-take_binary-in-Binary.ensures.ok
    )

pub returns-in_err-take_binary-in-Binary : goal.returns-in_err-take_binary-in-Binary
returns-in_err-take_binary-in-Binary g c =
    let p = err_from_is_err_and c.from_residual-in_err-take_binary-in-Binary.result
    c.from_residual-in_err-take_binary-in-Binary.ensures.1 in
    rw (p.1, p.2, c.in-Binary.is) (
    pieces-refused g.row.T.Denot g.O.Offset.most c.args.keys.now false c.in-Binary.array
    c.in_err-take_binary-in-Binary.field-0.0
    c.in_err-take_binary-in-Binary.ensures.out_of_bounds c.in_err-take_binary-in-Binary.ensures.err
    )

pub returns-in_ok-take_utf8-in-Utf8 : goal.returns-in_ok-take_utf8-in-Utf8
returns-in_ok-take_utf8-in-Utf8 g c =
    rw c.in-Utf8.is (
    pieces-taken g.row.T.Denot g.O.Offset.most c.args.keys.now true c.in-Utf8.array c.in_ok-take_utf8-in-Utf8.field-0
    c.in_ok-take_utf8-in-Utf8.ensures.out_of_bounds c.in_ok-take_utf8-in-Utf8.ensures.ok
    )

pub returns-in_err-take_utf8-in-Utf8 : goal.returns-in_err-take_utf8-in-Utf8
returns-in_err-take_utf8-in-Utf8 g c =
    let p = err_from_is_err_and c.from_residual-in_err-take_utf8-in-Utf8.result
    c.from_residual-in_err-take_utf8-in-Utf8.ensures.1 in
    rw (p.1, p.2, c.in-Utf8.is) (
    pieces-refused g.row.T.Denot g.O.Offset.most c.args.keys.now true c.in-Utf8.array
    c.in_err-take_utf8-in-Utf8.field-0.0
    c.in_err-take_utf8-in-Utf8.ensures.out_of_bounds c.in_err-take_utf8-in-Utf8.ensures.err
    )
