use Rattle.std.proofs.lemmas.Result.{err_from_is_err_and}
use Rattle.arrow_types.specs.Types.{logical_type, refusal}
use Rattle.arrow_byte_array.proofs.ValidationLemmas.{array-first}
use Rattle.arrow_byte_array.proofs.array.ByteArray.try_new_counted.Goals as goal

pub returns-in_err-values-clause-err : goal.returns-in_err-values-clause-err
returns-in_err-values-clause-err g c =
    let p = err_from_is_err_and c.from_residual.result c.from_residual.ensures.1 in
    let K = g.K.ByteKind in
    rw (p.1, p.2) (
    array-first K.is_text (K.layout g.O.Offset.IS_LARGE) K.wrong_type (logical_type c.args.data_type) c.args.offsets
    c.args.values c.args.validity (refusal c.in_err-values.field-0.0) c.in_err-values.ensures.err
    )
