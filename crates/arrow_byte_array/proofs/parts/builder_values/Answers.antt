use Rattle.std.proofs.Common.{◌≡◌, ap, length, arith}
use Rattle.std.proofs.lemmas.Result.{err_from_is_err_and}
use Rattle.arrow_types.specs.Types.{logical_type, refusal}
use Rattle.arrow_memory.specs.Offsets.{numbers_of}
use Rattle.arrow_byte_array.proofs.ValidationLemmas.{typed-failed}
use Rattle.arrow_byte_array.proofs.parts.builder_values.Goals as goal

pub returns-in_err-check_items-clause-err : goal.returns-in_err-check_items-clause-err
returns-in_err-check_items-clause-err g c =
    let p = err_from_is_err_and c.from_residual-in_err-check_items.result
    c.from_residual-in_err-check_items.ensures.1 in
    let K = g.K.ByteKind in
    let numbers = numbers_of g.O.Offset.number in
    let long : c.len.result ≡ length c.args.values.items =
    omega (arith, c.len.ensures, c.as_slice-3.ensures.len, ap length c.as_slice-3.ensures.value) in
    rw (p.1, p.2) (
    typed-failed K.is_text c.args.offsets c.args.values.items (numbers c.as_slice.result.now)
    (numbers c.as_slice-2.result.now)
    c.as_slice-3.result.now c.len.result (refusal c.in_err-check_items.field-0.0)
    c.as_slice.ensures.numbers long c.as_slice-2.ensures.numbers c.as_slice-3.ensures.value
    c.in_err-check_items.ensures.err (K.layout g.O.Offset.IS_LARGE) K.wrong_builder_type
    (logical_type c.args.data_type.now)
    c.in_ok-check_last.ensures.ok
    )
