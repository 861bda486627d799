use Rattle.std.proofs.Common.{ap, ◌∙◌}
use Rattle.std.proofs.lemmas.Result.{err_from_is_err_and}
use Rattle.arrow_types.specs.Types.{refusal}
use Rattle.arrow_memory.specs.Offsets.{numbers_of}
use Rattle.arrow_byte_array.proofs.ValidationLemmas.{values-failed}
use Rattle.arrow_byte_array.proofs.parts.array_values.Goals as goal

pub returns-in_err-check_items-clause-err : goal.returns-in_err-check_items-clause-err
returns-in_err-check_items-clause-err g c =
    let p = err_from_is_err_and c.from_residual-in_err-check_items.result
    c.from_residual-in_err-check_items.ensures.1 in
    let numbers = numbers_of g.O.Offset.number in
    rw (p.1, p.2) (
    values-failed g.K.ByteKind.is_text c.args.offsets c.args.values (numbers c.as_slice.result.now)
    (numbers c.as_slice-2.result.now)
    c.as_slice-3.result.now c.len.result (refusal c.in_err-check_items.field-0.0)
    (ap numbers c.as_slice.ensures ∙ c.buffer.ensures.numbers) c.len.ensures
    (ap numbers c.as_slice-2.ensures ∙ c.buffer-2.ensures.numbers) c.as_slice-3.ensures
    c.in_err-check_items.ensures.err c.in_ok-check_bounds.ensures.ok
    )
