use Rattle.std.proofs.Common.{ap, map, refl, ◌∙◌}
use Rattle.std.proofs.lemmas.Result.{err_from_is_err_and}
use Rattle.example_record_batch.specs.declared.any.AnyArray.TheVariants.{Binary, Utf8}
use Rattle.example_record_batch.proofs.ConcatLemmas.{bytes-fail}
use Rattle.example_record_batch.proofs.any.AnyArray.concat.Goals as goal

pub returns-in_err-concat_binary-in-Binary-clause-err : goal.returns-in_err-concat_binary-in-Binary-clause-err
returns-in_err-concat_binary-in-Binary-clause-err c =
    let p = err_from_is_err_and c.from_residual-in_err-concat_binary-in-Binary.result
    c.from_residual-in_err-concat_binary-in-Binary.ensures.1 in
    rw (p.1, p.2) (bytes-fail Binary (λ column. refl) c.as_slice-in-Binary.result.now c.args.arrays.now
    c.in_err-concat_binary-in-Binary.field-0.0 (ap (map Binary) c.as_slice-in-Binary.ensures.value
    ∙ c.in_ok-columns-in-Binary.ensures.ok) c.in_err-concat_binary-in-Binary.ensures.err)

pub returns-in_err-concat_utf8-in-Utf8-clause-err : goal.returns-in_err-concat_utf8-in-Utf8-clause-err
returns-in_err-concat_utf8-in-Utf8-clause-err c =
    let p = err_from_is_err_and c.from_residual-in_err-concat_utf8-in-Utf8.result
    c.from_residual-in_err-concat_utf8-in-Utf8.ensures.1 in
    rw (p.1, p.2) (bytes-fail Utf8 (λ column. refl) c.as_slice-in-Utf8.result.now c.args.arrays.now
    c.in_err-concat_utf8-in-Utf8.field-0.0 (ap (map Utf8) c.as_slice-in-Utf8.ensures.value
    ∙ c.in_ok-columns-in-Utf8.ensures.ok) c.in_err-concat_utf8-in-Utf8.ensures.err)
