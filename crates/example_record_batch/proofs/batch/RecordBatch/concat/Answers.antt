use Rattle.std.proofs.Common.{inl, sym}
use Rattle.std.proofs.lemmas.Option.{slice_get_within}
use Rattle.std.proofs.lemmas.Result.{err_from_is_err_and}
use Rattle.example_record_batch.specs.Schemas.{fields_schema}
use Rattle.example_record_batch.proofs.ConcatLemmas.{columns-fail, concat-batch, concat-have-rows, passes}
use Rattle.example_record_batch.proofs.batch.RecordBatch.concat.Goals as goal

pub invariant_of-result : goal.invariant_of-result
invariant_of-result c =
    let schemas = c.have_schema.ensures.same.0 c.if-not-have_schema.false in
    concat-have-rows c.args.batches.now c.fields-columns.result.now c.in_ok-fields.fields.items c.in_ok-len.len schemas
    c.in_ok-fields.ensures.ok c.in_ok-len.ensures.ok c.in_ok-len.ensures.each

pub returns-clause-ok : goal.returns-clause-ok
returns-clause-ok c =
    let schemas = c.have_schema.ensures.same.0 c.if-not-have_schema.false in
    let some = slice_get_within c.args.batches.now 0 c.in-Some.first.now (sym c.in-Some.ensures.value) in (
      passes c.args.batches.now (fields_schema c.fields-columns.result.now) some schemas,
      concat-batch c.args.batches.now c.fields-columns.result.now c.in_ok-fields.fields.items c.in_ok-len.len schemas
          c.in_ok-fields.ensures.ok c.in_ok-len.ensures.ok,
    )

pub returns-in_err-len-clause-err : goal.returns-in_err-len-clause-err
returns-in_err-len-clause-err c =
    let schemas = c.have_schema.ensures.same.0 c.if-not-have_schema.false in
    let some = slice_get_within c.args.batches.now 0 c.in-Some.first.now (sym c.in-Some.ensures.value) in
    let p = err_from_is_err_and c.from_residual.result c.from_residual.ensures.1 in
    rw (p.1, p.2, c.in_err-len.ensures.err.0) (
      passes c.args.batches.now (fields_schema
          c.fields-columns.result.now) some schemas,
      inl c.in_err-len.ensures.err.1,
    )

pub returns-in_err-fields-clause-err : goal.returns-in_err-fields-clause-err
returns-in_err-fields-clause-err c =
    let schemas = c.have_schema.ensures.same.0 c.if-not-have_schema.false in
    let some = slice_get_within c.args.batches.now 0 c.in-Some.first.now (sym c.in-Some.ensures.value) in
    let p = err_from_is_err_and c.from_residual-in_err-fields.result c.from_residual-in_err-fields.ensures.1 in
    rw (p.1, p.2) (columns-fail c.args.batches.now _ (passes c.args.batches.now (fields_schema
    c.fields-columns.result.now) some schemas) c.in_err-fields.ensures.err)
