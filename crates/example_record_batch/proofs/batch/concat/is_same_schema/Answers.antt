use Rattle.std.proofs.Common.{ap, arith, refl, length, slice_get, sym, true≢false, ◌∙◌}
use Rattle.std.proofs.lemmas.Option.{same_Some, slice_get_read}
use Rattle.example_record_batch.specs.Batches.{named}
use Rattle.example_record_batch.specs.Schemas.{named_type}
use Rattle.example_record_batch.proofs.ConcatLemmas.{get-schema}
use Rattle.example_record_batch.proofs.batch.concat.is_same_schema.Goals as goal

pub returns-then-not-is_same_type-clause-same : goal.returns-then-not-is_same_type-clause-same
returns-then-not-is_same_type-clause-same c = (
  λ f. absurd (true≢false (sym f)),
  λ same.
      let i = c.loop-i.i in
      let first = get-schema c.args.fields.now i c.index-fields-i.result (slice_get_read c.args.fields.now (length
      c.args.fields.now) i c.index-fields-i.result refl c.loop-i-test.true c.index-fields-i.is) in
      let second = get-schema c.args.others.now i c.index-others-i.result (slice_get_read c.args.others.now (length
      c.args.others.now) i c.index-others-i.result refl (omega arith) c.index-others-i.is) in
      let types = same_Some (named_type (named c.index-fields-i.result)) (named_type (named c.index-others-i.result))
      (sym first ∙ ap (λ columns. slice_get columns i) same ∙ second) in
      sym c.if-not-is_same_type.true ∙ c.is_same_type.ensures.same.1 types,
)
