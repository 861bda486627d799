use Rattle.std.proofs.Common.{◌≡◌, ap, refl, subst, sym, ◌∙◌}
use Rattle.std.specs.Prelude.{All}
use Rattle.std.proofs.lemmas.List.{take_all}
use Rattle.std.proofs.lemmas.List.Elements.{All-more}
use Rattle.example_record_batch.specs.Batches.{Batch}
use Rattle.example_record_batch.specs.Schemas.{fields_schema, schema_of}
use Rattle.example_record_batch.specs.Concatenation.{fields_kinds, kinds_of}
use Rattle.example_record_batch.proofs.batch.concat.have_schema.Goals as goal

pub loop-batch-preserved : goal.loop-batch-preserved
loop-batch-preserved c =
    let batch = c.batch-item.result in
    let same : schema_of batch ≡ fields_schema c.args.fields.now = ap schema_of (sym c.fields.ensures.columns)
    ∙ c.is_same_schema.ensures.same.0 c.if-not-is_same_schema.false in
    let kinds : kinds_of batch ≡ fields_kinds c.args.fields.now = ap kinds_of (sym c.fields.ensures.columns)
    ∙ c.is_same_schema.ensures.kinds c.if-not-is_same_schema.false in (
      All-more (λ (batch : Batch). schema_of batch ≡ fields_schema c.args.fields.now) c.args.batches.now
          c.loop-batch.batch-index batch c.loop-batch-test.true c.loop-batch.invariant.0
          (subst (λ (batch : Batch). schema_of batch ≡ fields_schema c.args.fields.now) c.batch-item.is same),
      All-more (λ (batch : Batch). kinds_of batch ≡ fields_kinds c.args.fields.now) c.args.batches.now
          c.loop-batch.batch-index batch c.loop-batch-test.true c.loop-batch.invariant.1
          (subst (λ (batch : Batch). kinds_of batch ≡ fields_kinds c.args.fields.now) c.batch-item.is kinds),
    )

pub returns-clause-same : goal.returns-clause-same
returns-clause-same c = (
  λ t.
      subst (All (λ (batch : Batch). schema_of batch ≡ fields_schema c.args.fields.now))
      (take_all c.loop-batch.batch-index c.args.batches.now c.loop-batch-test.false) c.loop-batch.invariant.0,
  λ each. refl,
)

pub returns-clause-kinds : goal.returns-clause-kinds
returns-clause-kinds c = λ t.
    subst (All (λ (batch : Batch). kinds_of batch ≡ fields_kinds c.args.fields.now))
    (take_all c.loop-batch.batch-index c.args.batches.now c.loop-batch-test.false) c.loop-batch.invariant.1
