use Rattle.std.proofs.Common.{subst, sym, ◌∙◌}
use Rattle.example_record_batch.specs.declared.batch.Field.{Field}
use Rattle.example_record_batch.specs.AnyArrays.{array_kind}
use Rattle.example_record_batch.specs.Concatenation.{HaveKind, IsConcatArray}
use Rattle.example_record_batch.proofs.ConcatLemmas.{at-k, concat-more, kind-at, some-at, type-at}
use Rattle.example_record_batch.proofs.batch.concat.concat_fields.Goals as goal

pub concat-requires-clause-some : goal.concat-requires-clause-some
concat-requires-clause-some c =
    rw (c.as_slice.ensures.value, c.in_ok-arrays.ensures.ok) (some-at c.args.batches.now c.args.fields.now c.loop-k.k
    c.index-fields-k.result c.loop-k-test.true c.index-fields-k.is c.requires.schema c.requires.some)

pub concat-requires-clause-kind : goal.concat-requires-clause-kind
concat-requires-clause-kind c = (
  array_kind c.index-fields-k.result.array,
  subst (λ arrays. HaveKind arrays (array_kind c.index-fields-k.result.array))
      (sym (c.as_slice.ensures.value ∙ c.in_ok-arrays.ensures.ok)) (kind-at c.args.batches.now c.args.fields.now
      c.loop-k.k c.index-fields-k.result c.loop-k-test.true c.index-fields-k.is c.requires.kinds),
)

pub loop-k-preserved : goal.loop-k-preserved
loop-k-preserved c =
    let field = c.index-fields-k.result in
    let at = at-k c.args.batches.now c.args.fields.now c.loop-k.k field c.loop-k-test.true c.index-fields-k.is in
    let types = type-at c.args.batches.now c.args.fields.now c.loop-k.k field c.loop-k-test.true c.index-fields-k.is
    c.requires.schema in
    let new : Field = record { name = c.in_ok-name.name; array = c.in_ok-array.array } in
    let joined = subst (λ arrays. IsConcatArray arrays new.array) (c.as_slice.ensures.value
    ∙ c.in_ok-arrays.ensures.ok) c.in_ok-array.ensures.ok in
    rw c.in_ok-push.ensures.items (concat-more c.args.batches.now c.args.fields.now c.loop-k.made.items c.loop-k.k
    field new c.loop-k.invariant at c.in_ok-name.ensures.cases types joined)
