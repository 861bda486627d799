use Rattle.std.proofs.Common.{◌≡◌, ◌<◌, ◌^◌, ap, arith, length, subst, sym}
use Rattle.dethrugn.specs.Sort.{PickOnce}
use Rattle.dethrugn.proofs.CallerLemmas.Sort.{picks-below}
use Rattle.example_record_batch.specs.Batches.{Batch}
use Rattle.example_record_batch.proofs.TakeLemmas.{taken-rows}
use Rattle.example_record_batch.proofs.batch.RecordBatch.take.Goals as goal

pub take_all-requires-clause-rows : goal.take_all-requires-clause-rows
take_all-requires-clause-rows c = rw c.as_slice.ensures.value c.self.invariant

pub take_all-requires-clause-once : goal.take_all-requires-clause-once
take_all-requires-clause-once c =
    subst (λ n. PickOnce n c.args.indexes.now) (sym (ap (λ (batch : Batch). batch.rows) c.self.view_is)) c.requires

pub invariant_of-result : goal.invariant_of-result
invariant_of-result c =
    let n = c.self.inside.len in
    let once : PickOnce n c.args.indexes.now =
    subst (λ n. PickOnce n c.args.indexes.now) (sym (ap (λ (batch : Batch). batch.rows) c.self.view_is)) c.requires in
    let small : n < 2 ^ 64 = omega arith in
    taken-rows c.self.inside.fields.items c.in_ok-fields.fields.items c.args.indexes.now n
    c.self.invariant small (picks-below n c.args.indexes.now once) (rw (← c.as_slice.ensures.value) c.in_ok-fields.ensures.ok)

pub returns-clause-ok : goal.returns-clause-ok
returns-clause-ok c =
    let columns = rw c.as_slice.ensures.value at c.in_ok-fields.ensures.ok in
    rw (← c.self.view_is) (λ i. record { rows = length c.args.indexes.now; columns = columns i })
