use Rattle.std.proofs.Common.{◌≡◌, ℕ, ap, subst, sym, ◌∙◌, length}
use Rattle.example_record_batch.proofs.BatchLemmas.{filtered-rows, named-rows}
use Rattle.example_record_batch.specs.Batches.{Batch, HaveRows}
use Rattle.example_record_batch.proofs.batch.RecordBatch.filter.Goals as goal

pub invariant_of-result : goal.invariant_of-result
invariant_of-result c =
    let same : c.self.inside.len ≡ length c.args.filter.now.rows = ap
    (λ (batch : Batch). batch.rows) c.self.view_is ∙ sym c.requires in
    let rows : HaveRows c.self.inside.fields.items (length c.args.filter.now.rows) = subst
    (λ (n : ℕ). HaveRows c.self.inside.fields.items n) same c.self.invariant in
    rw c.true_count.ensures (filtered-rows c.self.inside.fields.items c.in_ok-fields.fields.items c.args.filter.now
    rows (rw (← c.as_slice.ensures.value) c.in_ok-fields.ensures.ok))

pub returns-clause-ok : goal.returns-clause-ok
returns-clause-ok c =
    let columns = rw c.as_slice.ensures.value at c.in_ok-fields.ensures.ok in
    rw (← c.self.view_is) (λ i. record { rows = c.true_count.ensures i; columns = columns i })

pub returns-clause-each : goal.returns-clause-each
returns-clause-each c = rw (← c.self.view_is)
    (named-rows c.self.inside.fields.items c.self.inside.len c.self.invariant)

pub returns-in_err-fields-clause-each : goal.returns-in_err-fields-clause-each
returns-in_err-fields-clause-each c = rw (← c.self.view_is)
    (named-rows c.self.inside.fields.items c.self.inside.len c.self.invariant)
