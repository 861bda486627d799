use Rattle.std.proofs.Common.{ap, ◌∙◌, map}
use Rattle.example_record_batch.proofs.BatchLemmas.{cut-named, cut-rows}
use Rattle.example_record_batch.specs.Batches.{named}
use Rattle.example_record_batch.proofs.batch.RecordBatch.slice.Goals as goal

pub invariant_of-self : goal.invariant_of-self
invariant_of-self c =
    let fits = rw (← c.self.view_is) at c.requires in
    rw c.slice_all.ensures (cut-rows c.self.inside.fields.items c.args.offset c.args.len c.self.inside.len
    c.self.invariant fits.0 fits.1)

pub returns : goal.returns
returns c =
    rw (← c.self.view_is)
    (ap (λ columns. record { rows = c.args.len; columns = columns })
    (ap (map named) c.slice_all.ensures ∙ cut-named c.self.inside.fields.items c.args.offset c.args.len))
