use Rattle.std.proofs.Common.{◌≡◌, ◌∙◌, ap, rules, sym, true}
use Rattle.std.specs.Result.{is_ok}
use Rattle.csv.specs.Records.{field_at, fields_of}
use Rattle.example_csv.proofs.ReadLemmas.{headers-done, headers-more}
use Rattle.example_csv.proofs.read.builders_of.Goals as goal

pub loop-header-preserved : goal.loop-header-preserved
loop-header-preserved c =
    let (row, at, within, built) = c.loop-header.invariant in
    let step = c.in-Some.ensures.steps in
    let more = headers-more (fields_of c.args.headers.now) c.loop-header.columns.items c.push.new.self.items
    c.in-Some.header.now c.in_ok-builder_of.field-0 (rw (row, at) at step.1) built c.in_ok-builder_of.ensures.ok
    c.in_ok-push.ensures.items in
    (rw step.0 row, step.2 ∙ rw at (sym more.0), more.1, more.2)

pub returns-clause-ok : goal.returns-clause-ok
returns-clause-ok c =
    let (row, at, within, built) = c.loop-header.invariant in
    headers-done (fields_of c.args.headers.now) c.loop-header.columns.items within
    (rw (row, at) at c.in-None.ensures.steps.1) built
