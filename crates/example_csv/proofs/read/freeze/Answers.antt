use Rattle.std.proofs.Common.{◌≡◌, ◌∙◌, ap, arith, length, rules, subst, sym}
use Rattle.example_record_batch.specs.Batches.{batch_of}
use Rattle.example_csv.specs.Reading.{IsTableOf}
use Rattle.example_csv.proofs.ReadLemmas.{frozen-more, have-rows, is-table}
use Rattle.example_csv.proofs.read.freeze.Goals as goal

pub loop-column-preserved : goal.loop-column-preserved
loop-column-preserved c =
    let (rest, left, each) = c.loop-column.invariant in
    let step = c.in-Some.ensures.steps in
    let more = frozen-more c.args.columns.items _ _ c.loop-column.fields.items c.push.new.self.items c.in-Some.column
    c.in_ok-freeze_column.field-0 rest step.0 c.in_ok-push.ensures.items
    (λ header fields built. c.in_ok-freeze_column.ensures.ok header fields built) each in
    (more.0, omega (arith, left, step.1, more.1), more.3)

pub returns-in_err-try_new-clause-err : goal.returns-in_err-try_new-clause-err
returns-in_err-try_new-clause-err c = λ headers rows built height.
    let (rest, left, each) = c.loop-column.invariant in
    let all : length c.loop-column.fields.items ≡ length c.args.columns.items =
    omega (arith, left, c.in-None.ensures.steps.0) in
    absurd (c.in_err-try_new.ensures.err.0 (rw height (have-rows headers rows c.args.columns.items
    c.loop-column.fields.items built all each)))

pub returns-clause-ok : goal.returns-clause-ok
returns-clause-ok c = λ headers rows built height.
    let (rest, left, each) = c.loop-column.invariant in
    let all : length c.loop-column.fields.items ≡ length c.args.columns.items =
    omega (arith, left, c.in-None.ensures.steps.0) in
    rw (c.in_ok-try_new.ensures.ok.1, height) (is-table headers rows c.args.columns.items c.loop-column.fields.items
    built all each)
