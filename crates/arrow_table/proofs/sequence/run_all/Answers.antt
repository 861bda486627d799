use Rattle.std.proofs.Common.{◌+◌, [], arith, ap, refl, sym}
use Rattle.std.proofs.lemmas.List.{append-nil}
use Rattle.arrow_table.proofs.RunLemmas.{runs-more}
use Rattle.arrow_table.proofs.sequence.run_all.Goals as goal

pub loop-command-init : goal.loop-command-init
loop-command-init g c = (refl, ([], sym (append-nil c.args.replies.now.items), refl), omega arith)

pub loop-command-preserved : goal.loop-command-preserved
loop-command-preserved g c =
    let more = runs-more g.S.Executor.steps_to c.args.state.now c.loop-command.state c.step-reply.new.self
    c.args.commands.now c.loop-command.command-index c.args.replies.now.items c.loop-command.replies.items
    c.command-item.result c.step-reply.result
    c.loop-command-test.true c.command-item.is c.loop-command.invariant.1 c.step-reply.ensures
    in (
      ap (λ n. n + 1) c.loop-command.invariant.0,
      rw c.push_reserved.ensures.items (rw c.reserve.ensures.items more),
      omega (arith, c.loop-command.invariant.2, c.reserve.ensures.capacity, c.push_reserved.ensures.capacity),
    )

pub returns-in_default-clause-count : goal.returns-in_default-clause-count
returns-in_default-clause-count g c = omega (arith, c.loop-command.invariant.0, c.loop-command-test.true)

pub returns-in_default-clause-run : goal.returns-in_default-clause-run
returns-in_default-clause-run g c = rw (c.reserve.ensures.items, c.loop-command.invariant.0) c.loop-command.invariant.1

pub returns-clause-count : goal.returns-clause-count
returns-clause-count g c = omega (arith, c.loop-command.invariant.0, c.loop-command.auto.command-index-end)

pub returns-clause-run : goal.returns-clause-run
returns-clause-run g c = rw c.loop-command.invariant.0 c.loop-command.invariant.1
