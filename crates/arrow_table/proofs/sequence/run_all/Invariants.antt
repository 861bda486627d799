use Rattle.std.proofs.Common.{◌≡◌, ◌≤◌, take, vec_capacity}
use Rattle.arrow_model.specs.Run.{RunAppends}
use Rattle.arrow_table.proofs.sequence.run_all.Given as goal

abbrev pub invariant-loop-command : goal.invariant-loop-command
invariant-loop-command g l =
    (l.done ≡ l.command-index)
    × RunAppends g.S.Executor.steps_to l.fn.state (take l.command-index l.commands) l.fn.replies.items l.replies.items
    l.state
    × (vec_capacity l.fn.replies ≤ vec_capacity l.replies)
