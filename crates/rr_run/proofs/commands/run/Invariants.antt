use Rattle.std.proofs.Common.{◌+◌, ◌≤◌, length}
use Rattle.std.specs.Prelude.{vec_len, vec_capacity}
use Rattle.rr_run.proofs.Running.{IsRunning}
use Rattle.rr_run.proofs.commands.run.Given as goal

-- the commands so far were carried out, and there is room for the replies to the others
abbrev pub invariant-loop-command : goal.invariant-loop-command
invariant-loop-command g l =
    IsRunning g.K.BackpressureFn.action g.T.Default.is_default g.H.Default.is_default g.B.Body.family l.fn.runner l.runner l.commands
    l.command-index l.fn.replies.items l.replies.items
    × (vec_len l.replies + length l.commands ≤ vec_capacity l.replies + l.command-index)
