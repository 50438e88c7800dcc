use Rattle.std.proofs.Common.{◌≡◌, ◌≤◌, ◌+◌, ◌*◌, ◌++◌, [], drop, map}
use Rattle.rr_ports.specs.Facts.{Keeps, numbers_left}
use Rattle.rr_ports.specs.Queues.{HearsNothing}
use Rattle.rr_callers.specs.Parameters.{answers_of}
use Rattle.rr_callers.proofs.parameters.ask_in_turn.Given as goal

-- what numbers named they name still, nothing is queued, and what was answered goes on by the answers to the questions that are left
abbrev pub invariant-loop-index : goal.invariant-loop-index
invariant-loop-index l =
    Keeps [] l.fn.hub l.hub × HearsNothing l.hub l.server
    × (map (λ answer. answer.items) l.answers.items ++ answers_of (drop l.index l.questions) l.values ≡ answers_of l.questions l.fn.values)
    × (numbers_left l.fn.hub ≤ numbers_left l.hub + l.index * 3)
