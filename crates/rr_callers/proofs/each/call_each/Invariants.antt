use Rattle.std.proofs.Common.{◌≤◌, ◌+◌, ◌*◌, [], take}
use Rattle.std.specs.List.{AllZip}
use Rattle.rr_ports.specs.Facts.{Keeps, numbers_left}
use Rattle.rr_ports.specs.Queues.{HearsNothing}
use Rattle.rr_callers.proofs.each.call_each.Given as goal

-- what numbers named they name still, nothing is queued, and the questions so far were answered
abbrev pub invariant-loop-index : goal.invariant-loop-index
invariant-loop-index g l =
    Keeps [] l.fn.hub l.hub × HearsNothing l.hub l.server
    × AllZip (goal.F-post g l.answer_by) (take l.index l.questions) l.answers.items
    × (numbers_left l.fn.hub ≤ numbers_left l.hub + l.index * 3)
