use Rattle.rr_sender.specs.SenderSets.{IsInEach}
use Rattle.rr_sender.proofs.sender_sets.SenderSets.insert_in_each.Given as goal

-- it is a member of the sets so far
abbrev pub invariant-loop-set : goal.invariant-loop-set
invariant-loop-set l = IsInEach l.set l.sender l.fn.self l.self
