use Rattle.rr_sender.proofs.QueueLaws.{first_within}
use Rattle.rr_sender.proofs.sender.Sender.first.Goals as goal

pub returns-clause-within : goal.returns-clause-within
returns-clause-within g c = rw (← c.self.view_is, c.first.ensures)
    (first_within _ _ _ c.self.invariant _ _ (rw (← c.self.view_is) at c.requires.receiver) (rw (← c.self.view_is) at c.requires.channel))
