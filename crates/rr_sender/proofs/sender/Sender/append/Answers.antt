use Rattle.rr_sender.proofs.QueueLaws.{state-append, sound-append}
use Rattle.rr_sender.proofs.sender.Sender.append.Goals as goal

pub invariant_of-self : goal.invariant_of-self
invariant_of-self g c =
    rw c.push.ensures
    (sound-append _ _ _ c.self.invariant _ _ (rw (← c.self.view_is) at c.requires.receiver) (rw (← c.self.view_is) at c.requires.channel) _
    (rw (← c.self.view_is) at c.requires.held))

pub returns : goal.returns
returns g c =
    rw (← c.self.view_is, c.push.ensures)
    (state-append _ _ _ c.self.invariant _ _ (rw (← c.self.view_is) at c.requires.receiver) (rw (← c.self.view_is) at c.requires.channel) _
    (rw (← c.self.view_is) at c.requires.held))
