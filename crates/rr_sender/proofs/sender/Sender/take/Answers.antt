use Rattle.rr_sender.proofs.QueueLaws.{entry_within, state-take, sound-take}
use Rattle.rr_sender.proofs.sender.Sender.take.Goals as goal

pub invariant_of-self : goal.invariant_of-self
invariant_of-self g c = rw (c.take.ensures.state)
    (sound-take _ _ _ c.self.invariant _ _ (rw (← c.self.view_is) at c.requires.receiver) (rw (← c.self.view_is) at c.requires.channel) _
    c.take.ensures.first _)

pub returns-clause-state : goal.returns-clause-state
returns-clause-state g c =
    rw (← c.self.view_is, c.take.ensures.state)
    (state-take _ _ _ c.self.invariant _ _ (rw (← c.self.view_is) at c.requires.receiver) (rw (← c.self.view_is) at c.requires.channel) _
    c.take.ensures.first)

pub returns-clause-within : goal.returns-clause-within
returns-clause-within g c = rw (← c.self.view_is) (entry_within _ _ _ c.self.invariant _ _ (rw (← c.self.view_is) at c.requires.receiver)
    (rw (← c.self.view_is) at c.requires.channel) _ c.take.ensures.first)
