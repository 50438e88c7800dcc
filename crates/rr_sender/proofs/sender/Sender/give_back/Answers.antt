use Rattle.rr_sender.proofs.SenderLaws.{has_holder, state-give_back, sound-give_back}
use Rattle.rr_sender.proofs.sender.Sender.give_back.Goals as goal

pub give_back-requires : goal.give_back-requires
give_back-requires g c = has_holder _ _ _ c.self.invariant _ (rw (← c.self.view_is) at c.requires)

pub invariant_of-self : goal.invariant_of-self
invariant_of-self g c = rw c.give_back.ensures (sound-give_back _ _ _ c.self.invariant _ (rw (← c.self.view_is) at c.requires))

pub returns : goal.returns
returns g c = rw (← c.self.view_is, c.give_back.ensures) (state-give_back _ _ _ c.self.invariant _ (rw (← c.self.view_is) at c.requires))
