use Rattle.rr_sender.proofs.QueueLaws.{entry_holds, state-drop_first, sound-drop_first, state-drop_none, sound-drop_none}
use Rattle.std.proofs.Common.{sym}
use Rattle.rr_sender.proofs.sender.Sender.drop_first.Goals as goal

pub give_back-requires : goal.give_back-requires
give_back-requires g c = entry_holds _ _ _ c.self.invariant _ _ (rw (← c.self.view_is) at c.requires.receiver)
    (rw (← c.self.view_is) at c.requires.channel) _ (sym c.in-Some.ensures.first)

pub invariant_of-self : goal.invariant_of-self
invariant_of-self g c = rw (c.give_back.ensures, c.pop.ensures.state)
    (sound-drop_first _ _ _ c.self.invariant _ _ (rw (← c.self.view_is) at c.requires.receiver)
    (rw (← c.self.view_is) at c.requires.channel) _ (sym c.in-Some.ensures.first))

pub invariant_of-self-in-None : goal.invariant_of-self-in-None
invariant_of-self-in-None g c = rw c.pop.ensures.state (sound-drop_none _ _ _ c.self.invariant _ _
    (rw (← c.self.view_is) at c.requires.receiver) (rw (← c.self.view_is) at c.requires.channel) (sym c.in-None.ensures.first))

pub returns-in-Some : goal.returns-in-Some
returns-in-Some g c = rw (← c.self.view_is, c.give_back.ensures, c.pop.ensures.state)
    (state-drop_first _ _ _ c.self.invariant _ _ (rw (← c.self.view_is) at c.requires.receiver)
    (rw (← c.self.view_is) at c.requires.channel) _ (sym c.in-Some.ensures.first))

pub returns-in-None : goal.returns-in-None
returns-in-None g c = rw (← c.self.view_is, c.pop.ensures.state)
    (state-drop_none _ _ _ c.self.invariant _ _ (rw (← c.self.view_is) at c.requires.receiver) (rw (← c.self.view_is) at c.requires.channel)
    (sym c.in-None.ensures.first))
