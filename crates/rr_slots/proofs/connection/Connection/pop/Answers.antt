use Rattle.rr_slots.proofs.Queues.{sound-popped, state-popped}
use Rattle.rr_slots.proofs.connection.Connection.pop.Goals as goal

pub invariant_of-self : goal.invariant_of-self
invariant_of-self c =
    sound-popped _ _ _ _ c.self.invariant c.self.view_is c.requires _ c.index_mut-queue.ensures.value _ c.pop_front.ensures.items

pub returns-clause-state : goal.returns-clause-state
returns-clause-state c = state-popped _ _ _ _ c.self.invariant c.self.view_is c.requires _ c.index_mut-queue.ensures.value _
    c.pop_front.ensures.items
