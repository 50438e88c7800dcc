use Rattle.rr_sender.proofs.HeadLaws.{length-contents, length-details, length-user_headers, free-and-used}
use Rattle.rr_sender.proofs.sender.Sender.free_slots.Goals as goal

pub returns-clause-free : goal.returns-clause-free
returns-clause-free g c = rw (← c.self.view_is, c.free_slots.ensures.free) (free-and-used _ _ _ c.self.invariant)

pub returns-clause-contents : goal.returns-clause-contents
returns-clause-contents g c = rw (← c.self.view_is) (length-contents _ _ _ c.self.invariant)

pub returns-clause-details : goal.returns-clause-details
returns-clause-details g c = rw (← c.self.view_is) (length-details _ _ _ c.self.invariant)

pub returns-clause-user_headers : goal.returns-clause-user_headers
returns-clause-user_headers g c = rw (← c.self.view_is) (length-user_headers _ _ _ c.self.invariant)
