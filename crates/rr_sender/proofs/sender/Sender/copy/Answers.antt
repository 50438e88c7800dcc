use Rattle.rr_sender.proofs.HeadLaws.{has_body}
use Rattle.rr_sender.proofs.sender.Sender.copy.Goals as goal

pub copy-requires-clause-slot : goal.copy-requires-clause-slot
copy-requires-clause-slot g c = has_body _ _ _ c.self.invariant _ (rw (← c.self.view_is) at c.requires.slot)
