use Rattle.rr_sender.proofs.HeadLaws.{has_body}
use Rattle.rr_sender.proofs.sender.Sender.clear.Goals as goal

pub clear-requires : goal.clear-requires
clear-requires g c = has_body _ _ _ c.self.invariant _ (rw (← c.self.view_is) at c.requires)
