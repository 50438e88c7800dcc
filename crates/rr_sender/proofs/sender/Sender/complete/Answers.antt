use Rattle.rr_sender.proofs.HeadLaws.{has_body}
use Rattle.rr_sender.proofs.sender.Sender.complete.Goals as goal

pub complete-requires : goal.complete-requires
complete-requires g c = has_body _ _ _ c.self.invariant _ (rw (← c.self.view_is) at c.requires)
