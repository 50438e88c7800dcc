use Rattle.rr_sender.proofs.HeadLaws.{has_body}
use Rattle.rr_sender.proofs.sender.Sender.body.Goals as goal

pub body-requires : goal.body-requires
body-requires g c = has_body _ _ _ c.self.invariant _ (rw (← c.self.view_is) at c.requires)
