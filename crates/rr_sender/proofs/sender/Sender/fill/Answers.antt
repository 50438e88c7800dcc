use Rattle.rr_sender.proofs.HeadLaws.{has_body}
use Rattle.rr_sender.proofs.sender.Sender.fill.Goals as goal

pub fill-requires : goal.fill-requires
fill-requires g c = has_body _ _ _ c.self.invariant _ (rw (← c.self.view_is) at c.requires)
