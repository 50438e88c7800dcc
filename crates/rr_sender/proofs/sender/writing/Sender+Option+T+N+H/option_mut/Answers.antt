use Rattle.rr_sender.proofs.HeadLaws.{has_body}
use Rattle.rr_sender.proofs.sender.writing.Sender+Option+T+N+H.option_mut.Goals as goal

pub option_mut-requires : goal.option_mut-requires
option_mut-requires g c = has_body _ _ _ c.self.invariant _ (rw (← c.self.view_is) at c.requires)
