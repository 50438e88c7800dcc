use Rattle.rr_sender.proofs.HeadLaws.{has_body}
use Rattle.rr_sender.proofs.sender.Sender.slice_mut.Goals as goal

pub slice_mut-requires : goal.slice_mut-requires
slice_mut-requires g c = has_body _ _ _ c.self.invariant _ (rw (← c.self.view_is) at c.requires)
