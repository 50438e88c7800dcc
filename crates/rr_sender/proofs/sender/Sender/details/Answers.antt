use Rattle.std.proofs.Common.{arith}
use Rattle.rr_sender.proofs.HeadLaws.{has_head, details_is}
use Rattle.rr_sender.proofs.sender.Sender.details.Goals as goal

pub index-requires : goal.index-requires
index-requires g c = omega (arith, has_head _ _ _ c.self.invariant _ (rw (← c.self.view_is) at c.requires), c.self.inside.heads.ok.0)

pub returns : goal.returns
returns g c = rw (← c.self.view_is) (details_is _ _ _ c.self.invariant _ (rw (← c.self.view_is) at c.requires) _ c.index.ensures)
