use Rattle.std.proofs.Common.{refl}
use Rattle.std.proofs.Common.{arith}
use Rattle.rr_sender.proofs.HeadLaws.{has_head, state-header, header_is}
use Rattle.rr_sender.proofs.sender.Sender.user_header_mut.Goals as goal

pub index_mut-head-requires : goal.index_mut-head-requires
index_mut-head-requires g c = omega (
  arith,
  has_head _ _ _ c.self.invariant _ (rw (← c.self.view_is) at c.requires),
  c.self.inside.heads.ok.0,
)

pub returns : goal.returns
returns g c =
    rw (← c.self.view_is)
    (let inside = (rw (← c.self.view_is) at c.requires) in (
      (refl, λ w. state-header _ _ _ c.self.invariant _ inside _ c.index_mut-head.ensures.value w),
      record { lends = tt; value = header_is _ _ _ c.self.invariant _ inside _ c.index_mut-head.ensures.value },
    ))
