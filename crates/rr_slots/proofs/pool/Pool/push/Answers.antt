use Rattle.std.proofs.Common.{ap, arith}
use Rattle.rr_slots.specs.Pools.{appended}
use Rattle.rr_slots.proofs.PoolLaws.{is_there, content_is, changed}
use Rattle.rr_slots.proofs.pool.Pool.push.Goals as goal

pub index_mut-body-requires : goal.index_mut-body-requires
index_mut-body-requires g c = omega (
  arith,
  is_there _ _ c.self.inside.bodies.items _ (rw (← c.self.view_is) at c.requires),
  c.self.inside.bodies.ok.0,
)

pub push-requires : goal.push-requires
push-requires g c =
    rw (content_is _ _ _ _ _ (is_there _ _ c.self.inside.bodies.items _ (rw (← c.self.view_is) at c.requires))
    c.index_mut-body.ensures.value)
    at (rw (← c.self.view_is) at c.requires)

pub returns : goal.returns
returns g c =
    rw (← c.self.view_is)
    (ap (λ contents. record {
      contents = contents;
      holders = c.self.inside.holders.holders;
      room = c.self.inside.room;
      looks = c.self.inside.holders.looks;
    })
    (changed _ _ _ _ _ (is_there _ _ c.self.inside.bodies.items _ (rw (← c.self.view_is) at c.requires)) c.index_mut-body.ensures.value _
    (appended c.args.item) c.push.ensures.asked c.push.ensures.elements))
