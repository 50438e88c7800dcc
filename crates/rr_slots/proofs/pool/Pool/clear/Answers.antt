use Rattle.std.proofs.Common.{[], ap}
use Rattle.rr_slots.specs.Pools.{with_elements}
use Rattle.rr_slots.proofs.PoolLaws.{is_inside, changed}
use Rattle.rr_slots.proofs.pool.Pool.clear.Goals as goal

pub returns : goal.returns
returns g c =
    rw (← c.self.view_is)
    (ap (λ contents. record {
      contents = contents;
      holders = c.self.inside.holders.holders;
      room = c.self.inside.room;
      looks = c.self.inside.holders.looks;
    })
    (changed _ _ _ _ _ (is_inside _ _ c.self.inside.bodies.items _ (rw (← c.self.view_is) at c.requires)) c.index_mut-body.ensures.value _
    (with_elements []) c.clear.ensures.asked c.clear.ensures.empty))
