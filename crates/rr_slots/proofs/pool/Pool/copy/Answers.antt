use Rattle.std.proofs.Common.{ap}
use Rattle.rr_slots.specs.Pools.{with_elements}
use Rattle.rr_slots.proofs.PoolLaws.{changed, is_inside}
use Rattle.rr_slots.proofs.pool.Pool.copy.Goals as goal

pub returns : goal.returns
returns g c =
    let inside = is_inside g.B.Body.asked_len g.B.Body.elements c.self.inside.bodies.items c.args.slot
    (rw (← c.self.view_is) at c.requires.slot) in
    rw (← c.self.view_is)
    (ap (λ contents. record {
      contents = contents;
      holders = c.self.inside.holders.holders;
      room = c.self.inside.room;
      looks = c.self.inside.holders.looks;
    })
    (changed g.B.Body.asked_len g.B.Body.elements _ _ _ inside c.index_mut-copied.ensures.value _ (with_elements c.args.elements.now)
    c.copy.ensures.asked c.copy.ensures.elements))
