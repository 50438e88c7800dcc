use Rattle.std.proofs.Common.{refl, ap}
use Rattle.rr_slots.specs.Pools.{with_element_at}
use Rattle.rr_slots.proofs.PoolLaws.{is_there_with, content_is, changed}
use Rattle.rr_slots.proofs.pool.Pool.get_mut.Goals as goal

pub returns : goal.returns
returns g c =
    rw (← c.self.view_is)
    (let inside = is_there_with g.B.Body.asked_len g.B.Body.elements c.self.inside.bodies.items _ _ (rw (← c.self.view_is) at c.requires) in
    let here = content_is g.B.Body.asked_len g.B.Body.elements _ _ _ inside c.index_mut-body.ensures.value in (
      (
        refl,
        λ w. ap (λ contents. record {
          contents = contents;
          holders = c.self.inside.holders.holders;
          room = c.self.inside.room;
          looks = c.self.inside.holders.looks;
        })
            (changed g.B.Body.asked_len g.B.Body.elements _ _ _ inside c.index_mut-body.ensures.value _ (with_element_at c.args.index w)
            (g.met.B.WriteBody.keeps_asked_len _ _ _) (g.met.B.WriteBody.sets_one_element _ _ _)),
      ),
      record { lends = tt; value = rw here c.get_mut.ensures.value },
    ))
