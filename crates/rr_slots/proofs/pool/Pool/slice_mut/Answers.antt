use Rattle.std.proofs.Common.{refl, sym, ap}
use Rattle.rr_slots.specs.PoolLends.{refilled}
use Rattle.rr_slots.proofs.PoolLaws.{is_inside, content_is, changed}
use Rattle.rr_slots.proofs.pool.Pool.slice_mut.Goals as goal

pub returns : goal.returns
returns g c =
    rw (← c.self.view_is)
    (let inside = is_inside g.B.Body.asked_len g.B.Body.elements c.self.inside.bodies.items _ (rw (← c.self.view_is) at c.requires) in
    let here = content_is g.B.Body.asked_len g.B.Body.elements _ _ _ inside c.index_mut-body.ensures.value in (
      (
        refl,
        λ w. ap (λ contents. record {
          contents = contents;
          holders = c.self.inside.holders.holders;
          room = c.self.inside.room;
          looks = c.self.inside.holders.looks;
        })
            (changed g.B.Body.asked_len g.B.Body.elements _ _ _ inside c.index_mut-body.ensures.value _ (refilled w)
            (g.met.B.LendBody.asks_as_before _ _) (g.met.B.LendBody.sets_items _ _)),
      ),
      record { lends = tt; value = rw here (sym c.slice_mut.ensures.value) },
    ))
