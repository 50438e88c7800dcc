use Rattle.std.proofs.Common.{refl, ap}
use Rattle.rr_slots.specs.Elements.{option_elements}
use Rattle.rr_slots.specs.Pools.{with_elements}
use Rattle.rr_slots.proofs.PoolLaws.{is_inside, content_is, changed}
use Rattle.rr_slots.proofs.pool.writing.Pool+Option+T.option_mut.Goals as goal

pub returns : goal.returns
returns g c =
    rw (← c.self.view_is)
    (let inside = is_inside (λ _. 1) option_elements c.self.inside.bodies.items _ (rw (← c.self.view_is) at c.requires) in
    let here = content_is (λ _. 1) option_elements _ _ _ inside c.index_mut.ensures.value in (
      (
        refl,
        λ w. ap (λ contents. record {
          contents = contents;
          holders = c.self.inside.holders.holders;
          room = c.self.inside.room;
          looks = c.self.inside.holders.looks;
        })
            (changed (λ _. 1) option_elements _ _ _ inside c.index_mut.ensures.value _ (with_elements (option_elements w)) refl refl),
      ),
      record { lends = tt; value = rw here refl },
    ))
