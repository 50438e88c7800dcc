use Rattle.std.proofs.Common.{refl, sym, ap, ◌∙◌}
use Rattle.rr_slots.specs.Pools.{with_elements}
use Rattle.rr_slots.proofs.PoolLaws.{changed, content_is, is_inside}
use Rattle.rr_slots.proofs.pool.Pool.complete.Goals as goal

pub returns : goal.returns
returns g c =
    let inside = is_inside g.B.Body.asked_len g.B.Body.elements c.self.inside.bodies.items c.args.slot
    (rw (← c.self.view_is) at c.requires) in
    let here = content_is g.B.Body.asked_len g.B.Body.elements _ _ _ inside c.index_mut-completed.ensures.value in
    let elements = g.B.Body.elements c.complete.new.self in
    rw (← c.self.view_is) (
      elements,
      c.complete.ensures.len ∙ ap (λ w. w.asked_len) (sym here),
      ap (λ contents. record {
        contents = contents;
        holders = c.self.inside.holders.holders;
        room = c.self.inside.room;
        looks = c.self.inside.holders.looks;
      })
          (changed g.B.Body.asked_len g.B.Body.elements _ _ _ inside c.index_mut-completed.ensures.value _ (with_elements elements)
          c.complete.ensures.asked refl),
    )
