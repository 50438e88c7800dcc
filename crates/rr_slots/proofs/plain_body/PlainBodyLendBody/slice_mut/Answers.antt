use Rattle.std.proofs.Common.{take, refl, ap, ◌∙◌, arith}
use Rattle.std.specs.Prelude.{vec_capacity}
use Rattle.rr_slots.proofs.PlainLaws.{front_refilled}
use Rattle.rr_slots.proofs.plain_body.PlainBodyLendBody.slice_mut.Goals as goal

pub returns : goal.returns
returns g c =
    rw (← c.self.view_is) (
      (
        refl,
        λ w. ap (λ items. record { asked = c.self.inside.asked; room = vec_capacity c.self.inside.items; elements = items })
            (front_refilled c.self.inside.len c.self.inside.items.len c.self.inside.items.items w c.self.invariant.0 c.self.inside.items.ok.0 _),
      ),
      record { lends = tt; value = c.slice_mut.ensures.value ∙ ap (λ n. take n c.self.inside.items.items) (omega arith) },
    )
