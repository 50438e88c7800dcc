use Rattle.std.proofs.Common.{refl, ap}
use Rattle.std.specs.Prelude.{vec_capacity}
use Rattle.std.proofs.lemmas.List.{length-take-le}
use Rattle.std.proofs.Math.Seq.{take-set-lt}
use Rattle.rr_slots.proofs.PlainLaws.{front_get}
use Rattle.rr_slots.proofs.plain_body.PlainBodyWriteBody.get_mut.Goals as goal

pub returns : goal.returns
returns g c =
    rw (← c.self.view_is) (
    let within = rw (c.self.inside.items.ok.0) at c.self.invariant.0 in
    let here = rw (length-take-le c.self.inside.len c.self.inside.items.items within) at (rw (← c.self.view_is) at c.requires) in (
      (
        refl,
        λ w. ap (λ items. record { asked = c.self.inside.asked; room = vec_capacity c.self.inside.items; elements = items })
            (take-set-lt c.self.inside.len c.self.inside.items.items c.args.index w here),
      ),
      record { lends = tt; value = front_get c.self.inside.len c.self.inside.items.items c.args.index c.index_mut.result.now here within c.index_mut.ensures.value },
    )
    )
