use Rattle.std.proofs.Common.{◌≡◌, ◌<◌, ◌-◌, true, length, refl, ap, sym, ◌∙◌}
use Rattle.std.specs.Prelude.{◌==◌, slice_index}
use Rattle.rr_slots.specs.Elements.{option_elements}
use Rattle.rr_slots.specs.Pools.{emptied}
use Rattle.rr_slots.proofs.PoolLaws.{within_held, changed}
use Rattle.rr_slots.proofs.pool.writing.Pool+Option+T.take_back.Goals as goal

pub returns-then-give_back-clause-given : goal.returns-then-give_back-clause-given
returns-then-give_back-clause-given g c =
    let last : (slice_index c.self.inside.holders.holders c.args.slot - 1 == 0) ≡ true = sym c.give_back.ensures.free ∙ c.if-give_back.true in
    let inside : c.args.slot < length c.self.inside.bodies.items =
    within_held _ c.self.inside.bodies.items _ (rw (← c.self.view_is) at c.requires) c.self.invariant.0 in
    rw (← c.self.view_is)
    (ap (λ contents. record {
      contents = contents;
      holders = c.give_back.new.self.holders;
      room = c.self.inside.room;
      looks = c.give_back.new.self.looks;
    })
    (changed (λ _. 1) option_elements _ _ _ inside c.index_mut-body.ensures.value _ emptied refl (ap option_elements c.take.ensures.after))
    ∙ rw (c.give_back.ensures.holders, c.give_back.ensures.looks, last) refl)
