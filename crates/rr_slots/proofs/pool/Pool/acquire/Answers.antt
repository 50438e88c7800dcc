use Rattle.std.proofs.Common.{◌≡◌, ◌≤◌, ◌<◌, length, refl, ap, arith, sym, ◌∙◌, ⊎_elim}
use Rattle.std.specs.Prelude.{slice_set}
use Rattle.std.proofs.lemmas.Bool.{cases_lt, false≢true}
use Rattle.rr_slots.specs.Pools.{nothing_written}
use Rattle.rr_slots.proofs.PoolLaws.{within_bodies, became}
use Rattle.rr_slots.proofs.pool.Pool.acquire.Goals as goal

pub returns-in-Ok-clause-ok : goal.returns-in-Ok-clause-ok
returns-in-Ok-clause-ok g c =
    let inside : c.in-Some.slot < length c.self.inside.bodies.items = within_bodies _ _ _ _ c.in-Some.ensures.free c.self.invariant.0 in
    let same : c.take.result ≡ c.in-Some.slot = c.take.ensures.first ∙ sym c.in-Some.ensures.some in
    let bodies = became g.B.Body.asked_len g.B.Body.elements _ _ _ inside c.index_mut.ensures.value _
    (nothing_written c.args.len) c.in-Ok.ensures.asked c.in-Ok.ensures.empty in
    let holders : c.take.new.self.holders ≡ slice_set c.self.inside.holders.holders c.in-Some.slot 1 = c.take.ensures.holders
    ∙ ap (λ k. slice_set c.self.inside.holders.holders k 1) same in
    rw (← c.self.view_is)
    (ap (λ contents. record {
      contents = contents;
      holders = c.take.new.self.holders;
      room = c.self.inside.room;
      looks = c.take.new.self.looks;
    }) bodies
    ∙ rw holders (rw c.take.ensures.looks refl))

pub returns-in-Err-clause-no_room : goal.returns-in-Err-clause-no_room
returns-in-Err-clause-no_room g c =
    let inside : c.in-Some.slot < length c.self.inside.bodies.items = within_bodies _ _ _ _ c.in-Some.ensures.free c.self.invariant.0 in
    let roomy : c.self.inside.room ≤ g.B.Body.room c.index_mut.result.now = rw c.index_mut.ensures.value (c.self.invariant.1 _ _ inside) in
    rw (← c.self.view_is)
    (λ _. ⊎_elim (λ h. h)
    (λ h. absurd (false≢true (c.in-Err.ensures.within_room (omega (arith, h, roomy)))))
    (cases_lt c.self.inside.room c.args.len))
