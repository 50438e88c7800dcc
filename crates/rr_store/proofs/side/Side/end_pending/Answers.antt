use Rattle.std.proofs.Common.{refl, ap}
use Rattle.rr_store.specs.Clearing.{without_pending}
use Rattle.rr_store.specs.SideInside.{side_of}
use Rattle.rr_store.proofs.base.lookups.Asking.{senders_many}
use Rattle.rr_store.proofs.base.senders.Stored.{stored_changed}
use Rattle.rr_store.proofs.base.senders.Noted.{sender_noted}
use Rattle.rr_store.proofs.side.Side.end_pending.Goals as goal

pub returns-clause-counted : goal.returns-clause-counted
returns-clause-counted g c =
    let items = c.self.inside.senders.items in
    let there = rw (← c.self.view_is) at c.requires.sender in
    rw (← c.self.view_is) (ap (λ ls. record (side_of c.self.inside) { senders = ls })
    (stored_changed items c.args.sender c.index_mut-owned.result.now (senders_many items c.args.sender there) c.index_mut-owned.ensures.value _
    without_pending refl))

pub invariant_of-self : goal.invariant_of-self
invariant_of-self g c =
    sender_noted _ c.self.inside.senders.items c.args.sender _ _ (rw (← c.self.view_is) at c.requires.sender) c.index_mut-owned.ensures.value
    (refl) c.self.invariant
