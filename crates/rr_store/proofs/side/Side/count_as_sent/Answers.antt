use Rattle.std.proofs.Common.{refl, ap}
use Rattle.rr_store.specs.Sending.{with_one_sent}
use Rattle.rr_store.specs.SideInside.{side_of}
use Rattle.rr_store.proofs.base.lookups.Asking.{senders_many}
use Rattle.rr_store.proofs.base.senders.Stored.{stored_changed}
use Rattle.rr_store.proofs.base.senders.Noted.{sender_noted}
use Rattle.rr_store.proofs.side.Side.count_as_sent.Goals as goal

pub returns : goal.returns
returns g c =
    let items = c.self.inside.senders.items in
    let there = rw (← c.self.view_is) at c.requires.sender in
    rw (← c.self.view_is) (ap (λ ls. record (side_of c.self.inside) { senders = ls })
    (stored_changed items c.args.sender c.index_mut-owned.result.now (senders_many items c.args.sender there) c.index_mut-owned.ensures.value _
    with_one_sent refl))

pub invariant_of-self : goal.invariant_of-self
invariant_of-self g c =
    sender_noted _ c.self.inside.senders.items c.args.sender _ _ (rw (← c.self.view_is) at c.requires.sender) c.index_mut-owned.ensures.value
    (refl) c.self.invariant
