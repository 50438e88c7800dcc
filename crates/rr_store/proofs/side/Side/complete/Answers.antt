use Rattle.std.proofs.Common.{◌≡◌, length, sym, subst, ap}
use Rattle.rr_slots.specs.Pools.{with_elements}
use Rattle.rr_sender.specs.Senders.{content_at, with_changed_at}
use Rattle.rr_store.proofs.base.senders.Stored.{sent_set, stored_is}
use Rattle.rr_store.proofs.base.senders.Noted.{sender_noted}
use Rattle.rr_store.proofs.side.Side.complete.Goals as goal

pub returns : goal.returns
returns g c =
    let there = rw (← c.self.view_is) at c.requires.sender in
    let elements = c.complete.ensures.0 in
    rw (← c.self.view_is) (
      elements,
      subst (λ l. length elements ≡ (content_at l.messages c.args.slot).asked_len)
          (sym (stored_is c.self.inside.senders.items c.args.sender _ there c.index_mut.ensures.value)) c.complete.ensures.1,
      sent_set c.self.inside c.args.sender _ there c.index_mut.ensures.value _
          (λ m. with_changed_at m c.args.slot (with_elements elements)) c.complete.ensures.2,
    )

pub invariant_of-self : goal.invariant_of-self
invariant_of-self g c =
    sender_noted _ c.self.inside.senders.items c.args.sender _ _ (rw (← c.self.view_is) at c.requires.sender) c.index_mut.ensures.value
    (ap (λ m. m.queues) c.complete.ensures.2) c.self.invariant
