use Rattle.std.proofs.Common.{ap}
use Rattle.rr_sender.specs.Senders.{given_back}
use Rattle.rr_store.proofs.base.senders.Noted.{sender_noted}
use Rattle.rr_store.proofs.base.senders.Stored.{sent_set}
use Rattle.rr_store.proofs.side.Side.give_back.Goals as goal

pub returns : goal.returns
returns g c =
    let there = rw (← c.self.view_is) at c.requires.sender in
    rw (← c.self.view_is) (sent_set c.self.inside c.args.sender _ there c.index_mut.ensures.value _ (λ m. given_back m c.args.slot)
    c.give_back.ensures)

pub invariant_of-self : goal.invariant_of-self
invariant_of-self g c =
    sender_noted _ c.self.inside.senders.items c.args.sender _ _ (rw (← c.self.view_is) at c.requires.sender) c.index_mut.ensures.value
    (ap (λ m. m.queues) c.give_back.ensures) c.self.invariant
