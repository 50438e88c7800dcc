use Rattle.std.proofs.Common.{◌≡◌, ◌<◌, [], length, map, ap, ◌∙◌, subst}
use Rattle.std.specs.Prelude.{slice_index_or}
use Rattle.rr_sender.specs.Senders.{borrowed_at, given_back}
use Rattle.rr_store.specs.Parts.{Sender}
use Rattle.rr_store.specs.Ports.{sender_part}
use Rattle.rr_store.specs.Releasing.{borrow_given_back}
use Rattle.rr_store.specs.Views.{sender_of}
use Rattle.rr_store.proofs.base.senders.Stored.{stored_is, sent_set}
use Rattle.rr_store.proofs.base.senders.Noted.{sender_noted}
use Rattle.rr_store.proofs.side.Side.end_borrow.Goals as goal
use Rattle.rr_store.proofs.side.Side.end_borrow.Goals.{After-index_mut}

-- the sender that is lent
lent : (g : _) (c : After-index_mut g)
    → sender_of c.args.sender (map sender_part c.self.inside.senders.items) ≡ sender_part c.index_mut.result.now
lent g c =
    let there = rw (← c.self.view_is) at c.requires.sender in
    stored_is c.self.inside.senders.items c.args.sender c.index_mut.result.now there c.index_mut.ensures.value

pub end_borrow-requires-clause-receiver : goal.end_borrow-requires-clause-receiver
end_borrow-requires-clause-receiver g c =
    subst (λ (l : Sender _ _ _). c.args.receiver < length l.messages.queues)
    (lent g (goal.at.end_borrow-requires-clause-receiver g c).After-index_mut) (rw (← c.self.view_is) at c.requires.queue).0

pub end_borrow-requires-clause-channel : goal.end_borrow-requires-clause-channel
end_borrow-requires-clause-channel g c =
    subst (λ (l : Sender _ _ _). c.args.channel < length (slice_index_or l.messages.queues c.args.receiver []))
    (lent g (goal.at.end_borrow-requires-clause-channel g c).After-index_mut) (rw (← c.self.view_is) at c.requires.queue).1

pub end_borrow-requires-clause-borrowed : goal.end_borrow-requires-clause-borrowed
end_borrow-requires-clause-borrowed g c =
    subst (λ (l : Sender _ _ _). 0 < borrowed_at l.messages c.args.receiver c.args.channel)
    (lent g (goal.at.end_borrow-requires-clause-borrowed g c).After-index_mut) (rw (← c.self.view_is) at c.requires.counted).0

pub returns : goal.returns
returns g c =
    let there = rw (← c.self.view_is) at c.requires.sender in
    rw (← c.self.view_is) (sent_set c.self.inside c.args.sender _ there c.index_mut.ensures.value _ (λ m. borrow_given_back m c.args.receiver
    c.args.channel c.args.slot) (c.give_back.ensures ∙ ap (λ m. given_back m c.args.slot) c.end_borrow.ensures))

pub invariant_of-self : goal.invariant_of-self
invariant_of-self g c =
    sender_noted _ c.self.inside.senders.items c.args.sender _ _ (rw (← c.self.view_is) at c.requires.sender) c.index_mut.ensures.value
    (ap (λ m. m.queues) c.give_back.ensures ∙ ap (λ m. m.queues) c.end_borrow.ensures) c.self.invariant
