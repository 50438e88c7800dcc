use Rattle.std.proofs.Common.{◌≡◌, ◌<◌, [], length, map, subst}
use Rattle.std.specs.Prelude.{slice_index_or}
use Rattle.rr_store.specs.Parts.{Sender}
use Rattle.rr_store.specs.Ports.{sender_part}
use Rattle.rr_store.specs.Views.{sender_of}
use Rattle.rr_store.proofs.base.lookups.Asking.{sender_is, senders_many}
use Rattle.rr_store.proofs.side.Side.borrowed.Goals as goal
use Rattle.rr_store.proofs.side.Side.borrowed.Goals.{After-index}

-- the sender that is read
its : (g : _) (c : After-index g) → sender_of c.args.sender (map sender_part c.self.inside.senders.items) ≡ sender_part c.index.result.now
its g c =
    sender_is c.self.inside.senders.items c.args.sender c.index.result.now
    (senders_many c.self.inside.senders.items c.args.sender (rw (← c.self.view_is) at c.requires.sender)) c.index.ensures

pub borrowed-requires-clause-receiver : goal.borrowed-requires-clause-receiver
borrowed-requires-clause-receiver g c =
    let queues = rw (← c.self.view_is) at c.requires.receiver in
    subst (λ (l : Sender _ _ _). c.args.receiver < length l.messages.queues) (its g (goal.at.borrowed-requires-clause-receiver g c).After-index)
    (queues c.args.sender (rw (← c.self.view_is) at c.requires.sender))

pub borrowed-requires-clause-channel : goal.borrowed-requires-clause-channel
borrowed-requires-clause-channel g c =
    let channels = rw (← c.self.view_is) at c.requires.channel in
    subst (λ (l : Sender _ _ _). c.args.channel < length (slice_index_or l.messages.queues c.args.receiver []))
    (its g (goal.at.borrowed-requires-clause-channel g c).After-index)
    (channels c.args.sender (rw (← c.self.view_is) at c.requires.sender))
