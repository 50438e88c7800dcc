use Rattle.std.proofs.Common.{◌≡◌, ◌<◌, ◌≤◌, [], length, map, ap, subst, arith}
use Rattle.std.specs.Prelude.{slice_index_or}
use Rattle.rr_store.specs.Clearing.{channel_cleared}
use Rattle.rr_store.specs.Loaning.{with_messages}
use Rattle.rr_store.specs.Parts.{Sender}
use Rattle.rr_store.specs.Ports.{sender_part}
use Rattle.rr_store.specs.SideInside.{side_of}
use Rattle.rr_store.specs.Views.{sender_of}
use Rattle.rr_store.proofs.base.lookups.Asking.{senders_many}
use Rattle.rr_store.proofs.base.senders.OneQueue.{queue_less}
use Rattle.rr_store.proofs.base.senders.Stored.{stored_changed, stored_is}
use Rattle.rr_store.proofs.side.Side.drop_queue.Goals as goal
use Rattle.rr_store.proofs.side.Side.drop_queue.Goals.{After-index_mut}

-- the sender that is lent
lent : (g : _) (c : After-index_mut g)
    → sender_of c.args.sender (map sender_part c.self.inside.senders.items) ≡ sender_part c.index_mut.result.now
lent g c = stored_is c.self.inside.senders.items c.args.sender c.index_mut.result.now (rw (← c.self.view_is) at c.requires.sender) c.index_mut.ensures.value

row : (g : _) (c : After-index_mut g) → c.args.receiver < length c.index_mut.result.now.messages.queues
row g c = subst (λ (l : Sender _ _ _). c.args.receiver < length l.messages.queues) (lent g c) (rw (← c.self.view_is) at c.requires.receiver)

column : (g : _) (c : After-index_mut g) → c.args.channel < length (slice_index_or c.index_mut.result.now.messages.queues c.args.receiver [])
column g c =
    subst (λ (l : Sender _ _ _). c.args.channel < length (slice_index_or l.messages.queues c.args.receiver [])) (lent g c)
    (rw (← c.self.view_is) at c.requires.channel)

pub clear_queue-requires-clause-receiver : goal.clear_queue-requires-clause-receiver
clear_queue-requires-clause-receiver g c = row g (goal.at.clear_queue-requires-clause-receiver g c).After-index_mut

pub clear_queue-requires-clause-channel : goal.clear_queue-requires-clause-channel
clear_queue-requires-clause-channel g c = column g (goal.at.clear_queue-requires-clause-channel g c).After-index_mut

pub invariant_of-self : goal.invariant_of-self
invariant_of-self g c =
    let at = (goal.at.invariant_of-self g c).After-index_mut in
    queue_less c.self.inside.senders.items c.args.sender c.index_mut.result.now _ (rw (← c.self.view_is) at c.requires.sender)
    c.index_mut.ensures.value c.args.receiver c.args.channel (row g at) (column g at) [] (ap (λ m. m.queues) c.clear_queue.ensures) _
    (omega arith) c.self.invariant

pub returns : goal.returns
returns g c =
    let items = c.self.inside.senders.items in
    let there = rw (← c.self.view_is) at c.requires.sender in
    rw (← c.self.view_is) (ap (λ ls. record (side_of c.self.inside) { senders = ls })
    (stored_changed items c.args.sender c.index_mut.result.now (senders_many items c.args.sender there) c.index_mut.ensures.value _
    (channel_cleared c.args.receiver c.args.channel) (ap (λ m. with_messages (sender_part c.index_mut.result.now) m) c.clear_queue.ensures)))
