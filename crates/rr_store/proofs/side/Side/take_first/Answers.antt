use Rattle.std.proofs.Common.{◌≡◌, ◌<◌, ◌+◌, ◌^◌, [], Some, length, map, sym, ap, subst, length-drop, arith}
use Rattle.std.specs.Prelude.{drop, slice_get, slice_index_or}
use Rattle.rr_sender.specs.Senders.{borrowed_at, queue_at, taken}
use Rattle.rr_store.specs.Asked.{CanTake}
use Rattle.rr_store.specs.Parts.{Sender}
use Rattle.rr_store.specs.Ports.{sender_part}
use Rattle.rr_store.specs.Views.{sender_of}
use Rattle.rr_store.proofs.base.senders.OneQueue.{queue_less}
use Rattle.rr_store.proofs.base.senders.Stored.{stored_is, sent_set}
use Rattle.rr_store.proofs.side.Side.take_first.Goals as goal
use Rattle.rr_store.proofs.side.Side.take_first.Goals.{After-index_mut}

-- what is asked
asked : (g : _) (c : After-index_mut g)
    → CanTake (map sender_part c.self.inside.senders.items) c.args.sender c.args.receiver c.args.channel
asked g c = rw (← c.self.view_is) at c.requires

-- the sender that is lent
lent : (g : _) (c : After-index_mut g)
    → sender_of c.args.sender (map sender_part c.self.inside.senders.items) ≡ sender_part c.index_mut.result.now
lent g c = stored_is c.self.inside.senders.items c.args.sender c.index_mut.result.now (asked g c).there c.index_mut.ensures.value

-- it has the queue
queue : (g : _) (c : After-index_mut g) → (c.args.receiver < length c.index_mut.result.now.messages.queues)
    × (c.args.channel < length (slice_index_or c.index_mut.result.now.messages.queues c.args.receiver []))
queue g c =
    subst (λ (l : Sender _ _ _). (c.args.receiver < length l.messages.queues)
    × (c.args.channel < length (slice_index_or l.messages.queues c.args.receiver []))) (lent g c) (asked g c).queue

pub take-requires-clause-receiver : goal.take-requires-clause-receiver
take-requires-clause-receiver g c = (queue g (goal.at.take-requires-clause-receiver g c).After-index_mut).0

pub take-requires-clause-channel : goal.take-requires-clause-channel
take-requires-clause-channel g c = (queue g (goal.at.take-requires-clause-channel g c).After-index_mut).1

pub take-requires-clause-entry : goal.take-requires-clause-entry
take-requires-clause-entry g c =
    let at = (goal.at.take-requires-clause-entry g c).After-index_mut in
    subst (λ (l : Sender _ _ _). 0 < length (queue_at l.messages c.args.receiver c.args.channel)) (lent g at) (asked g at).entry

pub take-requires-clause-fits : goal.take-requires-clause-fits
take-requires-clause-fits g c =
    let at = (goal.at.take-requires-clause-fits g c).After-index_mut in
    subst (λ (l : Sender _ _ _). borrowed_at l.messages c.args.receiver c.args.channel + 1 < 2 ^ 64) (lent g at) (asked g at).fits

pub returns-clause-first : goal.returns-clause-first
returns-clause-first g c =
    rw (← c.self.view_is) (subst
    (λ (l : Sender _ _ _). slice_get (queue_at l.messages c.args.receiver c.args.channel) 0 ≡ Some c.take.result)
    (sym (lent g (goal.at.returns-clause-first g c).After-index_mut)) c.take.ensures.first)

pub returns-clause-within : goal.returns-clause-within
returns-clause-within g c =
    rw (← c.self.view_is) (subst (λ (l : Sender _ _ _). c.take.result < length l.messages.held)
    (sym (lent g (goal.at.returns-clause-within g c).After-index_mut)) c.take.ensures.within)

pub returns-clause-taken : goal.returns-clause-taken
returns-clause-taken g c =
    let there = rw (← c.self.view_is) at c.requires.there in
    rw (← c.self.view_is) (sent_set c.self.inside c.args.sender _ there c.index_mut.ensures.value _
    (λ m. taken m c.args.receiver c.args.channel c.take.result (drop 1 (queue_at m c.args.receiver c.args.channel))) c.take.ensures.state)

pub invariant_of-self : goal.invariant_of-self
invariant_of-self g c =
    let has = queue g (goal.at.invariant_of-self g c).After-index_mut in
    let old = queue_at c.index_mut.result.now.messages c.args.receiver c.args.channel in
    queue_less c.self.inside.senders.items c.args.sender c.index_mut.result.now _ (rw (← c.self.view_is) at c.requires.there)
    c.index_mut.ensures.value c.args.receiver c.args.channel has.0 has.1 (drop 1 old) (ap (λ m. m.queues) c.take.ensures.state) _
    (omega (arith, length-drop 1 old)) c.self.invariant
