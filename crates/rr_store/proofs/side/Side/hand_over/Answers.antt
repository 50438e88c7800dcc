use Rattle.std.proofs.Common.{◌≡◌, ◌<◌, Some, None, length, map, ap, subst, arith}
use Rattle.std.proofs.lemmas.List.{length-map}
use Rattle.rr_sender.specs.Senders.{put, queue_at}
use Rattle.std.specs.Prelude.{slice_index}
use Rattle.rr_store.specs.Delivering.{HasQueue, handed_on}
use Rattle.rr_store.specs.Parts.{Sender}
use Rattle.rr_store.specs.Ports.{sender_part}
use Rattle.rr_store.specs.Views.{sender_of}
use Rattle.rr_store.proofs.base.senders.Noted.{has_place, sender_noted}
use Rattle.rr_store.proofs.base.senders.OneQueue.{queue_among}
use Rattle.rr_store.proofs.base.senders.Stored.{stored_is, sent_set}
use Rattle.rr_store.proofs.side.Side.hand_over.Goals as goal
use Rattle.rr_store.proofs.side.Side.hand_over.Goals.{After-index_mut}

-- the sender that is lent
lent : (g : _) (c : After-index_mut g)
    → sender_of c.args.sender (map sender_part c.self.inside.senders.items) ≡ sender_part c.index_mut.result.now
lent g c =
    stored_is c.self.inside.senders.items c.args.sender c.index_mut.result.now (rw (← c.self.view_is) at c.requires.sender)
    c.index_mut.ensures.value

-- it has the queue
queue : (g : _) (c : After-index_mut g) → HasQueue c.index_mut.result.now.messages c.args.channel (Some c.in-Some.receiver)
queue g c =
    subst (λ (l : Sender _ _ _). HasQueue l.messages c.args.channel (Some c.in-Some.receiver)) (lent g c)
    (rw (← c.self.view_is, c.in-Some.is) at c.requires.queue)

-- which can take an entry
takes : (g : _) (c : After-index_mut g)
    → (0 < c.index_mut.result.now.messages.capacity) × (0 < slice_index c.index_mut.result.now.messages.held c.args.slot)
takes g c =
    subst (λ (l : Sender _ _ _). (0 < l.messages.capacity) × (0 < slice_index l.messages.held c.args.slot)) (lent g c)
    (rw (← c.self.view_is) at c.requires.takes)

pub hand_over-requires-clause-receiver : goal.hand_over-requires-clause-receiver
hand_over-requires-clause-receiver g c = (queue g (goal.at.hand_over-requires-clause-receiver g c).After-index_mut).0

pub hand_over-requires-clause-channel : goal.hand_over-requires-clause-channel
hand_over-requires-clause-channel g c = (queue g (goal.at.hand_over-requires-clause-channel g c).After-index_mut).1

pub hand_over-requires-clause-capacity : goal.hand_over-requires-clause-capacity
hand_over-requires-clause-capacity g c = (takes g (goal.at.hand_over-requires-clause-capacity g c).After-index_mut).0

pub hand_over-requires-clause-held : goal.hand_over-requires-clause-held
hand_over-requires-clause-held g c = (takes g (goal.at.hand_over-requires-clause-held g c).After-index_mut).1

pub returns-in-Some : goal.returns-in-Some
returns-in-Some g c =
    let there = rw (← c.self.view_is) at c.requires.sender in
    rw (← c.self.view_is, c.in-Some.is) (sent_set c.self.inside c.args.sender _ there c.index_mut.ensures.value _
    (λ m. handed_on m c.args.overflow c.args.channel c.args.slot (Some c.in-Some.receiver)) c.hand_over.ensures)

pub returns-in-None : goal.returns-in-None
returns-in-None g c =
    let there = rw (← c.self.view_is) at c.requires.sender in
    rw (← c.self.view_is, c.in-None.is) (sent_set c.self.inside c.args.sender _ there c.index_mut-in-None.ensures.value _
    (λ m. handed_on m c.args.overflow c.args.channel c.args.slot None) c.give_back.ensures)

pub note_among-requires : goal.note_among-requires
note_among-requires g c several =
    let items = c.self.inside.senders.items in
    let has = rw (← c.self.view_is, c.in-Some.is) at c.requires.queue in
    has_place c.self.inside.waiting (map sender_part items) c.self.invariant
    (omega (arith, several, c.len-count.ensures, c.self.inside.senders.ok.0, length-map items sender_part)) c.in-Some.receiver c.args.channel
    c.args.sender (rw (← c.self.view_is) at c.requires.sender) has.0 has.1

pub invariant_of-self : goal.invariant_of-self
invariant_of-self g c =
    let items = c.self.inside.senders.items in
    let m = c.index_mut.result.now.messages in
    let has = queue g (goal.at.invariant_of-self g c).After-index_mut in
    queue_among items c.args.sender c.index_mut.result.now _ (rw (← c.self.view_is) at c.requires.sender) c.index_mut.ensures.value
    c.in-Some.receiver c.args.channel has.0 has.1 (put c.args.overflow m.capacity (queue_at m c.in-Some.receiver c.args.channel) c.args.slot)
    (ap (λ m. m.queues) c.hand_over.ensures) c.self.inside.waiting c.note_among.new.self c.len-count.result
    (omega (arith, c.len-count.ensures, c.self.inside.senders.ok.0, length-map items sender_part)) c.note_among.ensures c.self.invariant

pub invariant_of-self-in-None : goal.invariant_of-self-in-None
invariant_of-self-in-None g c =
    sender_noted _ c.self.inside.senders.items c.args.sender _ _ (rw (← c.self.view_is) at c.requires.sender) c.index_mut-in-None.ensures.value
    (ap (λ m. m.queues) c.give_back.ensures) c.self.invariant
