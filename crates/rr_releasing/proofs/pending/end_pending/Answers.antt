use Rattle.std.proofs.Common.{ap}
use Rattle.rr_store.specs.Opened.{opened}
use Rattle.rr_store.specs.Draining.{HaveQueues}
use Rattle.rr_store.specs.Receiving.{HaveChannels}
use Rattle.rr_store.proofs.base.senders.Connected.{reached_apart}
use Rattle.rr_releasing.proofs.steps.Pending.{pending_sender_asked, pending_asked, channel_asked, sender_asked, slot_asked, gone_then, port_then, sound_then}
use Rattle.rr_releasing.proofs.pending.end_pending.Goals.{After-end_pending-receiver}
use Rattle.rr_releasing.proofs.pending.end_pending.Goals as goal

pub take_at-entry-requires : goal.take_at-entry-requires
take_at-entry-requires g c = c.requires.at

pub end_pending-receiver-requires-clause-sender : goal.end_pending-receiver-requires-clause-sender
end_pending-receiver-requires-clause-sender g c =
    pending_sender_asked (opened c.args.store.now) c.requires.core c.args.number c.args.place _ c.take_at-entry.ensures.taken
    c.requires.kind _
    (ap (λ s. opened (record c.args.store.now { table = s })) c.take_at-entry.ensures.gone)

pub end_pending-receiver-requires-clause-counted : goal.end_pending-receiver-requires-clause-counted
end_pending-receiver-requires-clause-counted g c =
    pending_asked (opened c.args.store.now) c.requires.core c.args.number c.args.place _ c.take_at-entry.ensures.taken c.requires.kind _
    (ap (λ s. opened (record c.args.store.now { table = s })) c.take_at-entry.ensures.gone)

-- each server's sender reaches the client
reach : (g : _) (c : After-end_pending-receiver g) → HaveQueues c.args.store.now.servers.senders c.end_pending-receiver.result
    × HaveChannels c.args.store.now.servers.senders c.end_pending-receiver.result c.take_at-entry.result.slot
reach g c =
    reached_apart _ _ _
    (channel_asked (opened c.args.store.now) c.requires.core c.args.number c.args.place _ c.take_at-entry.ensures.taken c.requires.kind _
    (ap (λ s. opened (record c.args.store.now { table = s })) c.take_at-entry.ensures.gone) _ _ c.end_pending-receiver.ensures.receiver
    (ap (λ s. opened (record c.args.store.now { table = c.take_at-entry.new.self; clients = s })) c.end_pending-receiver.ensures.counted))

pub clear_channel-requires-clause-receiver : goal.clear_channel-requires-clause-receiver
clear_channel-requires-clause-receiver g c = (reach g (goal.at.clear_channel-requires-clause-receiver g c).After-end_pending-receiver).0

pub clear_channel-requires-clause-channel : goal.clear_channel-requires-clause-channel
clear_channel-requires-clause-channel g c = (reach g (goal.at.clear_channel-requires-clause-channel g c).After-end_pending-receiver).1

pub give_back-requires-clause-sender : goal.give_back-requires-clause-sender
give_back-requires-clause-sender g c =
    sender_asked (opened c.args.store.now) c.requires.core c.args.number c.args.place _ c.take_at-entry.ensures.taken c.requires.kind _
    (ap (λ s. opened (record c.args.store.now { table = s })) c.take_at-entry.ensures.gone) _ _ c.end_pending-receiver.ensures.receiver
    (ap (λ s. opened (record c.args.store.now { table = c.take_at-entry.new.self; clients = s })) c.end_pending-receiver.ensures.counted)
    _ (ap (λ s. opened (record c.args.store.now
    { table = c.take_at-entry.new.self; clients = c.end_pending-receiver.new.self; servers = s })) c.clear_channel.ensures)

pub give_back-requires-clause-held : goal.give_back-requires-clause-held
give_back-requires-clause-held g c =
    slot_asked (opened c.args.store.now) c.requires.core c.args.number c.args.place _ c.take_at-entry.ensures.taken c.requires.kind _
    (ap (λ s. opened (record c.args.store.now { table = s })) c.take_at-entry.ensures.gone) _ _ c.end_pending-receiver.ensures.receiver
    (ap (λ s. opened (record c.args.store.now { table = c.take_at-entry.new.self; clients = s })) c.end_pending-receiver.ensures.counted)
    _ (ap (λ s. opened (record c.args.store.now
    { table = c.take_at-entry.new.self; clients = c.end_pending-receiver.new.self; servers = s })) c.clear_channel.ensures)

pub returns-clause-sound : goal.returns-clause-sound
returns-clause-sound g c =
    sound_then (opened c.args.store.now) c.requires.core c.args.number c.args.place _ c.take_at-entry.ensures.taken c.requires.kind _
    (ap (λ s. opened (record c.args.store.now { table = s })) c.take_at-entry.ensures.gone) _ _ c.end_pending-receiver.ensures.receiver
    (ap (λ s. opened (record c.args.store.now { table = c.take_at-entry.new.self; clients = s })) c.end_pending-receiver.ensures.counted)
    _ (ap (λ s. opened (record c.args.store.now
    { table = c.take_at-entry.new.self; clients = c.end_pending-receiver.new.self; servers = s })) c.clear_channel.ensures)
    _ (ap (λ s. opened (record c.args.store.now { table = c.take_at-entry.new.self; servers = c.clear_channel.new.self; clients = s }))
    c.give_back.ensures)

pub returns-clause-port : goal.returns-clause-port
returns-clause-port g c =
    port_then (opened c.args.store.now) c.requires.core c.args.number c.args.place _ c.take_at-entry.ensures.taken c.requires.kind _
    (ap (λ s. opened (record c.args.store.now { table = s })) c.take_at-entry.ensures.gone) _ _ c.end_pending-receiver.ensures.receiver
    (ap (λ s. opened (record c.args.store.now { table = c.take_at-entry.new.self; clients = s })) c.end_pending-receiver.ensures.counted)
    _ (ap (λ s. opened (record c.args.store.now
    { table = c.take_at-entry.new.self; clients = c.end_pending-receiver.new.self; servers = s })) c.clear_channel.ensures)
    _ (ap (λ s. opened (record c.args.store.now { table = c.take_at-entry.new.self; servers = c.clear_channel.new.self; clients = s }))
    c.give_back.ensures)

pub returns-clause-gone : goal.returns-clause-gone
returns-clause-gone g c =
    gone_then (opened c.args.store.now) c.requires.core c.args.number c.args.place _ c.take_at-entry.ensures.taken c.requires.kind _
    (ap (λ s. opened (record c.args.store.now { table = s })) c.take_at-entry.ensures.gone) _ _ c.end_pending-receiver.ensures.receiver
    (ap (λ s. opened (record c.args.store.now { table = c.take_at-entry.new.self; clients = s })) c.end_pending-receiver.ensures.counted)
    _ (ap (λ s. opened (record c.args.store.now
    { table = c.take_at-entry.new.self; clients = c.end_pending-receiver.new.self; servers = s })) c.clear_channel.ensures)
    _ (ap (λ s. opened (record c.args.store.now { table = c.take_at-entry.new.self; servers = c.clear_channel.new.self; clients = s }))
    c.give_back.ensures)
