use Rattle.std.proofs.Common.{◌≡◌, ◌<◌, ◌+◌, ◌*◌, ◌^◌, Ok, length, ap, ◌∙◌}
use Rattle.std.specs.Prelude.{◌==◌}
use Rattle.rr_store.specs.Asked.{CanInsert}
use Rattle.rr_store.specs.Parts.{ServerPart}
use Rattle.rr_store.specs.Draining.{HaveQueues}
use Rattle.rr_store.specs.Receiving.{HaveChannels}
use Rattle.rr_store.proofs.base.senders.Connected.{reached_apart}
use Rattle.rr_store.specs.Views.{sender_of}
use Rattle.rr_store.specs.Opened.{opened}
use Rattle.rr_store.specs.Ports.{server_part}
use Rattle.rr_store.proofs.base.lists.Seen.{kept_rising, kept_some, seen_at, seen_found}
use Rattle.rr_store.proofs.base.senders.Ports.{told_at}
use Rattle.rr_receiving.proofs.steps.Request.{server_asked, order_asked, queues_asked, skimmed_core, none_then, error_then}
use Rattle.rr_receiving.proofs.steps.Request.{active_place_asked, add_asked, core_then, receives_then}
use Rattle.rr_receiving.proofs.request.receive_request.Goals.{After-receiver_of_port-receiver, After-take_first-slot, After-place_at_receiver-own}
use Rattle.rr_receiving.proofs.request.receive_request.Goals as goal

pub index_of-index-requires-clause-rising : goal.index_of-index-requires-clause-rising
index_of-index-requires-clause-rising g c =
    kept_rising server_part c.args.store.now.servers.ports (λ (x : ServerPart _). x.port.id) (order_asked (opened c.args.store.now)
    c.requires.core c.args.server c.requires.kind)

pub index_of-index-requires-clause-present : goal.index_of-index-requires-clause-present
index_of-index-requires-clause-present g c =
    kept_some server_part c.args.store.now.servers.ports (λ (x : ServerPart _). x.port.id == c.args.server) (server_asked (opened
    c.args.store.now) c.requires.core c.args.server c.requires.kind)

-- each client's sender reaches the server
reach : (g : _) (c : After-receiver_of_port-receiver g) → HaveQueues c.args.store.now.clients.senders c.receiver_of_port-receiver.result
    × HaveChannels c.args.store.now.clients.senders c.receiver_of_port-receiver.result 0
reach g c =
    reached_apart _ _ _
    (queues_asked (opened c.args.store.now) c.requires.core c.args.server c.requires.kind _ (told_at (λ (s : ServerPart _).
    s.port.id == c.args.server) (opened c.args.store.now).servers (λ (s : ServerPart _). c.receiver_of_port-receiver.result ≡ s.receiver)
    c.index_of-index.result (seen_found server_part c.args.store.now.servers.ports (λ (x : ServerPart _). x.port.id == c.args.server) _
    c.index_of-index.ensures) (seen_at server_part c.args.store.now.servers.ports c.index_of-index.result (λ (x : ServerPart _).
    c.receiver_of_port-receiver.result ≡ x.receiver) c.receiver_of_port-receiver.ensures)))

pub next_request_sender-requires-clause-receiver : goal.next_request_sender-requires-clause-receiver
next_request_sender-requires-clause-receiver g c =
    (reach g (goal.at.next_request_sender-requires-clause-receiver g c).After-receiver_of_port-receiver).0

pub next_request_sender-requires-clause-channel : goal.next_request_sender-requires-clause-channel
next_request_sender-requires-clause-channel g c =
    (reach g (goal.at.next_request_sender-requires-clause-channel g c).After-receiver_of_port-receiver).1

-- the place of the handle can be counted
countable : (g : _) (c : After-take_first-slot g) → (c.in-Ok-Some.sender < length c.take_first-slot.new.self.senders)
    × (c.receiver_of_port-receiver.result + 1 < 2 ^ 64)
    × ((c.receiver_of_port-receiver.result + 1) * length (sender_of c.in-Ok-Some.sender c.take_first-slot.new.self.senders).messages.held
    + c.take_first-slot.result < 2 ^ 64)
countable g c =
    active_place_asked (opened c.args.store.now) c.requires.core c.args.server c.requires.kind _ (told_at (λ (s : ServerPart _).
    s.port.id == c.args.server) (opened c.args.store.now).servers (λ (s : ServerPart _). c.receiver_of_port-receiver.result ≡ s.receiver)
    c.index_of-index.result (seen_found server_part c.args.store.now.servers.ports (λ (x : ServerPart _). x.port.id == c.args.server) _
    c.index_of-index.ensures) (seen_at server_part c.args.store.now.servers.ports c.index_of-index.result (λ (x : ServerPart _).
    c.receiver_of_port-receiver.result ≡ x.receiver) c.receiver_of_port-receiver.ensures)) _
    c.next_request_sender.ensures.rest c.next_request_sender.ensures.kept _ c.next_request_sender.ensures.skimmed
    c.next_request_sender.ensures.next _
    (c.in-Ok-Some.is ∙ ap Ok c.in-Ok-Some.field-0-is) c.requires.number _ _ c.take_first-slot.ensures.first
    c.take_first-slot.ensures.within (ap (λ s. opened (record c.next_request_sender.new.store { clients = s })) c.take_first-slot.ensures.taken)

pub place_at_receiver-own-requires-clause-sender : goal.place_at_receiver-own-requires-clause-sender
place_at_receiver-own-requires-clause-sender g c =
    (countable g (goal.at.place_at_receiver-own-requires-clause-sender g c).After-take_first-slot).0

pub place_at_receiver-own-requires-clause-receiver : goal.place_at_receiver-own-requires-clause-receiver
place_at_receiver-own-requires-clause-receiver g c =
    (countable g (goal.at.place_at_receiver-own-requires-clause-receiver g c).After-take_first-slot).1

pub place_at_receiver-own-requires-clause-slot : goal.place_at_receiver-own-requires-clause-slot
place_at_receiver-own-requires-clause-slot g c =
    (countable g (goal.at.place_at_receiver-own-requires-clause-slot g c).After-take_first-slot).2

-- the handle can be put there
addable : (g : _) (c : After-place_at_receiver-own g)
    → CanInsert c.next_request_sender.new.store.table c.next_request_sender.new.store.next c.place_at_receiver-own.result
    × (c.next_request_sender.new.store.next + 1 < 2 ^ 64)
addable g c =
    add_asked (opened c.args.store.now) c.requires.core c.args.server c.requires.kind _ (told_at (λ (s : ServerPart _).
    s.port.id == c.args.server) (opened c.args.store.now).servers (λ (s : ServerPart _). c.receiver_of_port-receiver.result ≡ s.receiver)
    c.index_of-index.result (seen_found server_part c.args.store.now.servers.ports (λ (x : ServerPart _). x.port.id == c.args.server) _
    c.index_of-index.ensures) (seen_at server_part c.args.store.now.servers.ports c.index_of-index.result (λ (x : ServerPart _).
    c.receiver_of_port-receiver.result ≡ x.receiver) c.receiver_of_port-receiver.ensures)) _
    c.next_request_sender.ensures.rest c.next_request_sender.ensures.kept _ c.next_request_sender.ensures.skimmed
    c.next_request_sender.ensures.next _
    (c.in-Ok-Some.is ∙ ap Ok c.in-Ok-Some.field-0-is) c.requires.number _ _ c.take_first-slot.ensures.first
    c.take_first-slot.ensures.within (ap (λ s. opened (record c.next_request_sender.new.store { clients = s })) c.take_first-slot.ensures.taken) _
    c.place_at_receiver-own.ensures

pub add-number-requires-clause-vacant : goal.add-number-requires-clause-vacant
add-number-requires-clause-vacant g c = (addable g (goal.at.add-number-requires-clause-vacant g c).After-place_at_receiver-own).0

pub add-number-requires-clause-number : goal.add-number-requires-clause-number
add-number-requires-clause-number g c = (addable g (goal.at.add-number-requires-clause-number g c).After-place_at_receiver-own).1

pub returns-in-Ok-Some-clause-core : goal.returns-in-Ok-Some-clause-core
returns-in-Ok-Some-clause-core g c =
    core_then (opened c.args.store.now) c.requires.core c.args.server c.requires.kind _ (told_at (λ (s : ServerPart _).
    s.port.id == c.args.server) (opened c.args.store.now).servers (λ (s : ServerPart _). c.receiver_of_port-receiver.result ≡ s.receiver)
    c.index_of-index.result (seen_found server_part c.args.store.now.servers.ports (λ (x : ServerPart _). x.port.id == c.args.server) _
    c.index_of-index.ensures) (seen_at server_part c.args.store.now.servers.ports c.index_of-index.result (λ (x : ServerPart _).
    c.receiver_of_port-receiver.result ≡ x.receiver) c.receiver_of_port-receiver.ensures)) _
    c.next_request_sender.ensures.rest c.next_request_sender.ensures.kept _ c.next_request_sender.ensures.skimmed
    c.next_request_sender.ensures.next _
    (c.in-Ok-Some.is ∙ ap Ok c.in-Ok-Some.field-0-is) c.requires.number _ _ c.take_first-slot.ensures.first
    c.take_first-slot.ensures.within (ap (λ s. opened (record c.next_request_sender.new.store { clients = s })) c.take_first-slot.ensures.taken) _
    c.place_at_receiver-own.ensures _ _
    c.add-number.ensures.number c.add-number.ensures.added _ c.new.ensures

pub returns-in-Ok-Some-clause-receives : goal.returns-in-Ok-Some-clause-receives
returns-in-Ok-Some-clause-receives g c =
    receives_then (opened c.args.store.now) c.requires.core c.args.server c.requires.kind _ (told_at (λ (s : ServerPart _).
    s.port.id == c.args.server) (opened c.args.store.now).servers (λ (s : ServerPart _). c.receiver_of_port-receiver.result ≡ s.receiver)
    c.index_of-index.result (seen_found server_part c.args.store.now.servers.ports (λ (x : ServerPart _). x.port.id == c.args.server) _
    c.index_of-index.ensures) (seen_at server_part c.args.store.now.servers.ports c.index_of-index.result (λ (x : ServerPart _).
    c.receiver_of_port-receiver.result ≡ x.receiver) c.receiver_of_port-receiver.ensures)) _
    c.next_request_sender.ensures.rest c.next_request_sender.ensures.kept _ c.next_request_sender.ensures.skimmed
    c.next_request_sender.ensures.next _
    (c.in-Ok-Some.is ∙ ap Ok c.in-Ok-Some.field-0-is) c.requires.number _ _ c.take_first-slot.ensures.first
    c.take_first-slot.ensures.within (ap (λ s. opened (record c.next_request_sender.new.store { clients = s })) c.take_first-slot.ensures.taken) _
    c.place_at_receiver-own.ensures _ _
    c.add-number.ensures.number c.add-number.ensures.added _ c.new.ensures

pub returns-in-Ok-None-clause-core : goal.returns-in-Ok-None-clause-core
returns-in-Ok-None-clause-core g c =
    skimmed_core (opened c.args.store.now) c.requires.core c.args.server c.requires.kind _ (told_at (λ (s : ServerPart _).
    s.port.id == c.args.server) (opened c.args.store.now).servers (λ (s : ServerPart _). c.receiver_of_port-receiver.result ≡ s.receiver)
    c.index_of-index.result (seen_found server_part c.args.store.now.servers.ports (λ (x : ServerPart _). x.port.id == c.args.server) _
    c.index_of-index.ensures) (seen_at server_part c.args.store.now.servers.ports c.index_of-index.result (λ (x : ServerPart _).
    c.receiver_of_port-receiver.result ≡ x.receiver) c.receiver_of_port-receiver.ensures)) _
    c.next_request_sender.ensures.rest c.next_request_sender.ensures.kept _ c.next_request_sender.ensures.skimmed

pub returns-in-Ok-None-clause-receives : goal.returns-in-Ok-None-clause-receives
returns-in-Ok-None-clause-receives g c =
    none_then (opened c.args.store.now) c.requires.core c.args.server c.requires.kind _ (told_at (λ (s : ServerPart _).
    s.port.id == c.args.server) (opened c.args.store.now).servers (λ (s : ServerPart _). c.receiver_of_port-receiver.result ≡ s.receiver)
    c.index_of-index.result (seen_found server_part c.args.store.now.servers.ports (λ (x : ServerPart _). x.port.id == c.args.server) _
    c.index_of-index.ensures) (seen_at server_part c.args.store.now.servers.ports c.index_of-index.result (λ (x : ServerPart _).
    c.receiver_of_port-receiver.result ≡ x.receiver) c.receiver_of_port-receiver.ensures)) _
    c.next_request_sender.ensures.rest c.next_request_sender.ensures.kept _ c.next_request_sender.ensures.skimmed
    c.next_request_sender.ensures.next
    (c.in-Ok-None.is ∙ ap Ok c.in-Ok-None.field-0-is)

pub returns-in-Err-clause-core : goal.returns-in-Err-clause-core
returns-in-Err-clause-core g c =
    skimmed_core (opened c.args.store.now) c.requires.core c.args.server c.requires.kind _ (told_at (λ (s : ServerPart _).
    s.port.id == c.args.server) (opened c.args.store.now).servers (λ (s : ServerPart _). c.receiver_of_port-receiver.result ≡ s.receiver)
    c.index_of-index.result (seen_found server_part c.args.store.now.servers.ports (λ (x : ServerPart _). x.port.id == c.args.server) _
    c.index_of-index.ensures) (seen_at server_part c.args.store.now.servers.ports c.index_of-index.result (λ (x : ServerPart _).
    c.receiver_of_port-receiver.result ≡ x.receiver) c.receiver_of_port-receiver.ensures)) _
    c.next_request_sender.ensures.rest c.next_request_sender.ensures.kept _ c.next_request_sender.ensures.skimmed

pub returns-in-Err-clause-receives : goal.returns-in-Err-clause-receives
returns-in-Err-clause-receives g c =
    error_then (opened c.args.store.now) c.requires.core c.args.server c.requires.kind _ (told_at (λ (s : ServerPart _).
    s.port.id == c.args.server) (opened c.args.store.now).servers (λ (s : ServerPart _). c.receiver_of_port-receiver.result ≡ s.receiver)
    c.index_of-index.result (seen_found server_part c.args.store.now.servers.ports (λ (x : ServerPart _). x.port.id == c.args.server) _
    c.index_of-index.ensures) (seen_at server_part c.args.store.now.servers.ports c.index_of-index.result (λ (x : ServerPart _).
    c.receiver_of_port-receiver.result ≡ x.receiver) c.receiver_of_port-receiver.ensures)) _
    c.next_request_sender.ensures.rest c.next_request_sender.ensures.kept _ c.next_request_sender.ensures.skimmed
    c.next_request_sender.ensures.next
    c.in-Err.error c.in-Err.is
