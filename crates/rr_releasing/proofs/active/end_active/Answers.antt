use Rattle.std.proofs.Common.{ap, ◌≡◌}
use Rattle.rr_store.specs.Opened.{opened}
use Rattle.rr_store.specs.Parts.{ServerPart}
use Rattle.rr_store.specs.Ports.{server_part}
use Rattle.rr_store.proofs.base.lists.Seen.{kept_rising, kept_some, seen_at, seen_found}
use Rattle.rr_releasing.proofs.steps.Active.{server_asked, order_asked, sender_asked, mark_asked, sender_still, queue_asked, counted_asked, gone_then, port_then, sound_then}
use Rattle.std.specs.Prelude.{◌==◌}
use Rattle.rr_releasing.proofs.active.end_active.Goals as goal

pub take_at-entry-requires : goal.take_at-entry-requires
take_at-entry-requires g c = c.requires.at

pub index_of-index-requires-clause-rising : goal.index_of-index-requires-clause-rising
index_of-index-requires-clause-rising g c =
    kept_rising server_part c.args.store.now.servers.ports (λ (x : ServerPart _). x.port.id) (order_asked (opened c.args.store.now)
    c.requires.core c.args.number c.args.place _ c.take_at-entry.ensures.taken c.requires.kind _
    (ap (λ s. opened (record c.args.store.now { table = s })) c.take_at-entry.ensures.gone) _ c.server.ensures)

pub index_of-index-requires-clause-present : goal.index_of-index-requires-clause-present
index_of-index-requires-clause-present g c =
    kept_some server_part c.args.store.now.servers.ports (λ (x : ServerPart _). x.port.id == c.server.result) (server_asked (opened
    c.args.store.now) c.requires.core c.args.number c.args.place _ c.take_at-entry.ensures.taken c.requires.kind _
    (ap (λ s. opened (record c.args.store.now { table = s })) c.take_at-entry.ensures.gone) _ c.server.ensures)

pub clear_mark-requires-clause-sender : goal.clear_mark-requires-clause-sender
clear_mark-requires-clause-sender g c =
    sender_asked (opened c.args.store.now) c.requires.core c.args.number c.args.place _ c.take_at-entry.ensures.taken c.requires.kind _
    (ap (λ s. opened (record c.args.store.now { table = s })) c.take_at-entry.ensures.gone) _ c.server.ensures _ (seen_found server_part
    c.args.store.now.servers.ports (λ (x : ServerPart _). x.port.id == c.server.result) _ c.index_of-index.ensures) _ (seen_at
    server_part c.args.store.now.servers.ports c.index_of-index.result (λ (x : ServerPart _).
    c.receiver_of_port-receiver.result ≡ x.receiver) c.receiver_of_port-receiver.ensures)

pub clear_mark-requires-clause-mark : goal.clear_mark-requires-clause-mark
clear_mark-requires-clause-mark g c =
    mark_asked (opened c.args.store.now) c.requires.core c.args.number c.args.place _ c.take_at-entry.ensures.taken c.requires.kind _
    (ap (λ s. opened (record c.args.store.now { table = s })) c.take_at-entry.ensures.gone) _ c.server.ensures _ (seen_found server_part
    c.args.store.now.servers.ports (λ (x : ServerPart _). x.port.id == c.server.result) _ c.index_of-index.ensures) _ (seen_at
    server_part c.args.store.now.servers.ports c.index_of-index.result (λ (x : ServerPart _).
    c.receiver_of_port-receiver.result ≡ x.receiver) c.receiver_of_port-receiver.ensures)

pub end_borrow-requires-clause-sender : goal.end_borrow-requires-clause-sender
end_borrow-requires-clause-sender g c =
    sender_still (opened c.args.store.now) c.requires.core c.args.number c.args.place _ c.take_at-entry.ensures.taken c.requires.kind _
    (ap (λ s. opened (record c.args.store.now { table = s })) c.take_at-entry.ensures.gone) _ c.server.ensures _ (seen_found server_part
    c.args.store.now.servers.ports (λ (x : ServerPart _). x.port.id == c.server.result) _ c.index_of-index.ensures) _ (seen_at
    server_part c.args.store.now.servers.ports c.index_of-index.result (λ (x : ServerPart _).
    c.receiver_of_port-receiver.result ≡ x.receiver) c.receiver_of_port-receiver.ensures) _ (ap (λ s. opened (record c.args.store.now
    { table = c.take_at-entry.new.self; clients = s })) c.clear_mark.ensures)

pub end_borrow-requires-clause-queue : goal.end_borrow-requires-clause-queue
end_borrow-requires-clause-queue g c =
    queue_asked (opened c.args.store.now) c.requires.core c.args.number c.args.place _ c.take_at-entry.ensures.taken c.requires.kind _
    (ap (λ s. opened (record c.args.store.now { table = s })) c.take_at-entry.ensures.gone) _ c.server.ensures _ (seen_found server_part
    c.args.store.now.servers.ports (λ (x : ServerPart _). x.port.id == c.server.result) _ c.index_of-index.ensures) _ (seen_at
    server_part c.args.store.now.servers.ports c.index_of-index.result (λ (x : ServerPart _).
    c.receiver_of_port-receiver.result ≡ x.receiver) c.receiver_of_port-receiver.ensures) _ (ap (λ s. opened (record c.args.store.now
    { table = c.take_at-entry.new.self; clients = s })) c.clear_mark.ensures)

pub end_borrow-requires-clause-counted : goal.end_borrow-requires-clause-counted
end_borrow-requires-clause-counted g c =
    counted_asked (opened c.args.store.now) c.requires.core c.args.number c.args.place _ c.take_at-entry.ensures.taken c.requires.kind _
    (ap (λ s. opened (record c.args.store.now { table = s })) c.take_at-entry.ensures.gone) _ c.server.ensures _ (seen_found server_part
    c.args.store.now.servers.ports (λ (x : ServerPart _). x.port.id == c.server.result) _ c.index_of-index.ensures) _ (seen_at
    server_part c.args.store.now.servers.ports c.index_of-index.result (λ (x : ServerPart _).
    c.receiver_of_port-receiver.result ≡ x.receiver) c.receiver_of_port-receiver.ensures) _ (ap (λ s. opened (record c.args.store.now
    { table = c.take_at-entry.new.self; clients = s })) c.clear_mark.ensures)

pub returns-clause-sound : goal.returns-clause-sound
returns-clause-sound g c =
    sound_then (opened c.args.store.now) c.requires.core c.args.number c.args.place _ c.take_at-entry.ensures.taken c.requires.kind _
    (ap (λ s. opened (record c.args.store.now { table = s })) c.take_at-entry.ensures.gone) _ c.server.ensures _ (seen_found server_part
    c.args.store.now.servers.ports (λ (x : ServerPart _). x.port.id == c.server.result) _ c.index_of-index.ensures) _ (seen_at
    server_part c.args.store.now.servers.ports c.index_of-index.result (λ (x : ServerPart _).
    c.receiver_of_port-receiver.result ≡ x.receiver) c.receiver_of_port-receiver.ensures) _ (ap (λ s. opened (record c.args.store.now
    { table = c.take_at-entry.new.self; clients = s })) c.clear_mark.ensures) _
    (ap (λ s. opened (record c.args.store.now { table = c.take_at-entry.new.self; clients = s })) c.end_borrow.ensures)

pub returns-clause-port : goal.returns-clause-port
returns-clause-port g c =
    port_then (opened c.args.store.now) c.requires.core c.args.number c.args.place _ c.take_at-entry.ensures.taken c.requires.kind _
    (ap (λ s. opened (record c.args.store.now { table = s })) c.take_at-entry.ensures.gone) _ c.server.ensures _ (seen_found server_part
    c.args.store.now.servers.ports (λ (x : ServerPart _). x.port.id == c.server.result) _ c.index_of-index.ensures) _ (seen_at
    server_part c.args.store.now.servers.ports c.index_of-index.result (λ (x : ServerPart _).
    c.receiver_of_port-receiver.result ≡ x.receiver) c.receiver_of_port-receiver.ensures) _ (ap (λ s. opened (record c.args.store.now
    { table = c.take_at-entry.new.self; clients = s })) c.clear_mark.ensures) _
    (ap (λ s. opened (record c.args.store.now { table = c.take_at-entry.new.self; clients = s })) c.end_borrow.ensures) _ (seen_at
    server_part c.args.store.now.servers.ports c.index_of-index.result (λ (x : ServerPart _). c.sender_of_port.result ≡ x.sender)
    c.sender_of_port.ensures)

pub returns-clause-gone : goal.returns-clause-gone
returns-clause-gone g c =
    gone_then (opened c.args.store.now) c.requires.core c.args.number c.args.place _ c.take_at-entry.ensures.taken c.requires.kind _
    (ap (λ s. opened (record c.args.store.now { table = s })) c.take_at-entry.ensures.gone) _ c.server.ensures _ (seen_found server_part
    c.args.store.now.servers.ports (λ (x : ServerPart _). x.port.id == c.server.result) _ c.index_of-index.ensures) _ (seen_at
    server_part c.args.store.now.servers.ports c.index_of-index.result (λ (x : ServerPart _).
    c.receiver_of_port-receiver.result ≡ x.receiver) c.receiver_of_port-receiver.ensures) _ (ap (λ s. opened (record c.args.store.now
    { table = c.take_at-entry.new.self; clients = s })) c.clear_mark.ensures) _
    (ap (λ s. opened (record c.args.store.now { table = c.take_at-entry.new.self; clients = s })) c.end_borrow.ensures) _ (seen_at
    server_part c.args.store.now.servers.ports c.index_of-index.result (λ (x : ServerPart _). c.sender_of_port.result ≡ x.sender)
    c.sender_of_port.ensures)
