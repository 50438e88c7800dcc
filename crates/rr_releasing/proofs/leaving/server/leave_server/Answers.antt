use Rattle.std.proofs.Common.{map, refl, ap, sym, subst, ◌≡◌, ◌<◌, length}
use Rattle.std.specs.Prelude.{IsSomeAnd, slice_get}
use Rattle.std.proofs.lemmas.List.{length-map}
use Rattle.rr_store.specs.Leaving.{leaving_server}
use Rattle.rr_store.specs.Opened.{opened}
use Rattle.rr_store.specs.Parts.{ClientPart, ServerPart}
use Rattle.rr_store.specs.Ports.{client_part, server_part}
use Rattle.rr_releasing.proofs.laws.leaving.Viewed.{apart_seen, drained_seen, element_seen}
use Rattle.rr_releasing.proofs.laws.leaving.Opened.{removed_server}
use Rattle.rr_store.proofs.base.lists.Seen.{seen_at}
use Rattle.rr_releasing.proofs.steps.Server.{clients_apart, left_there, queues_to_clients, room_left}
use Rattle.rr_releasing.proofs.steps.ServerLeaves.{leaving_asked, queues_asked, sound_then, view_then}
use Rattle.rr_releasing.proofs.leaving.server.leave_server.Goals as goal

pub expire-requires-clause-queues : goal.expire-requires-clause-queues
expire-requires-clause-queues g c i p at = queues_to_clients (opened c.args.store.now) c.requires.sound i (client_part p)
    (element_seen client_part (λ (x : ClientPart _). x.receiver) c.connected.result.now c.args.store.now.clients.ports
    c.connected.ensures i p at)

pub expire-requires-clause-ports : goal.expire-requires-clause-ports
expire-requires-clause-ports g c =
    apart_seen client_part (λ (x : ClientPart _). x.receiver) c.connected.result.now c.args.store.now.clients.ports c.connected.ensures
    (clients_apart (opened c.args.store.now) c.requires.sound)

pub expire-requires-clause-left : goal.expire-requires-clause-left
expire-requires-clause-left g c = left_there (opened c.args.store.now) c.requires.sound

pub expire-requires-clause-leaving : goal.expire-requires-clause-leaving
expire-requires-clause-leaving g c = leaving_asked (opened c.args.store.now) c.requires.sound c.args.index c.requires.unused _ (seen_at
    server_part c.args.store.now.servers.ports c.args.index (λ (x : ServerPart _). c.leaving-leaving.result ≡ leaving_server x)
    c.leaving-leaving.ensures)

pub expire-requires-clause-apart : goal.expire-requires-clause-apart
expire-requires-clause-apart g c = c.requires.sound.have_ports.left_servers.once

pub clear_for-requires : goal.clear_for-requires
clear_for-requires g c =
    queues_asked (opened c.args.store.now) c.requires.sound c.args.index c.requires.unused _ (seen_at server_part
    c.args.store.now.servers.ports c.args.index (λ (x : ServerPart _). c.leaving-leaving.result ≡ leaving_server x)
    c.leaving-leaving.ensures) _ (seen_at server_part c.args.store.now.servers.ports c.args.index (λ (x : ServerPart _).
    c.receiver_of_port-receiver.result ≡ x.receiver) c.receiver_of_port-receiver.ensures) _
    refl _ (ap (λ s. opened (record c.args.store.now { servers = s })) c.expire.ensures.rest) (drained_seen client_part
    (λ (x : ClientPart _). x.receiver) c.connected.result.now c.args.store.now.clients.ports c.connected.ensures
    c.args.store.now.servers.senders c.expire.new.self.senders c.args.store.now.servers.left c.args.store.now.servers.left refl
    c.leaving-leaving.result c.args.store.now.limits.client_expired_connection_buffer c.expire.ensures.drained)

pub remove_port-requires-clause-index : goal.remove_port-requires-clause-index
remove_port-requires-clause-index g c =
    subst (λ s. c.args.index < length s.ports) (sym c.expire.ensures.rest)
    (subst (λ n. c.args.index < n) (length-map c.args.store.now.servers.ports server_part) c.requires.index)

pub remove_port-requires-clause-room : goal.remove_port-requires-clause-room
remove_port-requires-clause-room g c =
    subst (λ s. length s.left < s.room) (sym c.expire.ensures.rest)
    (room_left (opened c.args.store.now) c.requires.sound c.args.index c.requires.index)

pub returns-clause-sound : goal.returns-clause-sound
returns-clause-sound g c =
    sound_then (opened c.args.store.now) c.requires.sound c.args.index c.requires.unused _ (seen_at server_part
    c.args.store.now.servers.ports c.args.index (λ (x : ServerPart _). c.leaving-leaving.result ≡ leaving_server x)
    c.leaving-leaving.ensures) _ (seen_at server_part c.args.store.now.servers.ports c.args.index (λ (x : ServerPart _).
    c.receiver_of_port-receiver.result ≡ x.receiver) c.receiver_of_port-receiver.ensures) _
    refl _ (ap (λ s. opened (record c.args.store.now { servers = s })) c.expire.ensures.rest) (drained_seen client_part
    (λ (x : ClientPart _). x.receiver) c.connected.result.now c.args.store.now.clients.ports c.connected.ensures
    c.args.store.now.servers.senders c.expire.new.self.senders c.args.store.now.servers.left c.args.store.now.servers.left refl
    c.leaving-leaving.result c.args.store.now.limits.client_expired_connection_buffer c.expire.ensures.drained) _
    (ap (λ s. opened (record c.args.store.now { servers = c.expire.new.self; clients = s })) c.clear_for.ensures.rest)
    c.clear_for.ensures.drained _ (removed_server (record c.args.store.now
    { servers = c.expire.new.self; clients = c.clear_for.new.self }) c.args.index c.leaving-leaving.result
    c.remove_port.new.self (subst (λ ports. IsSomeAnd (slice_get (map server_part ports) c.args.index) (λ (x : ServerPart _).
    c.leaving-leaving.result ≡ leaving_server x))
    (sym (ap (λ s. s.ports) c.expire.ensures.rest))
    (seen_at server_part c.args.store.now.servers.ports c.args.index (λ (x : ServerPart _). c.leaving-leaving.result ≡ leaving_server x)
    c.leaving-leaving.ensures)) c.remove_port.ensures)

pub returns-clause-view : goal.returns-clause-view
returns-clause-view g c =
    view_then (opened c.args.store.now) c.requires.sound c.args.index c.requires.unused _ (seen_at server_part
    c.args.store.now.servers.ports c.args.index (λ (x : ServerPart _). c.leaving-leaving.result ≡ leaving_server x)
    c.leaving-leaving.ensures) _ (seen_at server_part c.args.store.now.servers.ports c.args.index (λ (x : ServerPart _).
    c.receiver_of_port-receiver.result ≡ x.receiver) c.receiver_of_port-receiver.ensures) _
    refl _ (ap (λ s. opened (record c.args.store.now { servers = s })) c.expire.ensures.rest) (drained_seen client_part
    (λ (x : ClientPart _). x.receiver) c.connected.result.now c.args.store.now.clients.ports c.connected.ensures
    c.args.store.now.servers.senders c.expire.new.self.senders c.args.store.now.servers.left c.args.store.now.servers.left refl
    c.leaving-leaving.result c.args.store.now.limits.client_expired_connection_buffer c.expire.ensures.drained) _
    (ap (λ s. opened (record c.args.store.now { servers = c.expire.new.self; clients = s })) c.clear_for.ensures.rest)
    c.clear_for.ensures.drained _ (removed_server (record c.args.store.now
    { servers = c.expire.new.self; clients = c.clear_for.new.self }) c.args.index c.leaving-leaving.result
    c.remove_port.new.self (subst (λ ports. IsSomeAnd (slice_get (map server_part ports) c.args.index) (λ (x : ServerPart _).
    c.leaving-leaving.result ≡ leaving_server x))
    (sym (ap (λ s. s.ports) c.expire.ensures.rest))
    (seen_at server_part c.args.store.now.servers.ports c.args.index (λ (x : ServerPart _). c.leaving-leaving.result ≡ leaving_server x)
    c.leaving-leaving.ensures)) c.remove_port.ensures)
