use Rattle.std.proofs.Common.{◌≡◌, ℕ, Bool, cond, None, Some, length, refl, sym, ap, ◌∙◌, arith}
use Rattle.std.specs.Prelude.{◌==◌, ◌&&◌, count_by, not, slice_get}
use Rattle.std.specs.List.{list_any, position}
use Rattle.std.proofs.lemmas.List.{length-map}
use Rattle.rr_sender.specs.Senders.{Messages}
use Rattle.rr_protocol.specs.Backpressure.{discards}
use Rattle.rr_protocol.specs.declared.error.RequestSendError.TheVariants as limit
use Rattle.rr_protocol.specs.declared.error.SendError.TheVariants as send
use Rattle.rr_store.specs.declared.port.ClientPort.{ClientPort}
use Rattle.rr_store.specs.Changes.{is_closed_to, is_open_to}
use Rattle.rr_store.specs.Opened.{opened}
use Rattle.rr_store.specs.Parts.{ServerPart}
use Rattle.rr_store.specs.Ports.{client_part, server_part}
use Rattle.rr_store.specs.Sending.{HasQueues, is_refused_at}
use Rattle.rr_store.specs.Views.{sender_of}
use Rattle.rr_store.proofs.base.senders.Ports.{found_within}
use Rattle.rr_sending.proofs.laws.request.Stored.{all_fail, any_is, none_and, one_found, queues_seen}
use Rattle.rr_sending.proofs.request.request_send_limit.Goals.{After-messages-messages, After-is_refused}
use Rattle.rr_sending.proofs.request.request_send_limit.Goals as goal

pub returns-then-store-pendings-clause-many : goal.returns-then-store-pendings-clause-many
returns-then-store-pendings-clause-many g c more = refl

-- the client's pending responses are as many as it may have, or fewer
pub returns-then-store-pendings-clause-few : goal.returns-then-store-pendings-clause-few
returns-then-store-pendings-clause-few g c i x found at fewer =
    absurd (omega (arith, fewer, c.pendings.ensures, c.if-store-pendings.true))

-- where each queue takes one more, none refuses
pub returns-then-connections-servers-clause-few : goal.returns-then-connections-servers-clause-few
returns-then-connections-servers-clause-few g c i x found at fewer =
    let p = opened c.args.store.now in
    let ports = c.args.store.now.servers.ports in
    let all : count_by (is_open_to p c.args.sender) p.servers ≡ length p.servers =
    sym c.requires.connections ∙ c.if-connections-servers.true ∙ ap length c.connected-servers.ensures ∙ sym (length-map ports
    server_part) in
    sym (ap (λ b. cond b (Some (limit.SendError send.UnableToDeliver)) None)
    (none_and (is_closed_to p c.args.sender) (λ s. not (discards g.K.BackpressureFn.action (client_part x).port s.port.id)) p.servers
    (all_fail (is_closed_to p c.args.sender) p.servers all)))

pub returns-then-connections-servers-clause-many : goal.returns-then-connections-servers-clause-many
returns-then-connections-servers-clause-many g c more = absurd (omega (arith, more, c.pendings.ensures, c.if-store-pendings.false))

pub index_of_sender-requires-clause-sender : goal.index_of_sender-requires-clause-sender
index_of_sender-requires-clause-sender g c = c.requires.sender

pub index_of_sender-requires-clause-rising : goal.index_of_sender-requires-clause-rising
index_of_sender-requires-clause-rising g c = c.requires.rising

pub index_of_sender-requires-clause-present : goal.index_of_sender-requires-clause-present
index_of_sender-requires-clause-present g c = c.requires.present

pub port-client-requires : goal.port-client-requires
port-client-requires g c =
    found_within (λ (x : ClientPort _). x.port.id == (sender_of c.args.sender c.args.store.now.clients.senders).owner)
    c.args.store.now.clients.ports c.index_of_sender.result c.index_of_sender.ensures

-- each queue is there
queues : (g : _) (c : After-messages-messages g) → HasQueues c.messages-messages.result.now c.connected-servers.result.now
queues g c =
    queues_seen c.args.store.now.servers.ports c.connected-servers.result.now c.connected-servers.ensures
    (sender_of c.args.sender c.args.store.now.clients.senders).messages _ c.messages-messages.ensures c.requires.queues

pub is_refused-requires-clause-inside : goal.is_refused-requires-clause-inside
is_refused-requires-clause-inside g c i s at = (queues g (goal.at.is_refused-requires-clause-inside g c).After-messages-messages i s at).0

pub is_refused-requires-clause-channels : goal.is_refused-requires-clause-channels
is_refused-requires-clause-channels g c i s at = (queues g (goal.at.is_refused-requires-clause-channels g c).After-messages-messages i s
    at).1

-- what was found of the queues is so in the parts, of the client that is found
refused : (g : _) (c : After-is_refused g) (i : ℕ) (x : ClientPort _)
    → position (λ (x : ClientPort _). x.port.id == (sender_of c.args.sender c.args.store.now.clients.senders).owner)
    c.args.store.now.clients.ports ≡ Some i
    → slice_get c.args.store.now.clients.ports i ≡ Some x
    → c.is_refused.result ≡ list_any (λ s. is_closed_to (opened c.args.store.now) c.args.sender s
    && not (discards g.K.BackpressureFn.action (client_part x).port s.port.id)) (opened c.args.store.now).servers
refused g c i x found at =
    let p = opened c.args.store.now in
    let overflow = p.limits.enable_safe_overflow_for_requests in
    let test : ClientPort _ → ServerPart _ → Bool =
    λ x s. is_closed_to p c.args.sender s && not (discards g.K.BackpressureFn.action (client_part x).port s.port.id) in
    let client = c.port-client.result.now in
    let slice = c.connected-servers.result.now in
    c.is_refused.ensures
    ∙ ap (λ (m : Messages _ _ _). list_any (λ s. is_refused_at g.K.BackpressureFn.action (client_part client).port overflow m s) slice)
    c.messages-messages.ensures
    ∙ any_is c.args.store.now.servers.ports slice c.connected-servers.ensures (test client)
    ∙ ap (λ x. list_any (test x) p.servers)
    (one_found c.args.store.now.clients.ports _ c.index_of_sender.result i client x c.index_of_sender.ensures found c.port-client.ensures
    at)

pub returns-then-is_refused-clause-few : goal.returns-then-is_refused-clause-few
returns-then-is_refused-clause-few g c i x found at fewer =
    ap (λ b. cond b (Some (limit.SendError send.UnableToDeliver)) None)
    (sym c.if-is_refused.true ∙ refused g (goal.at.returns-then-is_refused-clause-few g c).After-is_refused i x found at)

pub returns-clause-few : goal.returns-clause-few
returns-clause-few g c i x found at fewer =
    ap (λ b. cond b (Some (limit.SendError send.UnableToDeliver)) None)
    (sym c.if-is_refused.false ∙ refused g (goal.at.returns-clause-few g c).After-is_refused i x found at)

pub returns-then-is_refused-clause-many : goal.returns-then-is_refused-clause-many
returns-then-is_refused-clause-many g c more = absurd (omega (arith, more, c.pendings.ensures, c.if-store-pendings.false))

pub returns-clause-many : goal.returns-clause-many
returns-clause-many g c more = absurd (omega (arith, more, c.pendings.ensures, c.if-store-pendings.false))
