use Rattle.std.proofs.Common.{◌≡◌, length, map, refl, ap, ◌∙◌, arith}
use Rattle.std.specs.Prelude.{◌==◌}
use Rattle.std.proofs.lemmas.List.{length-map}
use Rattle.rr_store.specs.Changes.{with_request_queued}
use Rattle.rr_store.specs.Opened.{opened}
use Rattle.rr_store.specs.Parts.{ClientPart}
use Rattle.rr_store.specs.Ports.{client_part, server_part}
use Rattle.rr_store.specs.Sending.{after_queued}
use Rattle.rr_store.specs.Sides.{with_sender}
use Rattle.rr_store.specs.Views.{sender_of}
use Rattle.rr_store.proofs.base.lists.Seen.{kept_rising, kept_some}
use Rattle.rr_sending.proofs.laws.request.Stored.{has_queues, has_marks}
use Rattle.rr_sending.proofs.steps.Request.{sender_asked, rising_asked, found_asked, queues_asked, loan_asked, refused, sender_kept, queues_kept, takes_kept, marks_kept, sender_still, loan_counted, pendings_fit, sends, core_then}
use Rattle.rr_sending.proofs.request.send_request_at.Goals.{After-queue}
use Rattle.rr_sending.proofs.request.send_request_at.Goals as goal

pub open_connections-connections-requires-clause-sender : goal.open_connections-connections-requires-clause-sender
open_connections-connections-requires-clause-sender g c =
    sender_asked (opened c.args.store.now) c.requires.core c.args.number c.args.place c.at-entry.result c.at-entry.ensures c.requires.kind
    g.K.BackpressureFn.action

pub open_connections-connections-requires-clause-queues : goal.open_connections-connections-requires-clause-queues
open_connections-connections-requires-clause-queues g c =
    queues_asked (opened c.args.store.now) c.requires.core c.args.number c.args.place c.at-entry.result c.at-entry.ensures c.requires.kind
    g.K.BackpressureFn.action

pub request_send_limit-requires-clause-sender : goal.request_send_limit-requires-clause-sender
request_send_limit-requires-clause-sender g c =
    sender_asked (opened c.args.store.now) c.requires.core c.args.number c.args.place c.at-entry.result c.at-entry.ensures c.requires.kind
    g.K.BackpressureFn.action

pub request_send_limit-requires-clause-rising : goal.request_send_limit-requires-clause-rising
request_send_limit-requires-clause-rising g c =
    kept_rising client_part c.args.store.now.clients.ports (λ (c : ClientPart _). c.port.id)
    (rising_asked (opened c.args.store.now) c.requires.core c.args.number c.args.place c.at-entry.result c.at-entry.ensures
    c.requires.kind g.K.BackpressureFn.action)

pub request_send_limit-requires-clause-present : goal.request_send_limit-requires-clause-present
request_send_limit-requires-clause-present g c =
    kept_some client_part c.args.store.now.clients.ports
    (λ (x : ClientPart _). x.port.id == (sender_of c.at-entry.result.sender c.args.store.now.clients.senders).owner)
    (found_asked (opened c.args.store.now) c.requires.core c.args.number c.args.place c.at-entry.result c.at-entry.ensures
    c.requires.kind g.K.BackpressureFn.action)

pub request_send_limit-requires-clause-queues : goal.request_send_limit-requires-clause-queues
request_send_limit-requires-clause-queues g c =
    queues_asked (opened c.args.store.now) c.requires.core c.args.number c.args.place c.at-entry.result c.at-entry.ensures c.requires.kind
    g.K.BackpressureFn.action

pub release_request_at-requires-clause-at : goal.release_request_at-requires-clause-at
release_request_at-requires-clause-at g c =
    (c.at-entry.result, c.at-entry.ensures)

pub release_request_at-requires-clause-kind : goal.release_request_at-requires-clause-kind
release_request_at-requires-clause-kind g c =
    loan_asked (opened c.args.store.now) c.requires.core c.args.number c.args.place c.at-entry.result c.at-entry.ensures c.requires.kind
    g.K.BackpressureFn.action

pub returns-in-Some-clause-sends : goal.returns-in-Some-clause-sends
returns-in-Some-clause-sends g c =
    refused (opened c.args.store.now) c.requires.core c.args.number c.args.place c.at-entry.result c.at-entry.ensures c.requires.kind
    g.K.BackpressureFn.action c.args.store.now.clients.ports refl _ c.request_send_limit.ensures.many
    c.request_send_limit.ensures.few c.in-Some.refusal c.in-Some.is (opened c.release_request_at.new.store)
    c.release_request_at.ensures.view

pub set_at-requires : goal.set_at-requires
set_at-requires g c = (c.at-entry.result, c.at-entry.ensures)

pub queue-requires-clause-sender : goal.queue-requires-clause-sender
queue-requires-clause-sender g c =
    sender_kept (opened c.args.store.now) c.requires.core c.args.number c.args.place c.at-entry.result c.at-entry.ensures c.requires.kind
    g.K.BackpressureFn.action _ c.open_connections-connections.ensures _
    (ap (λ s. opened (record c.args.store.now { table = s })) c.set_at.ensures)

pub queue-requires-clause-queues : goal.queue-requires-clause-queues
queue-requires-clause-queues g c =
    has_queues c.args.store.now.servers.ports c.connected-servers.result.now c.connected-servers.ensures
    (sender_of c.at-entry.result.sender c.args.store.now.clients.senders).messages
    (queues_kept (opened c.args.store.now) c.requires.core c.args.number c.args.place c.at-entry.result c.at-entry.ensures c.requires.kind
    g.K.BackpressureFn.action _ c.open_connections-connections.ensures _
    (ap (λ s. opened (record c.args.store.now { table = s })) c.set_at.ensures))

pub queue-requires-clause-takes : goal.queue-requires-clause-takes
queue-requires-clause-takes g c =
    let h = takes_kept (opened c.args.store.now) c.requires.core c.args.number c.args.place c.at-entry.result c.at-entry.ensures c.requires.kind
    g.K.BackpressureFn.action _ c.open_connections-connections.ensures _
    (ap (λ s. opened (record c.args.store.now { table = s })) c.set_at.ensures) in
    (h.0, h.1, omega (arith, h.2, length-map c.args.store.now.servers.ports server_part, ap length c.connected-servers.ensures))

pub queue-requires-clause-marks : goal.queue-requires-clause-marks
queue-requires-clause-marks g c =
    has_marks c.args.store.now.servers.ports c.connected-servers.result.now c.connected-servers.ensures
    (sender_of c.at-entry.result.sender c.args.store.now.clients.senders).may_answer c.at-entry.result.slot
    c.args.store.now.limits.max_servers (marks_kept (opened c.args.store.now) c.requires.core c.args.number c.args.place c.at-entry.result
    c.at-entry.ensures c.requires.kind
    g.K.BackpressureFn.action _ c.open_connections-connections.ensures _
    (ap (λ s. opened (record c.args.store.now { table = s })) c.set_at.ensures))

-- the parts once each queue has the request
queued : (g : _) (c : After-queue g) → opened (record c.args.store.now { table = c.set_at.new.self; clients = c.queue.new.self })
    ≡ with_request_queued (opened (record c.args.store.now { table = c.set_at.new.self })) c.at-entry.result.sender c.at-entry.result.slot
queued g c =
    let s = c.args.store.now in
    let entry = c.at-entry.result in
    ap (λ x. opened (record s { table = c.set_at.new.self; clients = x })) (c.queue.ensures
    ∙ ap (λ servers. with_sender s.clients entry.sender
    (after_queued s.limits.enable_safe_overflow_for_requests s.limits.max_servers entry.slot (map server_part servers)))
    c.connected-servers.ensures)

pub count_as_sent-requires-clause-sender : goal.count_as_sent-requires-clause-sender
count_as_sent-requires-clause-sender g c =
    sender_still (opened c.args.store.now) c.requires.core c.args.number c.args.place c.at-entry.result c.at-entry.ensures c.requires.kind
    g.K.BackpressureFn.action _ c.open_connections-connections.ensures _
    (ap (λ s. opened (record c.args.store.now { table = s })) c.set_at.ensures) _ (queued g (goal.at.count_as_sent-requires-clause-sender g c).After-queue)

pub count_as_sent-requires-clause-loaned : goal.count_as_sent-requires-clause-loaned
count_as_sent-requires-clause-loaned g c =
    loan_counted (opened c.args.store.now) c.requires.core c.args.number c.args.place c.at-entry.result c.at-entry.ensures c.requires.kind
    g.K.BackpressureFn.action _ c.open_connections-connections.ensures _
    (ap (λ s. opened (record c.args.store.now { table = s })) c.set_at.ensures) _ (queued g (goal.at.count_as_sent-requires-clause-loaned g c).After-queue)

pub count_as_sent-requires-clause-fits : goal.count_as_sent-requires-clause-fits
count_as_sent-requires-clause-fits g c =
    pendings_fit (opened c.args.store.now) c.requires.core c.args.number c.args.place c.at-entry.result c.at-entry.ensures c.requires.kind
    g.K.BackpressureFn.action _ c.open_connections-connections.ensures _
    (ap (λ s. opened (record c.args.store.now { table = s })) c.set_at.ensures) _ (queued g (goal.at.count_as_sent-requires-clause-fits g c).After-queue)

pub returns-clause-core : goal.returns-clause-core
returns-clause-core g c =
    core_then (opened c.args.store.now) c.requires.core c.args.number c.args.place c.at-entry.result c.at-entry.ensures c.requires.kind
    g.K.BackpressureFn.action _ c.open_connections-connections.ensures _
    (ap (λ s. opened (record c.args.store.now { table = s })) c.set_at.ensures) _ (queued g (goal.at.returns-clause-core g c).After-queue)
    c.args.store.now.clients.ports refl _ c.request_send_limit.ensures.many
    c.request_send_limit.ensures.few c.in_default.is _
    (ap (λ s. opened (record c.args.store.now { table = c.set_at.new.self; clients = s })) c.count_as_sent.ensures)

pub returns-clause-sends : goal.returns-clause-sends
returns-clause-sends g c =
    sends (opened c.args.store.now) c.requires.core c.args.number c.args.place c.at-entry.result c.at-entry.ensures c.requires.kind
    g.K.BackpressureFn.action _ c.open_connections-connections.ensures _
    (ap (λ s. opened (record c.args.store.now { table = s })) c.set_at.ensures) _ (queued g (goal.at.returns-clause-sends g c).After-queue)
    c.args.store.now.clients.ports refl _ c.request_send_limit.ensures.many
    c.request_send_limit.ensures.few c.in_default.is _
    (ap (λ s. opened (record c.args.store.now { table = c.set_at.new.self; clients = s })) c.count_as_sent.ensures)
