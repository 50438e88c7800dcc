use Rattle.std.proofs.Common.{◌≡◌, ◌<◌, ◌+◌, ◌^◌, length, map, refl, sym, ap, ◌∙◌, inl, arith}
use Rattle.std.specs.Prelude.{◌==◌}
use Rattle.std.proofs.lemmas.List.{length-map}
use Rattle.rr_protocol.specs.declared.error.LoanError.{LoanError}
use Rattle.rr_laws.proofs.Memory.{request_finds_memory}
use Rattle.rr_store.specs.Changes.{with_request_queued}
use Rattle.rr_store.specs.Opened.{opened}
use Rattle.rr_store.specs.Parts.{ClientPart}
use Rattle.rr_store.specs.Ports.{client_part, server_part}
use Rattle.rr_store.specs.Sending.{after_queued}
use Rattle.rr_store.specs.Sides.{with_sender}
use Rattle.rr_store.specs.Views.{sender_of}
use Rattle.rr_store.proofs.base.lists.Seen.{kept_at, kept_rising, kept_some, seen_at, seen_found}
use Rattle.rr_loaning.proofs.laws.Opened.{loaned_by}
use Rattle.rr_loaning.proofs.steps.Request as loaning
use Rattle.rr_sending.proofs.laws.request.Stored.{has_marks, has_queues}
use Rattle.rr_hub.proofs.laws.RequestSteps.{Begun, Lent, addable, asks_some, begun_by, client_counts, counted_is, counted_parts}
use Rattle.rr_hub.proofs.laws.RequestSteps.{loans_fit, owner_there, queues_there, sender_lent, sender_written, slot_lent, there}
use Rattle.rr_hub.proofs.laws.RequestSends as sends
use Rattle.rr_hub.proofs.at_once.request.send_request_at_once.Goals.{After-count_request_loan, After-queue, After-sender_of_port-sender, In-Ok}
use Rattle.rr_hub.proofs.at_once.request.send_request_at_once.Goals as goal

pub index_of-index-requires-clause-rising : goal.index_of-index-requires-clause-rising
index_of-index-requires-clause-rising g c =
    kept_rising client_part c.args.store.now.clients.ports (λ (x : ClientPart _). x.port.id)
    (loaning.order_asked (opened c.args.store.now) c.requires.core c.args.client c.requires.kind)

pub index_of-index-requires-clause-present : goal.index_of-index-requires-clause-present
index_of-index-requires-clause-present g c =
    kept_some client_part c.args.store.now.clients.ports (λ (x : ClientPart _). x.port.id == c.args.client)
    (loaning.client_asked (opened c.args.store.now) c.requires.core c.args.client c.requires.kind)

pub request_loan_limit-requires-clause-sender : goal.request_loan_limit-requires-clause-sender
request_loan_limit-requires-clause-sender g c =
    kept_at client_part c.args.store.now.clients.ports c.index_of-index.result (λ (x : ClientPart _). x.sender < length c.args.store.now.clients.senders)
    (loaning.limit_asked (opened c.args.store.now) c.requires.core c.args.client c.requires.kind _
    (seen_found client_part c.args.store.now.clients.ports (λ (x : ClientPart _). x.port.id == c.args.client) _ c.index_of-index.ensures))

pub returns-in-Some-clause-sends : goal.returns-in-Some-clause-sends
returns-in-Some-clause-sends g c =
    let told = seen_found client_part c.args.store.now.clients.ports (λ (x : ClientPart _). x.port.id == c.args.client) _ c.index_of-index.ensures in
    inl (
      c.in-Some.refusal,
      refl,
      loaning.refused (opened c.args.store.now) c.requires.core c.args.client c.requires.kind _ told _ _ c.request_loan_limit.ensures
          g.QH.Default.is_default c.in-Some.refusal c.in-Some.is,
      λ pool. loaning.not_memory (opened c.args.store.now) c.requires.core c.args.client c.requires.kind _ told _ _ c.request_loan_limit.ensures
          c.in-Some.refusal c.in-Some.is,
    )

-- what is known before the loan
abbrev begun : (g : _) (c : After-sender_of_port-sender g) → Begun (opened c.args.store.now) c.args.client
begun g c =
    begun_by c.args.store.now c.args.client c.requires.core c.requires.kind c.requires.number c.index_of-index.result c.index_of-index.ensures
    c.request_loan_limit.result c.request_loan_limit.ensures c.in_default.is c.sender_of_port-sender.result c.sender_of_port-sender.ensures

-- and after it
abbrev lent : (g : _) (c : In-Ok g) → (b : Begun (opened c.args.store.now) c.args.client) × Lent (opened c.args.store.now) c.args.client b
lent g c = (
  begun_by c.args.store.now c.args.client c.requires.core c.requires.kind c.requires.number c.index_of-index.result c.index_of-index.ensures
      c.request_loan_limit.result c.request_loan_limit.ensures c.in_default.is c.sender_of_port-sender.result c.sender_of_port-sender.ensures,
  record {
    details = c.new_request_details-details.result;
    are = c.new_request_details-details.ensures;
    header = c.default.result;
    place = c.in-Ok.place;
    row = c.in-Ok.ensures.row;
    free = c.in-Ok.ensures.free;
    unused = c.in-Ok.ensures.unused;
    full = c.in-Ok.ensures.full;
  },
)

-- and once it is counted
abbrev counted : (g : _) (c : After-count_request_loan g) → (b : Begun (opened c.args.store.now) c.args.client)
    × (e : Lent (opened c.args.store.now) c.args.client b)
    × (opened (record c.args.store.now { clients = c.count_request_loan.new.self }) ≡ counted_parts (opened c.args.store.now) c.args.client b e c.args.element)
counted g c =
    let b = begun_by c.args.store.now c.args.client c.requires.core c.requires.kind c.requires.number c.index_of-index.result c.index_of-index.ensures
    c.request_loan_limit.result c.request_loan_limit.ensures c.in_default.is c.sender_of_port-sender.result c.sender_of_port-sender.ensures in
    let e : Lent (opened c.args.store.now) c.args.client b = record {
      details = c.new_request_details-details.result;
      are = c.new_request_details-details.ensures;
      header = c.default.result;
      place = c.in-Ok.place;
      row = c.in-Ok.ensures.row;
      free = c.in-Ok.ensures.free;
      unused = c.in-Ok.ensures.unused;
      full = c.in-Ok.ensures.full;
    } in (
      b,
      e,
      counted_is (opened c.args.store.now) c.args.client b e c.args.element
          _ (ap (λ s. opened (record c.args.store.now { clients = s })) c.in-Ok.ensures.ok)
          _ (ap (λ s. opened (record c.args.store.now { clients = s })) c.write.ensures)
          _ (loaned_by (record c.args.store.now { clients = c.write.new.self }) c.index_of-index.result c.sender_of_port-sender.result
          c.count_request_loan.new.self c.count_request_loan.ensures),
    )

pub open_connections-connections-requires-clause-sender : goal.open_connections-connections-requires-clause-sender
open_connections-connections-requires-clause-sender g c =
    there (opened c.args.store.now) c.args.client (begun g c)

pub open_connections-connections-requires-clause-queues : goal.open_connections-connections-requires-clause-queues
open_connections-connections-requires-clause-queues g c =
    queues_there (opened c.args.store.now) c.args.client (begun g c)

pub request_send_limit-requires-clause-sender : goal.request_send_limit-requires-clause-sender
request_send_limit-requires-clause-sender g c =
    there (opened c.args.store.now) c.args.client (begun g (goal.at.request_send_limit-requires-clause-sender g c).After-sender_of_port-sender)

pub request_send_limit-requires-clause-rising : goal.request_send_limit-requires-clause-rising
request_send_limit-requires-clause-rising g c =
    kept_rising client_part c.args.store.now.clients.ports (λ (x : ClientPart _). x.port.id)
    (loaning.order_asked (opened c.args.store.now) c.requires.core c.args.client c.requires.kind)

pub request_send_limit-requires-clause-present : goal.request_send_limit-requires-clause-present
request_send_limit-requires-clause-present g c =
    kept_some client_part c.args.store.now.clients.ports
    (λ (x : ClientPart _). x.port.id == (sender_of c.sender_of_port-sender.result c.args.store.now.clients.senders).owner)
    (owner_there (opened c.args.store.now) c.args.client (begun g (goal.at.request_send_limit-requires-clause-present g c).After-sender_of_port-sender))

pub request_send_limit-requires-clause-queues : goal.request_send_limit-requires-clause-queues
request_send_limit-requires-clause-queues g c =
    queues_there (opened c.args.store.now) c.args.client (begun g (goal.at.request_send_limit-requires-clause-queues g c).After-sender_of_port-sender)

pub loan-requires-clause-sender : goal.loan-requires-clause-sender
loan-requires-clause-sender g c =
    there (opened c.args.store.now) c.args.client (begun g (goal.at.loan-requires-clause-sender g c).After-sender_of_port-sender)

pub write-requires-clause-sender : goal.write-requires-clause-sender
write-requires-clause-sender g c =
    let o = lent g (goal.at.write-requires-clause-sender g c).In-Ok in
    sender_lent (opened c.args.store.now) c.args.client o.0 o.1 c.args.element
    _ (ap (λ s. opened (record c.args.store.now { clients = s })) c.in-Ok.ensures.ok)

pub write-requires-clause-slot : goal.write-requires-clause-slot
write-requires-clause-slot g c =
    let o = lent g (goal.at.write-requires-clause-slot g c).In-Ok in
    slot_lent (opened c.args.store.now) c.args.client o.0 o.1 c.args.element
    _ (ap (λ s. opened (record c.args.store.now { clients = s })) c.in-Ok.ensures.ok)

pub write-requires-clause-asked : goal.write-requires-clause-asked
write-requires-clause-asked g c =
    let o = lent g (goal.at.write-requires-clause-asked g c).In-Ok in
    asks_some (opened c.args.store.now) c.args.client o.0 o.1 c.args.element
    _ (ap (λ s. opened (record c.args.store.now { clients = s })) c.in-Ok.ensures.ok)

pub count_request_loan-requires-clause-client : goal.count_request_loan-requires-clause-client
count_request_loan-requires-clause-client g c =
    let o = lent g (goal.at.count_request_loan-requires-clause-client g c).In-Ok in
    kept_at client_part c.write.new.self.ports c.index_of-index.result (λ (x : ClientPart _). x.loans_made + 1 < 2 ^ 64)
    (client_counts (opened c.args.store.now) c.args.client o.0 o.1 c.args.element
    _ (ap (λ s. opened (record c.args.store.now { clients = s })) c.in-Ok.ensures.ok)
    _ (ap (λ s. opened (record c.args.store.now { clients = s })) c.write.ensures))

pub count_request_loan-requires-clause-sender : goal.count_request_loan-requires-clause-sender
count_request_loan-requires-clause-sender g c =
    let o = lent g (goal.at.count_request_loan-requires-clause-sender g c).In-Ok in
    sender_written (opened c.args.store.now) c.args.client o.0 o.1 c.args.element
    _ (ap (λ s. opened (record c.args.store.now { clients = s })) c.in-Ok.ensures.ok)
    _ (ap (λ s. opened (record c.args.store.now { clients = s })) c.write.ensures)

pub count_request_loan-requires-clause-fits : goal.count_request_loan-requires-clause-fits
count_request_loan-requires-clause-fits g c =
    let o = lent g (goal.at.count_request_loan-requires-clause-fits g c).In-Ok in
    loans_fit (opened c.args.store.now) c.args.client o.0 o.1 c.args.element
    _ (ap (λ s. opened (record c.args.store.now { clients = s })) c.in-Ok.ensures.ok)
    _ (ap (λ s. opened (record c.args.store.now { clients = s })) c.write.ensures)

pub add-number-requires-clause-vacant : goal.add-number-requires-clause-vacant
add-number-requires-clause-vacant g c =
    let o = lent g (goal.at.add-number-requires-clause-vacant g c).In-Ok in
    (addable (opened c.args.store.now) c.args.client o.0 o.1 c.args.element).0

pub add-number-requires-clause-number : goal.add-number-requires-clause-number
add-number-requires-clause-number g c =
    let o = lent g (goal.at.add-number-requires-clause-number g c).In-Ok in
    (addable (opened c.args.store.now) c.args.client o.0 o.1 c.args.element).1

pub queue-requires-clause-sender : goal.queue-requires-clause-sender
queue-requires-clause-sender g c =
    let o = counted g (goal.at.queue-requires-clause-sender g c).After-count_request_loan in
    sends.sender_added (opened c.args.store.now) c.args.client o.0 o.1 c.args.element g.QH.Default.is_default c.default.ensures
    g.K.BackpressureFn.action c.open_connections-connections.result c.open_connections-connections.ensures _ o.2 (opened c.add-number.new.self) c.add-number.ensures.added

pub queue-requires-clause-queues : goal.queue-requires-clause-queues
queue-requires-clause-queues g c =
    let o = counted g (goal.at.queue-requires-clause-queues g c).After-count_request_loan in
    has_queues c.add-number.new.self.servers.ports c.connected-servers.result.now c.connected-servers.ensures
    (sender_of c.sender_of_port-sender.result c.add-number.new.self.clients.senders).messages
    (sends.queues_added (opened c.args.store.now) c.args.client o.0 o.1 c.args.element g.QH.Default.is_default c.default.ensures
    g.K.BackpressureFn.action c.open_connections-connections.result c.open_connections-connections.ensures _ o.2 (opened c.add-number.new.self) c.add-number.ensures.added)

pub queue-requires-clause-takes : goal.queue-requires-clause-takes
queue-requires-clause-takes g c =
    let o = counted g (goal.at.queue-requires-clause-takes g c).After-count_request_loan in
    let h = sends.takes_added (opened c.args.store.now) c.args.client o.0 o.1 c.args.element g.QH.Default.is_default c.default.ensures
    g.K.BackpressureFn.action c.open_connections-connections.result c.open_connections-connections.ensures _ o.2 (opened c.add-number.new.self) c.add-number.ensures.added in
    (h.0, h.1, omega (arith, h.2, length-map c.add-number.new.self.servers.ports server_part, ap length c.connected-servers.ensures))

pub queue-requires-clause-marks : goal.queue-requires-clause-marks
queue-requires-clause-marks g c =
    let o = counted g (goal.at.queue-requires-clause-marks g c).After-count_request_loan in
    has_marks c.add-number.new.self.servers.ports c.connected-servers.result.now c.connected-servers.ensures
    (sender_of c.sender_of_port-sender.result c.add-number.new.self.clients.senders).may_answer c.in-Ok.place.index
    c.add-number.new.self.limits.max_servers (sends.marks_added (opened c.args.store.now) c.args.client o.0 o.1 c.args.element g.QH.Default.is_default c.default.ensures
    g.K.BackpressureFn.action c.open_connections-connections.result c.open_connections-connections.ensures _ o.2 (opened c.add-number.new.self) c.add-number.ensures.added)

-- the parts once each queue has the request
queued : (g : _) (c : After-queue g) → opened (record c.add-number.new.self { clients = c.queue.new.self })
    ≡ with_request_queued (opened c.add-number.new.self) c.sender_of_port-sender.result c.in-Ok.place.index
queued g c =
    let s = c.add-number.new.self in
    ap (λ x. opened (record s { clients = x })) (c.queue.ensures
    ∙ ap (λ servers. with_sender s.clients c.sender_of_port-sender.result
    (after_queued s.limits.enable_safe_overflow_for_requests s.limits.max_servers c.in-Ok.place.index (map server_part servers)))
    c.connected-servers.ensures)

pub count_as_sent-requires-clause-sender : goal.count_as_sent-requires-clause-sender
count_as_sent-requires-clause-sender g c =
    let o = counted g (goal.at.count_as_sent-requires-clause-sender g c).After-count_request_loan in
    sends.sender_queued (opened c.args.store.now) c.args.client o.0 o.1 c.args.element g.QH.Default.is_default c.default.ensures
    g.K.BackpressureFn.action c.open_connections-connections.result c.open_connections-connections.ensures _ o.2 (opened c.add-number.new.self) c.add-number.ensures.added
    _ (queued g (goal.at.count_as_sent-requires-clause-sender g c).After-queue)

pub count_as_sent-requires-clause-loaned : goal.count_as_sent-requires-clause-loaned
count_as_sent-requires-clause-loaned g c =
    let o = counted g (goal.at.count_as_sent-requires-clause-loaned g c).After-count_request_loan in
    sends.loan_queued (opened c.args.store.now) c.args.client o.0 o.1 c.args.element g.QH.Default.is_default c.default.ensures
    g.K.BackpressureFn.action c.open_connections-connections.result c.open_connections-connections.ensures _ o.2 (opened c.add-number.new.self) c.add-number.ensures.added
    _ (queued g (goal.at.count_as_sent-requires-clause-loaned g c).After-queue)

pub count_as_sent-requires-clause-fits : goal.count_as_sent-requires-clause-fits
count_as_sent-requires-clause-fits g c =
    let o = counted g (goal.at.count_as_sent-requires-clause-fits g c).After-count_request_loan in
    sends.pendings_queued (opened c.args.store.now) c.args.client o.0 o.1 c.args.element g.QH.Default.is_default c.default.ensures
    g.K.BackpressureFn.action c.open_connections-connections.result c.open_connections-connections.ensures _ o.2 (opened c.add-number.new.self) c.add-number.ensures.added
    _ (queued g (goal.at.count_as_sent-requires-clause-fits g c).After-queue)

pub returns-in-Ok-clause-core : goal.returns-in-Ok-clause-core
returns-in-Ok-clause-core g c =
    let o = counted g (goal.at.returns-in-Ok-clause-core g c).After-count_request_loan in
    sends.core_then (opened c.args.store.now) c.args.client o.0 o.1 c.args.element g.QH.Default.is_default c.default.ensures
    g.K.BackpressureFn.action c.open_connections-connections.result c.open_connections-connections.ensures _ o.2 (opened c.add-number.new.self) c.add-number.ensures.added
    _ (queued g (goal.at.returns-in-Ok-clause-core g c).After-queue)
    c.args.store.now.clients.ports refl c.request_send_limit.result c.request_send_limit.ensures.many c.request_send_limit.ensures.few
    (sends.nothing c.request_send_limit.result (sym c.is_some.ensures ∙ c.if-is_some.false))
    _ (ap (λ s. opened (record c.add-number.new.self { clients = s })) c.count_as_sent.ensures)

pub returns-in-Ok-clause-sends : goal.returns-in-Ok-clause-sends
returns-in-Ok-clause-sends g c =
    let o = counted g (goal.at.returns-in-Ok-clause-sends g c).After-count_request_loan in
    sends.sends_at_once (opened c.args.store.now) c.args.client o.0 o.1 c.args.element g.QH.Default.is_default c.default.ensures
    g.K.BackpressureFn.action c.open_connections-connections.result c.open_connections-connections.ensures _ o.2 (opened c.add-number.new.self) c.add-number.ensures.added
    _ (queued g (goal.at.returns-in-Ok-clause-sends g c).After-queue)
    c.args.store.now.clients.ports refl c.request_send_limit.result c.request_send_limit.ensures.many c.request_send_limit.ensures.few
    (sends.nothing c.request_send_limit.result (sym c.is_some.ensures ∙ c.if-is_some.false))
    _ (ap (λ s. opened (record c.add-number.new.self { clients = s })) c.count_as_sent.ensures)
    c.new.result (c.new.ensures ∙ c.add-number.ensures.number)

pub returns-in-Err-clause-core : goal.returns-in-Err-clause-core
returns-in-Err-clause-core g c =
    rw (ap (λ s. opened (record c.args.store.now { clients = s })) c.in-Err.ensures.err) c.requires.core

pub returns-in-Err-clause-sends : goal.returns-in-Err-clause-sends
returns-in-Err-clause-sends g c =
    let told = seen_found client_part c.args.store.now.clients.ports (λ (x : ClientPart _). x.port.id == c.args.client) _ c.index_of-index.ensures in
    let refused = loaning.out_of_memory (opened c.args.store.now) c.requires.core c.args.client c.requires.kind _ told _ _ c.request_loan_limit.ensures
    c.in_default.is _ (seen_at client_part c.args.store.now.clients.ports c.index_of-index.result
    (λ (x : ClientPart _). c.sender_of_port-sender.result ≡ x.sender) c.sender_of_port-sender.ensures) g.QH.Default.is_default c.in-Err.field-0 _
    c.in-Err.ensures.full c.in-Err.ensures.no_room (ap (λ s. opened (record c.args.store.now { clients = s })) c.in-Err.ensures.err) in
    inl (
      LoanError.OutOfMemory,
      refl,
      refused,
      λ pool same. request_finds_memory _ c.requires.core.reached g.QH.Default.is_default c.args.client 1 _ pool refused,
    )
