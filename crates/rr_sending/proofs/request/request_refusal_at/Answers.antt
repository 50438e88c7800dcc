use Rattle.std.proofs.Common.{refl}
use Rattle.std.specs.Prelude.{◌==◌}
use Rattle.rr_store.specs.Opened.{opened}
use Rattle.rr_store.specs.Parts.{ClientPart}
use Rattle.rr_store.specs.Ports.{client_part}
use Rattle.rr_store.specs.Views.{sender_of}
use Rattle.rr_store.proofs.base.lists.Seen.{kept_rising, kept_some}
use Rattle.rr_sending.proofs.steps.Request.{sender_asked, rising_asked, found_asked, queues_asked, refusal_told}
use Rattle.rr_sending.proofs.request.request_refusal_at.Goals as goal

pub open_connections-connections-requires-clause-sender : goal.open_connections-connections-requires-clause-sender
open_connections-connections-requires-clause-sender g c =
    sender_asked (opened c.args.store.now) c.requires.core c.args.number c.args.place c.at-entry.result c.at-entry.ensures c.requires.kind
    g.K.BackpressureFn.action

pub open_connections-connections-requires-clause-queues : goal.open_connections-connections-requires-clause-queues
open_connections-connections-requires-clause-queues g c =
    queues_asked (opened c.args.store.now) c.requires.core c.args.number c.args.place c.at-entry.result c.at-entry.ensures c.requires.kind
    g.K.BackpressureFn.action

pub request_send_limit-requires-clause-sender : goal.request_send_limit-requires-clause-sender
request_send_limit-requires-clause-sender g c =
    sender_asked (opened c.args.store.now) c.requires.core c.args.number c.args.place c.at-entry.result c.at-entry.ensures c.requires.kind
    g.K.BackpressureFn.action

pub request_send_limit-requires-clause-rising : goal.request_send_limit-requires-clause-rising
request_send_limit-requires-clause-rising g c =
    kept_rising client_part c.args.store.now.clients.ports (λ (c : ClientPart _). c.port.id)
    (rising_asked (opened c.args.store.now) c.requires.core c.args.number c.args.place c.at-entry.result c.at-entry.ensures
    c.requires.kind g.K.BackpressureFn.action)

pub request_send_limit-requires-clause-present : goal.request_send_limit-requires-clause-present
request_send_limit-requires-clause-present g c =
    kept_some client_part c.args.store.now.clients.ports
    (λ (x : ClientPart _). x.port.id == (sender_of c.at-entry.result.sender c.args.store.now.clients.senders).owner)
    (found_asked (opened c.args.store.now) c.requires.core c.args.number c.args.place c.at-entry.result c.at-entry.ensures
    c.requires.kind g.K.BackpressureFn.action)

pub request_send_limit-requires-clause-queues : goal.request_send_limit-requires-clause-queues
request_send_limit-requires-clause-queues g c =
    queues_asked (opened c.args.store.now) c.requires.core c.args.number c.args.place c.at-entry.result c.at-entry.ensures c.requires.kind
    g.K.BackpressureFn.action

pub returns : goal.returns
returns g c =
    refusal_told (opened c.args.store.now) c.requires.core c.args.number c.args.place c.at-entry.result c.at-entry.ensures c.requires.kind
    g.K.BackpressureFn.action c.args.store.now.clients.ports refl _ c.request_send_limit.ensures.many c.request_send_limit.ensures.few
