use Rattle.std.proofs.Common.{refl}
use Rattle.std.specs.Prelude.{◌==◌}
use Rattle.rr_store.specs.Opened.{opened}
use Rattle.rr_store.specs.Parts.{ServerPart}
use Rattle.rr_store.specs.Ports.{server_part}
use Rattle.rr_store.specs.Views.{no_response, sender_of}
use Rattle.rr_store.proofs.base.lists.Seen.{kept_rising, kept_some}
use Rattle.rr_sending.proofs.steps.Response.{sender_asked, slot_asked, rising_asked, found_asked, queue_asked, refusal_told}
use Rattle.rr_sending.proofs.response.is_response_refused_at.Goals as goal

pub details-details-requires-clause-sender : goal.details-details-requires-clause-sender
details-details-requires-clause-sender g c =
    sender_asked (opened c.args.store.now) c.requires.core c.args.number c.args.place c.at-entry.result c.at-entry.ensures c.requires.kind
    g.K.BackpressureFn.action

pub details-details-requires-clause-slot : goal.details-details-requires-clause-slot
details-details-requires-clause-slot g c =
    slot_asked (opened c.args.store.now) c.requires.core c.args.number c.args.place c.at-entry.result c.at-entry.ensures c.requires.kind
    g.K.BackpressureFn.action

pub is_response_refused-requires-clause-sender : goal.is_response_refused-requires-clause-sender
is_response_refused-requires-clause-sender g c =
    sender_asked (opened c.args.store.now) c.requires.core c.args.number c.args.place c.at-entry.result c.at-entry.ensures c.requires.kind
    g.K.BackpressureFn.action

pub is_response_refused-requires-clause-rising : goal.is_response_refused-requires-clause-rising
is_response_refused-requires-clause-rising g c =
    kept_rising server_part c.args.store.now.servers.ports (λ (s : ServerPart _). s.port.id)
    (rising_asked (opened c.args.store.now) c.requires.core c.args.number c.args.place c.at-entry.result c.at-entry.ensures
    c.requires.kind g.K.BackpressureFn.action)

pub is_response_refused-requires-clause-present : goal.is_response_refused-requires-clause-present
is_response_refused-requires-clause-present g c =
    kept_some server_part c.args.store.now.servers.ports
    (λ (s : ServerPart _). s.port.id == (sender_of c.at-entry.result.sender c.args.store.now.servers.senders).owner)
    (found_asked (opened c.args.store.now) c.requires.core c.args.number c.args.place c.at-entry.result c.at-entry.ensures
    c.requires.kind g.K.BackpressureFn.action)

pub is_response_refused-requires-clause-queue : goal.is_response_refused-requires-clause-queue
is_response_refused-requires-clause-queue g c =
    queue_asked (opened c.args.store.now) c.requires.core c.args.number c.args.place c.at-entry.result c.at-entry.ensures c.requires.kind
    g.K.BackpressureFn.action _ (c.details-details.ensures no_response) _ c.reached_receiver-reach.ensures

pub returns : goal.returns
returns g c =
    refusal_told (opened c.args.store.now) c.requires.core c.args.number c.args.place c.at-entry.result c.at-entry.ensures c.requires.kind
    g.K.BackpressureFn.action _ (c.details-details.ensures no_response) _ c.reached_receiver-reach.ensures
    c.args.store.now.servers.ports refl _ c.is_response_refused.ensures.refused
