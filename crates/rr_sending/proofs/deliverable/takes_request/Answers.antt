use Rattle.std.proofs.Common.{ap, ◌∙◌}
use Rattle.std.specs.Prelude.{not}
use Rattle.std.specs.List.{list_any}
use Rattle.rr_sender.specs.Senders.{Messages}
use Rattle.rr_store.specs.Changes.{is_closed_to}
use Rattle.rr_store.specs.Opened.{opened}
use Rattle.rr_store.specs.Sending.{HasQueues, is_blocked_at}
use Rattle.rr_store.specs.Views.{sender_of}
use Rattle.rr_sending.proofs.laws.request.Stored.{any_is, queues_seen}
use Rattle.rr_sending.proofs.deliverable.takes_request.Goals.{After-connected}
use Rattle.rr_sending.proofs.deliverable.takes_request.Goals as goal

-- each queue is there
queues : (g : _) (c : After-connected g) → HasQueues c.messages-messages.result.now c.connected.result.now
queues g c =
    queues_seen c.args.store.now.servers.ports c.connected.result.now c.connected.ensures
    (sender_of c.args.sender c.args.store.now.clients.senders).messages _ c.messages-messages.ensures c.requires.queues

pub is_any_blocked-requires-clause-inside : goal.is_any_blocked-requires-clause-inside
is_any_blocked-requires-clause-inside g c i s at = (queues g (goal.at.is_any_blocked-requires-clause-inside g c).After-connected i s at).0

pub is_any_blocked-requires-clause-channels : goal.is_any_blocked-requires-clause-channels
is_any_blocked-requires-clause-channels g c i s at = (queues g (goal.at.is_any_blocked-requires-clause-channels g c).After-connected i s
    at).1

pub returns : goal.returns
returns g c =
    let p = opened c.args.store.now in
    let slice = c.connected.result.now in
    let overflow = p.limits.enable_safe_overflow_for_requests in
    ap not (c.is_any_blocked.ensures
    ∙ ap (λ (m : Messages _ _ _). list_any (λ s. is_blocked_at overflow m s.port.receiver) slice) c.messages-messages.ensures
    ∙ any_is c.args.store.now.servers.ports slice c.connected.ensures (is_closed_to p c.args.sender))
