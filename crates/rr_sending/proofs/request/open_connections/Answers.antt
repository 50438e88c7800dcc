use Rattle.std.proofs.Common.{sym, ap, ◌∙◌}
use Rattle.std.specs.Prelude.{count_by, not}
use Rattle.rr_table.proofs.Counting.{count-map}
use Rattle.rr_sender.specs.Senders.{Messages}
use Rattle.rr_store.specs.Changes.{is_open_to}
use Rattle.rr_store.specs.Opened.{opened}
use Rattle.rr_store.specs.Ports.{server_part}
use Rattle.rr_store.specs.Sending.{HasQueues, is_blocked_at}
use Rattle.rr_store.specs.Views.{sender_of}
use Rattle.rr_sending.proofs.laws.request.Stored.{queues_seen}
use Rattle.rr_sending.proofs.request.open_connections.Goals.{After-messages-messages}
use Rattle.rr_sending.proofs.request.open_connections.Goals as goal

-- each queue is there
queues : (g : _) (c : After-messages-messages g) → HasQueues c.messages-messages.result.now c.connected-servers.result.now
queues g c =
    queues_seen c.args.store.now.servers.ports c.connected-servers.result.now c.connected-servers.ensures
    (sender_of c.args.sender c.args.store.now.clients.senders).messages _ c.messages-messages.ensures c.requires.queues

pub open_count-requires-clause-inside : goal.open_count-requires-clause-inside
open_count-requires-clause-inside g c i s at = (queues g (goal.at.open_count-requires-clause-inside g c).After-messages-messages i s at).0

pub open_count-requires-clause-channels : goal.open_count-requires-clause-channels
open_count-requires-clause-channels g c i s at = (queues g (goal.at.open_count-requires-clause-channels g c).After-messages-messages i s
    at).1

pub returns : goal.returns
returns g c =
    let p = opened c.args.store.now in
    c.open_count.ensures
    ∙ ap (λ (m : Messages _ _ _). count_by (λ s. not (is_blocked_at p.limits.enable_safe_overflow_for_requests m s.port.receiver))
    c.connected-servers.result.now) c.messages-messages.ensures
    ∙ ap (count_by (λ s. is_open_to p c.args.sender (server_part s))) c.connected-servers.ensures
    ∙ sym (count-map server_part (is_open_to p c.args.sender) c.args.store.now.servers.ports)
