use Rattle.std.proofs.Common.{length, refl, ap, ◌∙◌}
use Rattle.rr_store.specs.Parts.{ServerPart, Parts}
use Rattle.rr_store.specs.Opened.{opened}
use Rattle.rr_store.specs.Ports.{server_part}
use Rattle.rr_store.proofs.base.lists.Seen.{seen_vacant}
use Rattle.rr_protocol.specs.Limits.{worst_case_requests}
use Rattle.rr_creating.proofs.steps.Alike.{shaped_again, shaped_alike}
use Rattle.rr_creating.proofs.steps.Server.{next_asked, clients_asked, hub_asked, counts_asked, loans_asked, left_asked, core_again, core_then, ok_again, ok_then}
use Rattle.rr_creating.proofs.steps.Rooms.{as_many, one_more, then_ok}
use Rattle.rr_creating.proofs.server.insert_server.Goals as goal

pub worst_case_responses-requires-clause-hub : goal.worst_case_responses-requires-clause-hub
worst_case_responses-requires-clause-hub g c =
    hub_asked (opened c.args.store.now) c.requires.core c.args.settings c.requires.due c.requires.room _ refl

pub worst_case_responses-requires-clause-counts : goal.worst_case_responses-requires-clause-counts
worst_case_responses-requires-clause-counts g c =
    counts_asked (opened c.args.store.now) c.requires.core c.args.settings c.requires.due c.requires.room _ refl _ c.max-loans.ensures

pub server_messages-requires-clause-hub : goal.server_messages-requires-clause-hub
server_messages-requires-clause-hub g c =
    hub_asked (opened c.args.store.now) c.requires.core c.args.settings c.requires.due c.requires.room _ refl

pub append_server-requires-clause-clients : goal.append_server-requires-clause-clients
append_server-requires-clause-clients g c = clients_asked (opened c.args.store.now) c.requires.core c.args.settings c.requires.due
    c.requires.room

pub append_server-requires-clause-loans : goal.append_server-requires-clause-loans
append_server-requires-clause-loans g c =
    loans_asked (opened c.args.store.now) c.requires.core c.args.settings c.requires.due c.requires.room _ refl _ c.max-loans.ensures

pub append_server-requires-clause-next : goal.append_server-requires-clause-next
append_server-requires-clause-next g c = next_asked (opened c.args.store.now) c.requires.core c.args.settings c.requires.due c.requires.room

pub append_server_again-requires-clause-clients : goal.append_server_again-requires-clause-clients
append_server_again-requires-clause-clients g c = clients_asked (opened c.args.store.now) c.requires.core c.args.settings c.requires.due
    c.requires.room

pub append_server_again-requires-clause-loans : goal.append_server_again-requires-clause-loans
append_server_again-requires-clause-loans g c =
    loans_asked (opened c.args.store.now) c.requires.core c.args.settings c.requires.due c.requires.room _ refl _ c.max-loans.ensures

pub append_server_again-requires-clause-next : goal.append_server_again-requires-clause-next
append_server_again-requires-clause-next g c = next_asked (opened c.args.store.now) c.requires.core c.args.settings c.requires.due
    c.requires.room

pub append_server_again-requires-clause-left : goal.append_server_again-requires-clause-left
append_server_again-requires-clause-left g c =
    left_asked (opened c.args.store.now) c.requires.core c.args.settings c.requires.due c.requires.room c.in-Some.index c.in-Some.ensures

pub returns-in-Some-clause-core : goal.returns-in-Some-clause-core
returns-in-Some-clause-core g c =
    core_again (opened c.args.store.now) c.requires.core c.args.settings c.requires.due c.requires.room _ refl _ c.max-loans.ensures _
    c.worst_case_responses.ensures _ c.pool_size-slots.ensures _ c.free_receiver-receiver.ensures.inside
    (seen_vacant server_part c.args.store.now.servers.ports (λ (x : ServerPart _). x.receiver) _ c.free_receiver-receiver.ensures.vacant)
    _ c.in_ok-messages.ensures c.in-Some.index
    c.in-Some.ensures (opened c.append_server_again.new.store) c.append_server_again.result c.append_server_again.ensures.ok
    c.append_server_again.ensures.table
    c.append_server_again.ensures.err

pub returns-in-Some-clause-ok : goal.returns-in-Some-clause-ok
returns-in-Some-clause-ok g c =
    ok_again (opened c.args.store.now) c.requires.core c.args.settings c.requires.due c.requires.room _ refl _ c.max-loans.ensures _
    c.worst_case_responses.ensures _ c.pool_size-slots.ensures _ c.free_receiver-receiver.ensures.inside
    (seen_vacant server_part c.args.store.now.servers.ports (λ (x : ServerPart _). x.receiver) _ c.free_receiver-receiver.ensures.vacant)
    _ c.in_ok-messages.ensures c.in-Some.index
    c.in-Some.ensures (opened c.append_server_again.new.store) c.append_server_again.result c.append_server_again.ensures.ok
    c.append_server_again.ensures.table

pub returns-in-None-clause-core : goal.returns-in-None-clause-core
returns-in-None-clause-core g c =
    core_then (opened c.args.store.now) c.requires.core c.args.settings c.requires.due c.requires.room _ refl _ c.max-loans.ensures _
    c.worst_case_responses.ensures _ c.pool_size-slots.ensures _ c.free_receiver-receiver.ensures.inside
    (seen_vacant server_part c.args.store.now.servers.ports (λ (x : ServerPart _). x.receiver) _ c.free_receiver-receiver.ensures.vacant)
    _ c.in_ok-messages.ensures (opened c.append_server.new.store)
    c.append_server.result c.append_server.ensures.ok c.append_server.ensures.err

pub returns-in-None-clause-ok : goal.returns-in-None-clause-ok
returns-in-None-clause-ok g c =
    ok_then (opened c.args.store.now) c.requires.core c.args.settings c.requires.due c.requires.room _ refl _ c.max-loans.ensures _
    c.worst_case_responses.ensures _ c.pool_size-slots.ensures _ c.free_receiver-receiver.ensures.inside
    (seen_vacant server_part c.args.store.now.servers.ports (λ (x : ServerPart _). x.receiver) _ c.free_receiver-receiver.ensures.vacant)
    _ c.in_ok-messages.ensures (opened c.append_server.new.store)
    c.append_server.result c.append_server.ensures.ok

pub returns-in-Some-clause-senders : goal.returns-in-Some-clause-senders
returns-in-Some-clause-senders g c =
    let p = (opened c.args.store.now) in
    then_ok c.append_server_again.result
    (λ added. ap (λ (q : Parts _ _ _ _ _). length q.server_senders) added
    ∙ as_many p.server_senders p.left_servers c.in-Some.index _ _ c.in-Some.ensures) c.append_server_again.ensures.ok

pub returns-in-None-clause-senders : goal.returns-in-None-clause-senders
returns-in-None-clause-senders g c =
    let p = (opened c.args.store.now) in
    then_ok c.append_server.result
    (λ added. ap (λ (q : Parts _ _ _ _ _). length q.server_senders) added
    ∙ one_more p.server_senders p.left_servers _ c.in-None.ensures) c.append_server.ensures.ok

pub append_server-requires-clause-hub : goal.append_server-requires-clause-hub
append_server-requires-clause-hub g c = c.requires.core.sound.sized.limits_fit

pub append_server-requires-clause-unsent : goal.append_server-requires-clause-unsent
append_server-requires-clause-unsent g c = c.in_ok-messages.ensures.queues

pub append_server-requires-clause-alike : goal.append_server-requires-clause-alike
append_server-requires-clause-alike g c =
    let l = c.args.store.now.limits in
    shaped_alike c.args.store.now.servers.senders l.max_clients (worst_case_requests l) l.max_response_buffer_size
    c.requires.core.sound.sized.server_senders

pub append_server_again-requires-clause-again : goal.append_server_again-requires-clause-again
append_server_again-requires-clause-again g c =
    let l = c.args.store.now.limits in
    shaped_again c.args.store.now.servers.senders l.max_clients (worst_case_requests l) l.max_response_buffer_size
    c.requires.core.sound.sized.server_senders _ _ _ _ c.in_ok-messages.ensures
