use Rattle.std.proofs.Common.{length, refl, ap, ◌∙◌}
use Rattle.rr_store.specs.Parts.{ClientPart, Parts}
use Rattle.rr_store.specs.Opened.{opened}
use Rattle.rr_store.specs.Ports.{client_part}
use Rattle.rr_store.proofs.base.lists.Seen.{seen_vacant}
use Rattle.rr_creating.proofs.steps.Alike.{shaped_again, shaped_alike}
use Rattle.rr_creating.proofs.steps.Client.{left_asked, core_again, core_then, ok_again, ok_then}
use Rattle.rr_creating.proofs.steps.Rooms.{as_many, one_more, then_ok}
use Rattle.rr_creating.proofs.client.insert_client.Goals as goal

pub append_client_again-requires-clause-left : goal.append_client_again-requires-clause-left
append_client_again-requires-clause-left g c =
    left_asked (opened c.args.store.now) c.requires.core c.args.settings c.requires.due c.requires.room c.in-Some.index c.in-Some.ensures

pub returns-in-Some-clause-core : goal.returns-in-Some-clause-core
returns-in-Some-clause-core g c =
    core_again (opened c.args.store.now) c.requires.core c.args.settings c.requires.due c.requires.room _ refl _
    c.worst_case_requests.ensures _
    c.pool_size-slots.ensures _ c.free_receiver-receiver.ensures.inside (seen_vacant client_part c.args.store.now.clients.ports
    (λ (x : ClientPart _). x.receiver) _ c.free_receiver-receiver.ensures.vacant) _
    c.in_ok-client.ensures.messages _ c.in_ok-client.ensures.marks _ c.in_ok-client.ensures.row c.in_ok-client.ensures.fits c.in-Some.index
    c.in-Some.ensures (opened c.append_client_again.new.store) c.append_client_again.result c.append_client_again.ensures.ok
    c.append_client_again.ensures.table
    c.append_client_again.ensures.err

pub returns-in-Some-clause-ok : goal.returns-in-Some-clause-ok
returns-in-Some-clause-ok g c =
    ok_again (opened c.args.store.now) c.requires.core c.args.settings c.requires.due c.requires.room _ refl _
    c.worst_case_requests.ensures _
    c.pool_size-slots.ensures _ c.free_receiver-receiver.ensures.inside (seen_vacant client_part c.args.store.now.clients.ports
    (λ (x : ClientPart _). x.receiver) _ c.free_receiver-receiver.ensures.vacant) _
    c.in_ok-client.ensures.messages _ c.in_ok-client.ensures.marks _ c.in_ok-client.ensures.row c.in_ok-client.ensures.fits c.in-Some.index
    c.in-Some.ensures (opened c.append_client_again.new.store) c.append_client_again.result c.append_client_again.ensures.ok
    c.append_client_again.ensures.table

pub returns-in-None-clause-core : goal.returns-in-None-clause-core
returns-in-None-clause-core g c =
    core_then (opened c.args.store.now) c.requires.core c.args.settings c.requires.due c.requires.room _ refl _
    c.worst_case_requests.ensures _
    c.pool_size-slots.ensures _ c.free_receiver-receiver.ensures.inside (seen_vacant client_part c.args.store.now.clients.ports
    (λ (x : ClientPart _). x.receiver) _ c.free_receiver-receiver.ensures.vacant) _
    c.in_ok-client.ensures.messages _ c.in_ok-client.ensures.marks _ c.in_ok-client.ensures.row c.in_ok-client.ensures.fits
    (opened c.append_client.new.store) c.append_client.result c.append_client.ensures.ok c.append_client.ensures.err

pub returns-in-None-clause-ok : goal.returns-in-None-clause-ok
returns-in-None-clause-ok g c =
    ok_then (opened c.args.store.now) c.requires.core c.args.settings c.requires.due c.requires.room _ refl _
    c.worst_case_requests.ensures _
    c.pool_size-slots.ensures _ c.free_receiver-receiver.ensures.inside (seen_vacant client_part c.args.store.now.clients.ports
    (λ (x : ClientPart _). x.receiver) _ c.free_receiver-receiver.ensures.vacant) _
    c.in_ok-client.ensures.messages _ c.in_ok-client.ensures.marks _ c.in_ok-client.ensures.row c.in_ok-client.ensures.fits
    (opened c.append_client.new.store) c.append_client.result c.append_client.ensures.ok

pub returns-in-Some-clause-senders : goal.returns-in-Some-clause-senders
returns-in-Some-clause-senders g c =
    let p = (opened c.args.store.now) in
    then_ok c.append_client_again.result
    (λ added. ap (λ (q : Parts _ _ _ _ _). length q.client_senders) added
    ∙ as_many p.client_senders p.left_clients c.in-Some.index _ _ c.in-Some.ensures) c.append_client_again.ensures.ok

pub returns-in-None-clause-senders : goal.returns-in-None-clause-senders
returns-in-None-clause-senders g c =
    let p = (opened c.args.store.now) in
    then_ok c.append_client.result
    (λ added. ap (λ (q : Parts _ _ _ _ _). length q.client_senders) added
    ∙ one_more p.client_senders p.left_clients _ c.in-None.ensures) c.append_client.ensures.ok

pub append_client-requires-clause-unsent : goal.append_client-requires-clause-unsent
append_client-requires-clause-unsent g c = c.in_ok-client.ensures.messages.queues

pub append_client-requires-clause-alike : goal.append_client-requires-clause-alike
append_client-requires-clause-alike g c =
    let l = c.args.store.now.limits in
    shaped_alike c.args.store.now.clients.senders l.max_servers 1 l.max_active_requests_per_client c.requires.core.sound.sized.client_senders

pub append_client_again-requires-clause-again : goal.append_client_again-requires-clause-again
append_client_again-requires-clause-again g c =
    let l = c.args.store.now.limits in
    shaped_again c.args.store.now.clients.senders l.max_servers 1 l.max_active_requests_per_client c.requires.core.sound.sized.client_senders _ _ _ _
    c.in_ok-client.ensures.messages
