use Rattle.std.proofs.Common.{◌<◌, length}
use Rattle.std.specs.Prelude.{◌==◌}
use Rattle.rr_store.specs.Opened.{opened}
use Rattle.rr_store.specs.Parts.{ServerPart}
use Rattle.rr_store.specs.Ports.{server_part}
use Rattle.rr_releasing.proofs.laws.leaving.Opened.{valueless_server}
use Rattle.rr_store.proofs.base.lists.Seen.{kept_at, kept_rising, kept_some, seen_found}
use Rattle.rr_releasing.proofs.steps.ServerValue.{found_asked, gone_then, its_sender_asked, named_then, order_asked, sound_then}
use Rattle.rr_releasing.proofs.server.end_server_value.Goals as goal

pub index_of-index-requires-clause-rising : goal.index_of-index-requires-clause-rising
index_of-index-requires-clause-rising g c =
    kept_rising server_part c.args.store.now.servers.ports (λ (x : ServerPart _). x.port.id) (order_asked (opened c.args.store.now)
    c.requires.core c.args.server c.requires.kind)

pub index_of-index-requires-clause-present : goal.index_of-index-requires-clause-present
index_of-index-requires-clause-present g c =
    kept_some server_part c.args.store.now.servers.ports (λ (x : ServerPart _). x.port.id == c.args.server) (found_asked (opened
    c.args.store.now) c.requires.core c.args.server c.requires.kind)

pub end_value-requires-clause-sender : goal.end_value-requires-clause-sender
end_value-requires-clause-sender g c =
    kept_at server_part c.args.store.now.servers.ports c.index_of-index.result (λ (x : ServerPart _). x.sender < length
    c.args.store.now.servers.senders) (its_sender_asked (opened c.args.store.now) c.requires.core c.args.server c.requires.kind _
    (seen_found server_part c.args.store.now.servers.ports (λ (x : ServerPart _). x.port.id == c.args.server) _ c.index_of-index.ensures))

pub returns-clause-sound : goal.returns-clause-sound
returns-clause-sound g c = sound_then (opened c.args.store.now) c.requires.core c.args.server c.requires.kind _ (seen_found server_part
    c.args.store.now.servers.ports (λ (x : ServerPart _). x.port.id == c.args.server) _ c.index_of-index.ensures) _
    (valueless_server c.args.store.now c.index_of-index.result c.end_value.new.self c.end_value.ensures)

pub returns-clause-named : goal.returns-clause-named
returns-clause-named g c = named_then (opened c.args.store.now) c.requires.core c.args.server c.requires.kind _ (seen_found server_part
    c.args.store.now.servers.ports (λ (x : ServerPart _). x.port.id == c.args.server) _ c.index_of-index.ensures) _
    (valueless_server c.args.store.now c.index_of-index.result c.end_value.new.self c.end_value.ensures)

pub returns-clause-gone : goal.returns-clause-gone
returns-clause-gone g c = gone_then (opened c.args.store.now) c.requires.core c.args.server c.requires.kind _ (seen_found server_part
    c.args.store.now.servers.ports (λ (x : ServerPart _). x.port.id == c.args.server) _ c.index_of-index.ensures) _
    (valueless_server c.args.store.now c.index_of-index.result c.end_value.new.self c.end_value.ensures)
