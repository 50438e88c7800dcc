use Rattle.std.proofs.Common.{◌<◌, length}
use Rattle.std.specs.Prelude.{◌==◌}
use Rattle.rr_store.specs.Opened.{opened}
use Rattle.rr_store.specs.Parts.{ClientPart}
use Rattle.rr_store.specs.Ports.{client_part}
use Rattle.rr_releasing.proofs.laws.leaving.Opened.{valueless_client}
use Rattle.rr_store.proofs.base.lists.Seen.{kept_at, kept_rising, kept_some, seen_found}
use Rattle.rr_releasing.proofs.steps.ClientValue.{found_asked, gone_then, its_sender_asked, named_then, order_asked, sound_then}
use Rattle.rr_releasing.proofs.client.end_client_value.Goals as goal

pub index_of-index-requires-clause-rising : goal.index_of-index-requires-clause-rising
index_of-index-requires-clause-rising g c =
    kept_rising client_part c.args.store.now.clients.ports (λ (x : ClientPart _). x.port.id) (order_asked (opened c.args.store.now)
    c.requires.core c.args.client c.requires.kind)

pub index_of-index-requires-clause-present : goal.index_of-index-requires-clause-present
index_of-index-requires-clause-present g c =
    kept_some client_part c.args.store.now.clients.ports (λ (x : ClientPart _). x.port.id == c.args.client) (found_asked (opened
    c.args.store.now) c.requires.core c.args.client c.requires.kind)

pub end_value-requires-clause-sender : goal.end_value-requires-clause-sender
end_value-requires-clause-sender g c =
    kept_at client_part c.args.store.now.clients.ports c.index_of-index.result (λ (x : ClientPart _). x.sender < length
    c.args.store.now.clients.senders) (its_sender_asked (opened c.args.store.now) c.requires.core c.args.client c.requires.kind _
    (seen_found client_part c.args.store.now.clients.ports (λ (x : ClientPart _). x.port.id == c.args.client) _ c.index_of-index.ensures))

pub returns-clause-sound : goal.returns-clause-sound
returns-clause-sound g c = sound_then (opened c.args.store.now) c.requires.core c.args.client c.requires.kind _ (seen_found client_part
    c.args.store.now.clients.ports (λ (x : ClientPart _). x.port.id == c.args.client) _ c.index_of-index.ensures) _
    (valueless_client c.args.store.now c.index_of-index.result c.end_value.new.self c.end_value.ensures)

pub returns-clause-named : goal.returns-clause-named
returns-clause-named g c = named_then (opened c.args.store.now) c.requires.core c.args.client c.requires.kind _ (seen_found client_part
    c.args.store.now.clients.ports (λ (x : ClientPart _). x.port.id == c.args.client) _ c.index_of-index.ensures) _
    (valueless_client c.args.store.now c.index_of-index.result c.end_value.new.self c.end_value.ensures)

pub returns-clause-gone : goal.returns-clause-gone
returns-clause-gone g c = gone_then (opened c.args.store.now) c.requires.core c.args.client c.requires.kind _ (seen_found client_part
    c.args.store.now.clients.ports (λ (x : ClientPart _). x.port.id == c.args.client) _ c.index_of-index.ensures) _
    (valueless_client c.args.store.now c.index_of-index.result c.end_value.new.self c.end_value.ensures)
