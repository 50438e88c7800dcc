use Rattle.std.specs.Prelude.{◌==◌}
use Rattle.rr_store.specs.Views.{sender_of}
use Rattle.rr_store.specs.Opened.{opened}
use Rattle.rr_store.specs.Parts.{ServerPart}
use Rattle.rr_store.specs.Ports.{server_part}
use Rattle.rr_store.proofs.base.lists.Seen.{kept_rising, kept_some, seen_found}
use Rattle.rr_releasing.proofs.steps.UnusedServer.{found_asked, index_asked, left_by, rising_asked, sender_asked}
use Rattle.rr_releasing.proofs.leaving.server.leave_server_without_value.Goals as goal

pub index_of_sender-index-requires-clause-sender : goal.index_of_sender-index-requires-clause-sender
index_of_sender-index-requires-clause-sender g c = sender_asked (opened c.args.store.now) c.requires.sound c.args.sender c.requires.port

pub index_of_sender-index-requires-clause-rising : goal.index_of_sender-index-requires-clause-rising
index_of_sender-index-requires-clause-rising g c =
    kept_rising server_part c.args.store.now.servers.ports (λ (x : ServerPart _). x.port.id) (rising_asked (opened c.args.store.now)
    c.requires.sound c.args.sender c.requires.port)

pub index_of_sender-index-requires-clause-present : goal.index_of_sender-index-requires-clause-present
index_of_sender-index-requires-clause-present g c =
    kept_some server_part c.args.store.now.servers.ports (λ (x : ServerPart _). x.port.id == (sender_of c.args.sender
    c.args.store.now.servers.senders).owner) (found_asked (opened c.args.store.now) c.requires.sound c.args.sender c.requires.port)

pub leave_server_if_unused-requires-clause-index : goal.leave_server_if_unused-requires-clause-index
leave_server_if_unused-requires-clause-index g c = index_asked (opened c.args.store.now) c.requires.sound c.args.sender c.requires.port _
    (seen_found server_part c.args.store.now.servers.ports (λ (x : ServerPart _). x.port.id == (sender_of c.args.sender
    c.args.store.now.servers.senders).owner) _ c.index_of_sender-index.ensures)

pub returns-clause-view : goal.returns-clause-view
returns-clause-view g c =
    left_by (opened c.args.store.now) c.requires.sound c.args.sender c.requires.port _ (seen_found server_part
    c.args.store.now.servers.ports (λ (x : ServerPart _). x.port.id == (sender_of c.args.sender c.args.store.now.servers.senders).owner)
    _ c.index_of_sender-index.ensures)
    (opened c.leave_server_if_unused.new.store) c.leave_server_if_unused.ensures.view
