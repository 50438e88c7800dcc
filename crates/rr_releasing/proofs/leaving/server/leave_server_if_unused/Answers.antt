use Rattle.std.proofs.Common.{◌≡◌, Some, arith}
use Rattle.std.specs.Prelude.{slice_get}
use Rattle.std.proofs.lemmas.List.{length-map}
use Rattle.rr_store.specs.Leaving.{is_server_used}
use Rattle.rr_store.specs.Opened.{opened}
use Rattle.rr_store.specs.Parts.{ServerPart}
use Rattle.rr_store.specs.Ports.{server_part}
use Rattle.rr_store.proofs.base.views.Counts.{listed}
use Rattle.rr_releasing.proofs.laws.leaving.Viewed.{told_seen}
use Rattle.rr_releasing.proofs.steps.UnusedServer.{its_sender_asked, left_then, receivers_asked, unused_asked, used_then}
use Rattle.rr_releasing.proofs.leaving.server.leave_server_if_unused.Goals.{After-is_server_used}
use Rattle.rr_releasing.proofs.leaving.server.leave_server_if_unused.Goals as goal

pub is_server_used-requires-clause-inside : goal.is_server_used-requires-clause-inside
is_server_used-requires-clause-inside g c = omega (arith, c.requires.index, length-map c.args.store.now.servers.ports server_part)

pub is_server_used-requires-clause-sender : goal.is_server_used-requires-clause-sender
is_server_used-requires-clause-sender g c x at =
    its_sender_asked (opened c.args.store.now) c.requires.sound c.args.index (server_part x)
    (listed server_part c.args.store.now.servers.ports c.args.index x at)

pub is_server_used-requires-clause-receivers : goal.is_server_used-requires-clause-receivers
is_server_used-requires-clause-receivers g c x at =
    receivers_asked (opened c.args.store.now) c.requires.sound c.args.index (server_part x)
    (listed server_part c.args.store.now.servers.ports c.args.index x at)

-- what is told of the port that is kept is told of the server
told : (g : _) (c : After-is_server_used g) (x : ServerPart _) → slice_get (opened c.args.store.now).servers c.args.index ≡ Some x
    → c.is_server_used.result ≡ is_server_used (opened c.args.store.now) x
told g c =
    told_seen server_part c.args.store.now.servers.ports c.args.index (λ x. c.is_server_used.result ≡ is_server_used (opened
    c.args.store.now) x)
    c.is_server_used.ensures.used

pub leave_server-requires-clause-unused : goal.leave_server-requires-clause-unused
leave_server-requires-clause-unused g c =
    unused_asked (opened c.args.store.now) c.requires.sound c.args.index c.requires.index _
    (told g (goal.at.leave_server-requires-clause-unused g c).After-is_server_used) c.if-not-is_server_used.true

pub returns-then-not-is_server_used-clause-view : goal.returns-then-not-is_server_used-clause-view
returns-then-not-is_server_used-clause-view g c =
    left_then (opened c.args.store.now) c.requires.sound c.args.index c.requires.index _
    (told g (goal.at.returns-then-not-is_server_used-clause-view g c).After-is_server_used) c.if-not-is_server_used.true
    (opened c.leave_server.new.store) c.leave_server.ensures.view

pub returns-else-not-is_server_used-clause-view : goal.returns-else-not-is_server_used-clause-view
returns-else-not-is_server_used-clause-view g c =
    used_then (opened c.args.store.now) c.requires.sound c.args.index c.requires.index _
    (told g (goal.at.returns-else-not-is_server_used-clause-view g c).After-is_server_used) c.if-not-is_server_used.false
