use Rattle.std.proofs.Common.{◌≡◌, Some, arith}
use Rattle.std.specs.Prelude.{slice_get}
use Rattle.std.proofs.lemmas.List.{length-map}
use Rattle.rr_store.specs.Leaving.{is_client_used}
use Rattle.rr_store.specs.Opened.{opened}
use Rattle.rr_store.specs.Parts.{ClientPart}
use Rattle.rr_store.specs.Ports.{client_part}
use Rattle.rr_store.proofs.base.views.Counts.{listed}
use Rattle.rr_releasing.proofs.laws.leaving.Viewed.{told_seen}
use Rattle.rr_releasing.proofs.steps.UnusedClient.{its_sender_asked, left_then, receivers_asked, unused_asked, used_then}
use Rattle.rr_releasing.proofs.leaving.client.leave_client_if_unused.Goals.{After-is_client_used}
use Rattle.rr_releasing.proofs.leaving.client.leave_client_if_unused.Goals as goal

pub is_client_used-requires-clause-inside : goal.is_client_used-requires-clause-inside
is_client_used-requires-clause-inside g c = omega (arith, c.requires.index, length-map c.args.store.now.clients.ports client_part)

pub is_client_used-requires-clause-sender : goal.is_client_used-requires-clause-sender
is_client_used-requires-clause-sender g c x at =
    its_sender_asked (opened c.args.store.now) c.requires.sound c.args.index (client_part x)
    (listed client_part c.args.store.now.clients.ports c.args.index x at)

pub is_client_used-requires-clause-receivers : goal.is_client_used-requires-clause-receivers
is_client_used-requires-clause-receivers g c x at =
    receivers_asked (opened c.args.store.now) c.requires.sound c.args.index (client_part x)
    (listed client_part c.args.store.now.clients.ports c.args.index x at)

-- what is told of the port that is kept is told of the client
told : (g : _) (c : After-is_client_used g) (x : ClientPart _) → slice_get (opened c.args.store.now).clients c.args.index ≡ Some x
    → c.is_client_used.result ≡ is_client_used (opened c.args.store.now) x
told g c =
    told_seen client_part c.args.store.now.clients.ports c.args.index (λ x. c.is_client_used.result ≡ is_client_used (opened
    c.args.store.now) x)
    c.is_client_used.ensures.used

pub leave_client-requires-clause-unused : goal.leave_client-requires-clause-unused
leave_client-requires-clause-unused g c =
    unused_asked (opened c.args.store.now) c.requires.sound c.args.index c.requires.index _
    (told g (goal.at.leave_client-requires-clause-unused g c).After-is_client_used) c.if-not-is_client_used.true

pub returns-then-not-is_client_used-clause-view : goal.returns-then-not-is_client_used-clause-view
returns-then-not-is_client_used-clause-view g c =
    left_then (opened c.args.store.now) c.requires.sound c.args.index c.requires.index _
    (told g (goal.at.returns-then-not-is_client_used-clause-view g c).After-is_client_used) c.if-not-is_client_used.true
    (opened c.leave_client.new.store) c.leave_client.ensures.view

pub returns-else-not-is_client_used-clause-view : goal.returns-else-not-is_client_used-clause-view
returns-else-not-is_client_used-clause-view g c =
    used_then (opened c.args.store.now) c.requires.sound c.args.index c.requires.index _
    (told g (goal.at.returns-else-not-is_client_used-clause-view g c).After-is_client_used) c.if-not-is_client_used.false
