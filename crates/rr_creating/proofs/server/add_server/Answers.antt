use Rattle.std.proofs.Common.{◌≡◌, ap}
use Rattle.rr_protocol.specs.Creation.{with_server}
use Rattle.rr_store.specs.Views.{state_of}
use Rattle.rr_store.specs.Opened.{opened}
use Rattle.rr_creating.proofs.steps.Rooms.{server_room_core, server_room_view, err_after, in_any_case, ok_after}
use Rattle.rr_creating.proofs.server.add_server.Goals as goal

pub returns-in_err-reserve_left-clause-core : goal.returns-in_err-reserve_left-clause-core
returns-in_err-reserve_left-clause-core g c =
    server_room_core (opened c.args.store.now) c.requires.core (opened (record c.args.store.now { servers = c.reserve_left.new.self }))
    (ap (λ s. opened (record c.args.store.now { servers = s })) c.reserve_left.ensures.rest) c.reserve_left.ensures.more

pub returns-in_err-reserve_left-clause-err : goal.returns-in_err-reserve_left-clause-err
returns-in_err-reserve_left-clause-err g c =
    in_any_case (state_of (opened (record c.args.store.now { servers = c.reserve_left.new.self })) ≡ state_of (opened c.args.store.now))
    c.from_residual.result
    (server_room_view (opened c.args.store.now) c.requires.core (opened (record c.args.store.now { servers = c.reserve_left.new.self }))
    (ap (λ s. opened (record c.args.store.now { servers = s })) c.reserve_left.ensures.rest))

pub insert_server-requires-clause-core : goal.insert_server-requires-clause-core
insert_server-requires-clause-core g c =
    server_room_core (opened c.args.store.now) c.requires.core (opened (record c.args.store.now { servers = c.reserve_left.new.self }))
    (ap (λ s. opened (record c.args.store.now { servers = s })) c.reserve_left.ensures.rest) c.reserve_left.ensures.more

pub insert_server-requires-clause-left : goal.insert_server-requires-clause-left
insert_server-requires-clause-left g c i l at = ((insert_server-requires-clause-core g c).sound.have_ports.left_servers.own i l at).0

pub returns-clause-ok : goal.returns-clause-ok
returns-clause-ok g c =
    ok_after (opened c.args.store.now) c.requires.core (opened (record c.args.store.now { servers = c.reserve_left.new.self }))
    (server_room_view (opened c.args.store.now) c.requires.core (opened (record c.args.store.now { servers = c.reserve_left.new.self }))
    (ap (λ s. opened (record c.args.store.now { servers = s })) c.reserve_left.ensures.rest))
    (opened c.insert_server.new.store) (λ s. with_server s c.args.settings) c.insert_server.result c.insert_server.ensures.ok

pub returns-clause-err : goal.returns-clause-err
returns-clause-err g c =
    err_after (opened c.args.store.now) c.requires.core (opened (record c.args.store.now { servers = c.reserve_left.new.self }))
    (server_room_view (opened c.args.store.now) c.requires.core (opened (record c.args.store.now { servers = c.reserve_left.new.self }))
    (ap (λ s. opened (record c.args.store.now { servers = s })) c.reserve_left.ensures.rest))
    (opened c.insert_server.new.store) c.insert_server.result c.insert_server.ensures.err
