use Rattle.std.proofs.Common.{◌≡◌, ap, arith}
use Rattle.rr_protocol.specs.Creation.{with_client}
use Rattle.rr_store.specs.Views.{state_of}
use Rattle.rr_store.specs.Opened.{opened}
use Rattle.rr_store.proofs.base.lists.Adding.{not_refused}
use Rattle.rr_creating.proofs.steps.Rooms.{client_room_core, client_room_view, err_after, in_any_case, ok_after}
use Rattle.rr_creating.proofs.client.add_client.Goals as goal

pub returns-in_err-reserve_left-clause-core : goal.returns-in_err-reserve_left-clause-core
returns-in_err-reserve_left-clause-core g c =
    client_room_core (opened c.args.store.now) c.requires.core (opened (record c.args.store.now { clients = c.reserve_left.new.self }))
    (ap (λ s. opened (record c.args.store.now { clients = s })) c.reserve_left.ensures.rest) c.reserve_left.ensures.more

pub returns-in_err-reserve_left-clause-err : goal.returns-in_err-reserve_left-clause-err
returns-in_err-reserve_left-clause-err g c =
    in_any_case (state_of (opened (record c.args.store.now { clients = c.reserve_left.new.self })) ≡ state_of (opened c.args.store.now))
    c.from_residual.result
    (client_room_view (opened c.args.store.now) c.requires.core (opened (record c.args.store.now { clients = c.reserve_left.new.self }))
    (ap (λ s. opened (record c.args.store.now { clients = s })) c.reserve_left.ensures.rest))

pub insert_client-requires-clause-core : goal.insert_client-requires-clause-core
insert_client-requires-clause-core g c =
    client_room_core (opened c.args.store.now) c.requires.core (opened (record c.args.store.now { clients = c.reserve_left.new.self }))
    (ap (λ s. opened (record c.args.store.now { clients = s })) c.reserve_left.ensures.rest) c.reserve_left.ensures.more

pub insert_client-requires-clause-left : goal.insert_client-requires-clause-left
insert_client-requires-clause-left g c i l at = ((insert_client-requires-clause-core g c).sound.have_ports.left_clients.own i l at).0

pub insert_client-requires-clause-next : goal.insert_client-requires-clause-next
insert_client-requires-clause-next g c = omega (arith, (not_refused (state_of (opened c.args.store.now)) c.requires.due).0)

pub insert_client-requires-clause-limits : goal.insert_client-requires-clause-limits
insert_client-requires-clause-limits g c = c.requires.core.sound.sized.limits_fit

pub returns-clause-ok : goal.returns-clause-ok
returns-clause-ok g c =
    ok_after (opened c.args.store.now) c.requires.core (opened (record c.args.store.now { clients = c.reserve_left.new.self }))
    (client_room_view (opened c.args.store.now) c.requires.core (opened (record c.args.store.now { clients = c.reserve_left.new.self }))
    (ap (λ s. opened (record c.args.store.now { clients = s })) c.reserve_left.ensures.rest))
    (opened c.insert_client.new.store) (λ s. with_client s c.args.settings) c.insert_client.result c.insert_client.ensures.ok

pub returns-clause-err : goal.returns-clause-err
returns-clause-err g c =
    err_after (opened c.args.store.now) c.requires.core (opened (record c.args.store.now { clients = c.reserve_left.new.self }))
    (client_room_view (opened c.args.store.now) c.requires.core (opened (record c.args.store.now { clients = c.reserve_left.new.self }))
    (ap (λ s. opened (record c.args.store.now { clients = s })) c.reserve_left.ensures.rest))
    (opened c.insert_client.new.store) c.insert_client.result c.insert_client.ensures.err
