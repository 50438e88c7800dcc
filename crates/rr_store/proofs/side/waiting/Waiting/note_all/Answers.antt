use Rattle.std.proofs.Common.{◌≡◌, Some}
use Rattle.std.specs.Prelude.{slice_get}
use Rattle.rr_store.proofs.base.lists.ReadAt.{item_at}
use Rattle.rr_store.proofs.base.senders.Noted.{noted_more, noted_none, place_still}
use Rattle.rr_store.proofs.side.waiting.Waiting.note_all.Goals as goal
use Rattle.rr_store.proofs.side.waiting.Waiting.note_all.Goals.{After-server-item}

-- the server whose turn it is
its : (g : _) (c : After-server-item g) → slice_get c.args.servers.now c.loop-server.server-index ≡ Some c.server-item.result
its g c = item_at c.args.servers.now c.loop-server.server-index c.server-item.result c.loop-server-test.true c.server-item.is

pub loop-server-init : goal.loop-server-init
loop-server-init g c = noted_none c.args.count c.args.servers.now c.args.sender c.args.self.now

pub note_next-requires : goal.note_next-requires
note_next-requires g c several =
    place_still c.args.count c.args.servers.now c.args.sender c.args.self.now _ c.loop-server.server-index c.loop-server.invariant
    c.server-item.result.port.receiver (c.requires several c.loop-server.server-index c.server-item.result
    (its g (goal.at.note_next-requires g c).After-server-item))

pub loop-server-preserved : goal.loop-server-preserved
loop-server-preserved g c =
    noted_more c.args.count c.args.servers.now c.args.sender c.args.self.now _ _ c.loop-server.server-index c.loop-server.invariant c.server-item.result
    (its g (goal.at.loop-server-preserved g c).After-server-item) c.note_next.ensures
