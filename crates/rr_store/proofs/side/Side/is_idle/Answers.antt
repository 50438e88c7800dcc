use Rattle.std.proofs.Common.{◌<◌, length, map}
use Rattle.rr_store.specs.Ports.{sender_part}
use Rattle.rr_store.proofs.base.senders.Noted.{set_fits}
use Rattle.rr_store.proofs.side.Side.is_idle.Goals as goal

pub is_known_empty-requires : goal.is_known_empty-requires
is_known_empty-requires g c =
    set_fits c.self.inside.waiting (map sender_part c.self.inside.senders.items) c.self.invariant c.args.receiver c.args.channel
    (rw (← c.self.view_is) at c.requires.several) (rw (← c.self.view_is) at c.requires.receiver) (rw (← c.self.view_is) at c.requires.channel)
