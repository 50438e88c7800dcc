use Rattle.std.proofs.Common.{◌<◌, length, map}
use Rattle.rr_store.specs.Ports.{sender_part}
use Rattle.rr_store.proofs.base.senders.Noted.{set_fits}
use Rattle.rr_store.proofs.side.Side.next_noted.Goals as goal

pub next_from-requires : goal.next_from-requires
next_from-requires g c =
    set_fits c.self.inside.waiting (map sender_part c.self.inside.senders.items) c.self.invariant c.args.receiver c.args.channel
    (rw (← c.self.view_is) at c.requires.several) (rw (← c.self.view_is) at c.requires.receiver) (rw (← c.self.view_is) at c.requires.channel)
