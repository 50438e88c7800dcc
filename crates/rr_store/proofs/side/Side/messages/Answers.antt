use Rattle.std.proofs.Common.{sym, ap}
use Rattle.rr_store.specs.Parts.{Sender}
use Rattle.rr_store.proofs.base.senders.Stored.{stored_is}
use Rattle.rr_store.proofs.side.Side.messages.Goals as goal

pub returns : goal.returns
returns g c =
    let there = rw (← c.self.view_is) at c.requires in
    rw (← c.self.view_is) (sym (ap (λ (l : Sender _ _ _). l.messages)
    (stored_is c.self.inside.senders.items c.args.sender c.index.result.now there c.index.ensures)))
