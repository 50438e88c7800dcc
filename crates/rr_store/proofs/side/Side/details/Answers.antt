use Rattle.rr_store.proofs.base.senders.Stored.{details_are}
use Rattle.rr_store.proofs.side.Side.details.Goals as goal

pub returns : goal.returns
returns g c none =
    let there = rw (← c.self.view_is) at c.requires.sender in
    rw (← c.self.view_is)
    (details_are c.self.inside.senders.items c.args.sender _ there c.index.ensures c.args.slot _ none c.details.ensures)
