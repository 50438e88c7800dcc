use Rattle.rr_store.proofs.base.senders.Stored.{user_header_is}
use Rattle.rr_store.proofs.side.Side.user_header.Goals as goal

pub returns : goal.returns
returns g c =
    let there = rw (← c.self.view_is) at c.requires.sender in
    rw (← c.self.view_is)
    (user_header_is c.self.inside.senders.items c.args.sender _ there c.index.ensures
    c.args.slot _ c.self.inside.spare_header c.user_header.ensures)
