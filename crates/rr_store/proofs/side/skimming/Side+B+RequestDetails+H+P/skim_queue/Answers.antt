use Rattle.rr_store.proofs.receiving.request.Skims.{skimmed_reach}
use Rattle.rr_store.proofs.side.skimming.Side+B+RequestDetails+H+P.skim_queue.Goals as goal

pub forget_if_empty-requires-clause-receiver : goal.forget_if_empty-requires-clause-receiver
forget_if_empty-requires-clause-receiver g c =
    let there = c.requires.sender in
    (skimmed_reach c.args.table.now c.args.receiver c.args.sender _ _ _ c.skim_front-remaining.ensures there
    (c.requires.receiver c.args.sender there) (c.requires.channel c.args.sender there)).0

pub forget_if_empty-requires-clause-channel : goal.forget_if_empty-requires-clause-channel
forget_if_empty-requires-clause-channel g c =
    let there = c.requires.sender in
    (skimmed_reach c.args.table.now c.args.receiver c.args.sender _ _ _ c.skim_front-remaining.ensures there
    (c.requires.receiver c.args.sender there) (c.requires.channel c.args.sender there)).1
