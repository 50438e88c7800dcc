use Rattle.std.proofs.Common.{◌<◌, arith}
use Rattle.rr_store.specs.Receiving.{borrowed_from}
use Rattle.rr_store.specs.Skimming.{IsSkimmed}
use Rattle.rr_store.proofs.receiving.request.Skims.{skimmed_empty, skimmed_next, skimmed_none, skimmed_to}
use Rattle.rr_store.proofs.side.skimming.Side+B+RequestDetails+H+P.skim_at.Goals.{After-skim_queue}
use Rattle.rr_store.proofs.side.skimming.Side+B+RequestDetails+H+P.skim_at.Goals as goal

-- before the look nothing is skimmed, and the sender has given fewer
start : (g : _) (c : After-skim_queue g)
    → IsSkimmed c.args.table.now c.args.receiver c.args.most c.args.self.now.senders c.args.self.now.senders
    × (borrowed_from c.args.self.now.senders c.args.receiver 0 c.args.sender < c.args.most)
start g c = (
  skimmed_none c.args.table.now c.args.receiver c.args.most c.args.self.now.senders (λ l h. (c.requires.receiver l h, c.requires.channel l h)),
  omega (arith, c.borrowed.ensures, c.if-borrowed-most.false),
)

pub returns-then-skim_queue-clause-skimmed : goal.returns-then-skim_queue-clause-skimmed
returns-then-skim_queue-clause-skimmed g c =
    let q = c.skim_queue.ensures in
    let (so, few) = start g (goal.at.returns-then-skim_queue-clause-skimmed g c).After-skim_queue in
    let s = c.args.self.now.senders in
    rw q.is (skimmed_to c.args.table.now c.args.receiver c.args.most 0 c.args.sender s s so c.requires.sender few q.it q.steps q.skims q.front)

pub returns-then-skim_queue-clause-next : goal.returns-then-skim_queue-clause-next
returns-then-skim_queue-clause-next g c =
    let q = c.skim_queue.ensures in
    let (so, few) = start g (goal.at.returns-then-skim_queue-clause-next g c).After-skim_queue in
    let s = c.args.self.now.senders in
    rw q.is (skimmed_next c.args.table.now c.args.receiver c.args.most 0 c.args.sender s s so c.requires.sender few q.it q.steps q.skims
    (q.remains.0 c.if-skim_queue.true))

pub returns-clause-skimmed : goal.returns-clause-skimmed
returns-clause-skimmed g c =
    let q = c.skim_queue.ensures in
    let (so, few) = start g (goal.at.returns-clause-skimmed g c).After-skim_queue in
    let s = c.args.self.now.senders in
    rw q.is (skimmed_empty c.args.table.now c.args.receiver c.args.most 0 c.args.sender s s so c.requires.sender few q.it q.steps q.skims)
