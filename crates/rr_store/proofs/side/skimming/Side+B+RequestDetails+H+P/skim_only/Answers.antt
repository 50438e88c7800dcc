use Rattle.std.proofs.Common.{◌<◌, false, length, refl, sym, ◌∙◌, arith}
use Rattle.std.proofs.lemmas.Bool.{false≢true}
use Rattle.std.proofs.lemmas.List.{length-set}
use Rattle.rr_store.specs.Receiving.{borrowed_from}
use Rattle.rr_store.specs.Skimming.{IsSkimmed}
use Rattle.rr_store.proofs.receiving.NextSender.{looked_at_none}
use Rattle.rr_store.proofs.receiving.request.Skims.{passed_skimmed, skimmed_empty, skimmed_next, skimmed_none, skimmed_to}
use Rattle.rr_store.proofs.side.skimming.Side+B+RequestDetails+H+P.skim_only.Goals.{After-skim_front}
use Rattle.rr_store.proofs.side.skimming.Side+B+RequestDetails+H+P.skim_only.Goals as goal

-- before the look nothing is skimmed, there is a sender, and it has given fewer
start : (g : _) (c : After-skim_front g)
    → IsSkimmed c.args.table.now c.args.receiver c.args.most c.args.self.now.senders c.args.self.now.senders
    × (0 < length c.args.self.now.senders) × (borrowed_from c.args.self.now.senders c.args.receiver 0 0 < c.args.most)
start g c = (
  skimmed_none c.args.table.now c.args.receiver c.args.most c.args.self.now.senders (λ l h. (c.requires.receiver l h, c.requires.channel l h)),
  omega (arith, c.sender_count.ensures, c.if-sender_count-eq0.false),
  omega (arith, c.borrowed.ensures, c.if-borrowed-most.true),
)

pub returns-then-skim_front-clause-skimmed : goal.returns-then-skim_front-clause-skimmed
returns-then-skim_front-clause-skimmed g c =
    let q = c.skim_front.ensures in
    let (so, there, few) = start g (goal.at.returns-then-skim_front-clause-skimmed g c).After-skim_front in
    let s = c.args.self.now.senders in
    rw q.is (skimmed_to c.args.table.now c.args.receiver c.args.most 0 0 s s so there few q.it q.steps q.skims q.front)

pub returns-then-skim_front-clause-next : goal.returns-then-skim_front-clause-next
returns-then-skim_front-clause-next g c =
    let q = c.skim_front.ensures in
    let (so, there, few) = start g (goal.at.returns-then-skim_front-clause-next g c).After-skim_front in
    let s = c.args.self.now.senders in
    rw q.is (skimmed_next c.args.table.now c.args.receiver c.args.most 0 0 s s so there few q.it q.steps q.skims (q.remains.0 c.if-skim_front.true))

pub returns-then-borrowed-most-clause-skimmed : goal.returns-then-borrowed-most-clause-skimmed
returns-then-borrowed-most-clause-skimmed g c =
    let q = c.skim_front.ensures in
    let (so, there, few) = start g (goal.at.returns-then-borrowed-most-clause-skimmed g c).After-skim_front in
    let s = c.args.self.now.senders in
    rw q.is (skimmed_empty c.args.table.now c.args.receiver c.args.most 0 0 s s so there few q.it q.steps q.skims)

pub returns-then-borrowed-most-clause-next : goal.returns-then-borrowed-most-clause-next
returns-then-borrowed-most-clause-next g c =
    let q = c.skim_front.ensures in
    let (so, there, few) = start g (goal.at.returns-then-borrowed-most-clause-next g c).After-skim_front in
    let s = c.args.self.now.senders in
    let seen = passed_skimmed c.args.table.now c.args.receiver c.args.most 0 0 s s so there few q.it q.steps q.skims false
    (looked_at_none s c.args.receiver 0 c.args.most 0) (λ h. false≢true (sym c.if-skim_front.false ∙ q.remains.1 h)) in
    rw q.is (λ l h. seen.clear refl l (omega arith) (omega (arith, h, c.requires.only, length-set s 0 q.it)))
