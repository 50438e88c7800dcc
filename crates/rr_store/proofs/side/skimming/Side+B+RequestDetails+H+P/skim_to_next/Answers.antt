use Rattle.std.proofs.Common.{◌<◌, sym, ap, ◌∙◌, arith}
use Rattle.std.specs.Prelude.{slice_set}
use Rattle.std.proofs.lemmas.Bool.{false≢true}
use Rattle.rr_store.specs.Receiving.{borrowed_from, queue_from}
use Rattle.rr_store.specs.Sides.{SideParts}
use Rattle.rr_store.proofs.receiving.NextSender.{looked_at_empty, looked_at_limit, empty_of, some_of}
use Rattle.rr_store.proofs.receiving.Passed.{looked_past}
use Rattle.rr_store.proofs.receiving.request.Skims.{passed_skimmed, skimmed_here, skimmed_next, skimmed_to}
use Rattle.rr_store.proofs.side.skimming.Side+B+RequestDetails+H+P.skim_to_next.Goals as goal
use Rattle.rr_store.proofs.side.skimming.Side+B+RequestDetails+H+P.skim_to_next.Goals.{then-borrowed-most+else-skim_queue}
use Rattle.rr_store.proofs.side.skimming.Side+B+RequestDetails+H+P.skim_to_next.Goals.{else-borrowed-most+then-has_entries, else-borrowed-most+else-has_entries}

pub returns-then-skim_queue-clause-skimmed : goal.returns-then-skim_queue-clause-skimmed
returns-then-skim_queue-clause-skimmed g c =
    let n = c.in-Some.sender in
    let now = c.loop-sender.self.senders in
    let q = c.skim_queue.ensures in
    let few : borrowed_from now c.args.receiver 0 n < c.args.most = omega (arith, c.borrowed.ensures, c.if-borrowed-most.true) in
    rw q.is (skimmed_to c.args.table.now c.args.receiver c.args.most c.args.from n c.args.self.now.senders now c.loop-sender.invariant.0
    c.in-Some.ensures.next.1 few q.it q.steps q.skims q.front)

pub returns-then-skim_queue-clause-next : goal.returns-then-skim_queue-clause-next
returns-then-skim_queue-clause-next g c =
    let n = c.in-Some.sender in
    let now = c.loop-sender.self.senders in
    let q = c.skim_queue.ensures in
    let few : borrowed_from now c.args.receiver 0 n < c.args.most = omega (arith, c.borrowed.ensures, c.if-borrowed-most.true) in
    rw q.is (skimmed_next c.args.table.now c.args.receiver c.args.most c.args.from n c.args.self.now.senders now c.loop-sender.invariant.0
    c.in-Some.ensures.next.1 few q.it q.steps q.skims (q.remains.0 c.if-skim_queue.true))

pub loop-sender-preserved : goal.loop-sender-preserved
loop-sender-preserved g c =
    let n = c.in-Some.sender in
    let now = c.loop-sender.self.senders in
    let so = c.loop-sender.invariant in
    let next = c.in-Some.ensures.next in
    let seen = looked_past now c.args.receiver 0 c.args.most c.args.from c.loop-sender.start n c.loop-sender.is_at_limit so.1 next.0 next.2 in
    elim c.if-borrowed-most.branch [
      | then-borrowed-most+else-skim_queue w ↦
          let q = w.skim_queue.ensures in
          let few : borrowed_from now c.args.receiver 0 n < c.args.most = omega (arith, c.borrowed.ensures, w.if-borrowed-most.true) in
          rw (w.is_at_limit-is, w.self-is, q.is) (
            skimmed_here c.args.table.now c.args.receiver c.args.most c.args.from n c.args.self.now.senders now so.0 next.1 few q.it q.steps q.skims,
            passed_skimmed c.args.table.now c.args.receiver c.args.most c.args.from n c.args.self.now.senders now so.0 next.1 few q.it q.steps q.skims
                c.loop-sender.is_at_limit seen (λ h. false≢true (sym w.if-skim_queue.false ∙ q.remains.1 h)),
            ap (λ (s : SideParts _ _ _ _). record s { senders = slice_set now n q.it }) so.2,
          )
      | else-borrowed-most+then-has_entries w ↦ rw (w.is_at_limit-is, w.self-is) (
        so.0,
        looked_at_limit now c.args.receiver 0 c.args.most c.args.from n c.loop-sender.is_at_limit seen next.1
            (omega (arith, c.borrowed.ensures, w.if-borrowed-most.false))
            (some_of (queue_from now c.args.receiver 0 n) (w.has_entries.ensures.0 w.if-has_entries.true)),
        so.2,
      )
      | else-borrowed-most+else-has_entries w ↦ rw (w.is_at_limit-is, w.self-is) (
        so.0,
        looked_at_empty now c.args.receiver 0 c.args.most c.args.from n c.loop-sender.is_at_limit seen
            (empty_of (queue_from now c.args.receiver 0 n) (λ h. false≢true (sym w.if-has_entries.false ∙ w.has_entries.ensures.1 h))),
        so.2,
      )
    ]
