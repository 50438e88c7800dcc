use Rattle.std.proofs.Common.{[], None, Some, refl, sym, ap, ◌∙◌, subst, suc}
use Rattle.std.specs.Prelude.{drop}
use Rattle.std.proofs.lemmas.Bool.{false≢true}
use Rattle.std.proofs.lemmas.Option.{slice_get_within}
use Rattle.rr_sender.specs.Senders.{queue_at}
use Rattle.rr_sender.proofs.EntryLaws.{at_two-set_two}
use Rattle.rr_store.specs.Ports.{sender_part}
use Rattle.rr_store.specs.Loaning.{with_messages}
use Rattle.rr_store.specs.Skimming.{SkimsSender}
use Rattle.rr_store.proofs.receiving.request.Skims.{front_of, no_front, skim_more, skim_reach, shorter}
use Rattle.rr_store.proofs.side.skimming.skim_sender.Goals as goal

pub loop-slot-init : goal.loop-slot-init
loop-slot-init g c = (0, refl)

pub first-requires-clause-receiver : goal.first-requires-clause-receiver
first-requires-clause-receiver g c =
    (skim_reach c.args.table.now c.args.receiver c.loop-slot.invariant.0 (sender_part c.args.sender.now)
    (sender_part c.loop-slot.sender) c.loop-slot.invariant.1 c.requires.receiver c.requires.channel).0

pub first-requires-clause-channel : goal.first-requires-clause-channel
first-requires-clause-channel g c =
    (skim_reach c.args.table.now c.args.receiver c.loop-slot.invariant.0 (sender_part c.args.sender.now)
    (sender_part c.loop-slot.sender) c.loop-slot.invariant.1 c.requires.receiver c.requires.channel).1

pub drop_first-requires-clause-receiver : goal.drop_first-requires-clause-receiver
drop_first-requires-clause-receiver g c =
    (skim_reach c.args.table.now c.args.receiver c.loop-slot.invariant.0 (sender_part c.args.sender.now)
    (sender_part c.loop-slot.sender) c.loop-slot.invariant.1 c.requires.receiver c.requires.channel).0

pub drop_first-requires-clause-channel : goal.drop_first-requires-clause-channel
drop_first-requires-clause-channel g c =
    (skim_reach c.args.table.now c.args.receiver c.loop-slot.invariant.0 (sender_part c.args.sender.now)
    (sender_part c.loop-slot.sender) c.loop-slot.invariant.1 c.requires.receiver c.requires.channel).1

pub returns-then-is_waited-clause-skimmed : goal.returns-then-is_waited-clause-skimmed
returns-then-is_waited-clause-skimmed g c = c.loop-slot.invariant

pub returns-then-is_waited-clause-front : goal.returns-then-is_waited-clause-front
returns-then-is_waited-clause-front g c =
    front_of c.args.table.now c.args.receiver (sender_part c.loop-slot.sender) (Some c.in-Some.slot) (sym c.in-Some.ensures.first)
    (sym c.is_waited.ensures ∙ c.if-is_waited.true)

pub returns-then-is_waited-clause-remaining : goal.returns-then-is_waited-clause-remaining
returns-then-is_waited-clause-remaining g c =
    (λ _. slice_get_within (queue_at c.loop-slot.sender.messages c.args.receiver 0) 0 c.in-Some.slot (sym c.in-Some.ensures.first), λ _. refl)

pub loop-slot-smaller : goal.loop-slot-smaller
loop-slot-smaller g c =
    let reach =
    skim_reach c.args.table.now c.args.receiver c.loop-slot.invariant.0 (sender_part c.args.sender.now)
    (sender_part c.loop-slot.sender) c.loop-slot.invariant.1 c.requires.receiver c.requires.channel in
    let m = c.loop-slot.sender.messages in
    shorter (queue_at m c.args.receiver 0) (queue_at c.drop_first.new.self c.args.receiver 0) c.in-Some.slot
    (ap (λ m. queue_at m c.args.receiver 0) c.drop_first.ensures
    ∙ at_two-set_two [] m.queues c.args.receiver 0 reach.0 reach.1 (drop 1 (queue_at m c.args.receiver 0)))
    (sym c.first.ensures.first ∙ c.in-Some.is)

pub loop-slot-preserved : goal.loop-slot-preserved
loop-slot-preserved g c =
    let n = c.loop-slot.invariant.0 in
    let old = sender_part c.args.sender.now in (
      suc n,
      subst (λ m. SkimsSender c.args.table.now c.args.receiver (suc n) old (with_messages (sender_part c.loop-slot.sender) m))
          (sym c.drop_first.ensures)
          (skim_more c.args.table.now c.args.receiver n old (sender_part c.loop-slot.sender) c.loop-slot.invariant.1 c.in-Some.slot
          (sym c.first.ensures.first ∙ c.in-Some.is) (sym c.is_waited.ensures ∙ c.if-is_waited.false)),
    )

pub returns-clause-skimmed : goal.returns-clause-skimmed
returns-clause-skimmed g c = c.loop-slot.invariant

pub returns-clause-front : goal.returns-clause-front
returns-clause-front g c =
    front_of c.args.table.now c.args.receiver (sender_part c.loop-slot.sender) None (sym c.in_default.ensures.first) tt

pub returns-clause-remaining : goal.returns-clause-remaining
returns-clause-remaining g c =
    (λ e. absurd (false≢true e), λ h. absurd (no_front _ (sym c.in_default.ensures.first) h))
