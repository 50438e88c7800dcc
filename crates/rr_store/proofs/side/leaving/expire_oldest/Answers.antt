use Rattle.std.proofs.Common.{◌<◌, ◌+◌, ◌-◌, ℕ, length, get_or, map, sym, ap, ◌∙◌, subst, arith}
use Rattle.std.proofs.lemmas.Option.{slice_get-get_or}
use Rattle.rr_store.specs.declared.port.LeftPort.{LeftPort}
use Rattle.rr_store.specs.Leaving.{has_queued}
use Rattle.rr_store.specs.Ports.{sender_part}
use Rattle.rr_store.specs.Views.{sender_of}
use Rattle.rr_store.proofs.base.lookups.Asking.{senders_many}
use Rattle.rr_store.proofs.leaving.Outdated.{IsExpiring, all_expired, expiring_done, expiring_past, expiring_more, next_kept, next_there}
use Rattle.rr_store.proofs.leaving.Outdated.{next_queues}
use Rattle.rr_store.proofs.side.leaving.expire_oldest.Goals as goal
use Rattle.rr_store.proofs.side.leaving.expire_oldest.Goals.{In-loop-port, then-remaining-gt0+then-has_queued, else-remaining-gt0}
use Rattle.rr_store.proofs.side.leaving.expire_oldest.Goals.{else-remaining-gt0-via-then-remaining-gt0+else-has_queued, else-remaining-gt0-via-else-remaining-gt0}

-- the sender of the port whose turn it is
abbrev next : (g : _) → In-loop-port g → ℕ
next g c = (get_or c.args.left.now c.loop-port.port-index (record { number = 0; sender = 0 })).sender

-- it is there
there : (g : _) (c : In-loop-port g) → next g c < length c.loop-port.senders.items
there g c =
    senders_many c.loop-port.senders.items _
    (next_there _ _ _ _ _ _ _ c.loop-port.invariant _ c.loop-port-test.true c.requires.left)

-- and has its queues
queues : (g : _) (c : In-loop-port g)
    → c.args.receiver < length (sender_of (next g c) (map sender_part c.loop-port.senders.items)).messages.queues
queues g c = next_queues _ _ _ _ _ _ _ c.loop-port.invariant _ c.loop-port-test.true c.requires.left c.requires.queues

pub has_queued-requires-clause-sender : goal.has_queued-requires-clause-sender
has_queued-requires-clause-sender g c =
    let at = (goal.at.has_queued-requires-clause-sender g c).In-loop-port in
    subst (λ items. next g at < length items) (sym c.as_slice.ensures.value) (there g at)

pub has_queued-requires-clause-queues : goal.has_queued-requires-clause-queues
has_queued-requires-clause-queues g c =
    let at = (goal.at.has_queued-requires-clause-queues g c).In-loop-port in
    subst (λ items. c.args.receiver < length (sender_of (next g at) (map sender_part items)).messages.queues)
    (sym c.as_slice.ensures.value) (queues g at)

pub clear_for-requires-clause-sender : goal.clear_for-requires-clause-sender
clear_for-requires-clause-sender g c = there g (goal.at.clear_for-requires-clause-sender g c).In-loop-port

pub clear_for-requires-clause-queues : goal.clear_for-requires-clause-queues
clear_for-requires-clause-queues g c = queues g (goal.at.clear_for-requires-clause-queues g c).In-loop-port

pub returns : goal.returns
returns g c = all_expired _ _ _ _ _ _ _ c.loop-port.invariant c.loop-port-test.false

pub loop-port-preserved : goal.loop-port-preserved
loop-port-preserved g c =
    let before = map sender_part c.args.senders.now.items in
    let now = map sender_part c.loop-port.senders.items in
    let left = c.args.left.now in
    let receiver = c.args.receiver in
    let i = c.loop-port.port-index in
    let none : LeftPort = record { number = 0; sender = 0 } in
    let x : LeftPort = get_or left i none in
    let at = slice_get-get_or left i none c.loop-port-test.true in
    let kept = next_kept before left receiver c.args.excess i c.loop-port.remaining now c.loop-port.invariant x at c.requires.apart in
    elim c.if-remaining-gt0.branch [
      | then-remaining-gt0+then-has_queued w ↦
          let has = sym kept
          ∙ ap (λ items. has_queued (sender_of x.sender (map sender_part items)) receiver) (sym w.as_slice.ensures.value)
          ∙ sym w.has_queued.ensures ∙ w.if-has_queued.true in
          subst (λ n. IsExpiring before left receiver c.args.excess (i + 1) n (map sender_part c.if-remaining-gt0.senders.items))
          (sym w.remaining-is)
          (subst (λ after. IsExpiring before left receiver c.args.excess (i + 1) (c.loop-port.remaining - 1) (map sender_part after.items))
          (sym w.senders-is)
          (expiring_more before left receiver c.args.excess i c.loop-port.remaining now c.loop-port.invariant x at
          (map sender_part w.clear_for.new.senders.items) (omega (arith, w.if-remaining-gt0.true)) has w.clear_for.ensures))
      | else-remaining-gt0 w ↦
          subst (λ n. IsExpiring before left receiver c.args.excess (i + 1) n (map sender_part c.if-remaining-gt0.senders.items))
          (sym w.remaining-is)
          (subst (λ after. IsExpiring before left receiver c.args.excess (i + 1) c.loop-port.remaining (map sender_part after.items))
          (sym w.senders-is)
          (elim w.else-remaining-gt0.branch [
            | else-remaining-gt0-via-then-remaining-gt0+else-has_queued v ↦
                expiring_past before left receiver c.args.excess i c.loop-port.remaining now c.loop-port.invariant x at
                (sym kept
                ∙ ap (λ items. has_queued (sender_of x.sender (map sender_part items)) receiver) (sym v.as_slice.ensures.value)
                ∙ sym v.has_queued.ensures ∙ v.if-has_queued.false)
            | else-remaining-gt0-via-else-remaining-gt0 v ↦
                expiring_done before left receiver c.args.excess i c.loop-port.remaining now c.loop-port.invariant x at
                (omega (arith, v.if-remaining-gt0.false))
          ]))
    ]
