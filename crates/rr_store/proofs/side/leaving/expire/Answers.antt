use Rattle.std.proofs.Common.{◌≡◌, ◌<◌, ◌-◌, ℕ, length, map, sym, ap, ◌∙◌, subst, arith}
use Rattle.rr_store.specs.Draining.{AreThere, HaveQueues}
use Rattle.rr_store.specs.Leaving.{has_queued, queued_left}
use Rattle.rr_store.specs.Ports.{sender_part}
use Rattle.rr_store.specs.Views.{sender_of}
use Rattle.rr_store.proofs.base.lookups.Asking.{senders_many}
use Rattle.rr_store.proofs.leaving.OutdatedAt.{expired_each, expired_none, expired_some}
use Rattle.rr_store.proofs.side.leaving.expire.Goals as goal

-- the excess is what is queued above the room for others
excess_is : (excess queued less room n : ℕ) → excess ≡ queued - less → less ≡ room - 1 → queued ≡ n → excess ≡ n - (room - 1)
excess_is excess queued less room n e f h = omega (arith, e, f, h)

pub has_queued-requires-clause-sender : goal.has_queued-requires-clause-sender
has_queued-requires-clause-sender g c =
    subst (λ items. c.args.leaving.sender < length items) (sym c.as_slice.ensures.value)
    (senders_many c.args.senders.now.items c.args.leaving.sender c.requires.leaving)

pub has_queued-requires-clause-queues : goal.has_queued-requires-clause-queues
has_queued-requires-clause-queues g c =
    subst (λ items. c.args.receiver < length (sender_of c.args.leaving.sender (map sender_part items)).messages.queues)
    (sym c.as_slice.ensures.value) (c.requires.queues c.args.leaving.sender c.requires.leaving)

pub count_queued-queued-requires-clause-queues : goal.count_queued-queued-requires-clause-queues
count_queued-queued-requires-clause-queues g c =
    subst (λ items. HaveQueues (map sender_part items) c.args.receiver) (sym c.as_slice-then-has_queued.ensures.value) c.requires.queues

pub count_queued-queued-requires-clause-left : goal.count_queued-queued-requires-clause-left
count_queued-queued-requires-clause-left g c =
    subst (λ items. AreThere (map sender_part items) c.args.left.now) (sym c.as_slice-then-has_queued.ensures.value) c.requires.left

pub clear_for-requires-clause-sender : goal.clear_for-requires-clause-sender
clear_for-requires-clause-sender g c =
    senders_many c.expire_oldest.new.senders.items c.args.leaving.sender
    (omega (arith, c.requires.leaving, c.expire_oldest.ensures.many))

pub clear_for-requires-clause-queues : goal.clear_for-requires-clause-queues
clear_for-requires-clause-queues g c =
    omega (
      arith,
      c.requires.queues c.args.leaving.sender c.requires.leaving,
      (c.expire_oldest.ensures.each c.args.leaving.sender).messages.receivers,
    )

pub returns-then-room-eq0 : goal.returns-then-room-eq0
returns-then-room-eq0 g c =
    let before = map sender_part c.args.senders.now.items in
    let left = c.args.left.now in
    let leaving = c.args.leaving in
    let has = ap (λ items. has_queued (sender_of leaving.sender (map sender_part items)) c.args.receiver) (sym c.as_slice.ensures.value)
    ∙ sym c.has_queued.ensures ∙ c.if-has_queued.true in
    let is = excess_is c.saturating_sub-excess.result c.count_queued-queued.result c.saturating_sub.result c.args.room
    (length (queued_left before left c.args.receiver))
    c.saturating_sub-excess.ensures c.saturating_sub.ensures
    (c.count_queued-queued.ensures
    ∙ ap (λ items. length (queued_left (map sender_part items) left c.args.receiver)) c.as_slice-then-has_queued.ensures.value) in
    expired_each left leaving c.args.room before c.args.receiver has c.saturating_sub-excess.result is
    (map sender_part c.expire_oldest.new.senders.items) c.expire_oldest.ensures (omega (arith, c.if-room-eq0.true))
    (map sender_part c.clear_for.new.senders.items) c.clear_for.ensures

pub returns-else-room-eq0 : goal.returns-else-room-eq0
returns-else-room-eq0 g c =
    let before = map sender_part c.args.senders.now.items in
    let left = c.args.left.now in
    let leaving = c.args.leaving in
    let has = ap (λ items. has_queued (sender_of leaving.sender (map sender_part items)) c.args.receiver) (sym c.as_slice.ensures.value)
    ∙ sym c.has_queued.ensures ∙ c.if-has_queued.true in
    let is = excess_is c.saturating_sub-excess.result c.count_queued-queued.result c.saturating_sub.result c.args.room
    (length (queued_left before left c.args.receiver))
    c.saturating_sub-excess.ensures c.saturating_sub.ensures
    (c.count_queued-queued.ensures
    ∙ ap (λ items. length (queued_left (map sender_part items) left c.args.receiver)) c.as_slice-then-has_queued.ensures.value) in
    expired_some left leaving c.args.room before c.args.receiver has c.saturating_sub-excess.result is
    (map sender_part c.expire_oldest.new.senders.items) c.expire_oldest.ensures (omega (arith, c.if-room-eq0.false))

pub returns-else-has_queued : goal.returns-else-has_queued
returns-else-has_queued g c =
    expired_none c.args.left.now c.args.leaving c.args.room (map sender_part c.args.senders.now.items) c.args.receiver
    (ap (λ items. has_queued (sender_of c.args.leaving.sender (map sender_part items)) c.args.receiver) (sym c.as_slice.ensures.value)
    ∙ sym c.has_queued.ensures ∙ c.if-has_queued.false)
