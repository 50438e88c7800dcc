use Rattle.std.proofs.Common.{◌≡◌, ◌<◌, ◌&&◌, ℕ, Some, length, map, sym, ap, ◌∙◌, subst, arith}
use Rattle.std.specs.Prelude.{◌==◌, slice_get}
use Rattle.rr_store.specs.Draining.{AreThere, HaveQueues, SendersDrained}
use Rattle.rr_store.specs.Leaving.{is_of, outdated}
use Rattle.rr_store.specs.Ports.{sender_part}
use Rattle.rr_store.proofs.base.lists.ReadAt.{item_at}
use Rattle.rr_store.proofs.leaving.Drained.{drained_noted}
use Rattle.rr_store.proofs.leaving.OutdatedAt.{expired_all, expired_more, expired_start, queues_kept}
use Rattle.rr_store.proofs.side.Side.expire.Goals as goal

pub loop-port-init : goal.loop-port-init
loop-port-init g c =
    expired_start c.as_slice-left.result.now c.args.leaving c.args.room g.R.ConnectedPort.receiver c.args.receivers.now
    (map sender_part c.self.inside.senders.items)

pub expire-requires-clause-queues : goal.expire-requires-clause-queues
expire-requires-clause-queues g c =
    let before = map sender_part c.self.inside.senders.items in
    let read = g.R.ConnectedPort.receiver in
    let i = c.loop-port.port-index in
    let x = c.port-item.result in
    let asked : (i : ℕ) (p : _) → slice_get c.args.receivers.now i ≡ Some p → HaveQueues before (read p) =
    rw (← c.self.view_is) at c.requires.queues in
    queues_kept c.as_slice-left.result.now c.args.leaving c.args.room read c.args.receivers.now before i
    (map sender_part c.loop-port.senders.items) c.loop-port.invariant c.details-receiver.result.receiver
    (subst (λ n. HaveQueues before n) (sym c.details-receiver.ensures.receiver)
    (asked i x (item_at c.args.receivers.now i x c.loop-port-test.true c.port-item.is)))

pub expire-requires-clause-left : goal.expire-requires-clause-left
expire-requires-clause-left g c = λ i l at.
    let asked : AreThere (map sender_part c.self.inside.senders.items) c.self.inside.left.items =
    rw (← c.self.view_is) at c.requires.left in
    omega (
      arith,
      asked i l (ap (λ ls. slice_get ls i) (sym c.as_slice-left.ensures.value) ∙ at),
      c.loop-port.invariant.drained.many,
    )

pub expire-requires-clause-leaving : goal.expire-requires-clause-leaving
expire-requires-clause-leaving g c =
    let asked : c.args.leaving.sender < length (map sender_part c.self.inside.senders.items) =
    rw (← c.self.view_is) at c.requires.leaving in
    omega (arith, asked, c.loop-port.invariant.drained.many)

pub expire-requires-clause-apart : goal.expire-requires-clause-apart
expire-requires-clause-apart g c = λ i j l m at there. (rw (← c.self.view_is) at c.requires.apart) i j l m
    (ap (λ ls. slice_get ls i) (sym c.as_slice-left.ensures.value) ∙ at)
    (ap (λ ls. slice_get ls j) (sym c.as_slice-left.ensures.value) ∙ there)

pub loop-port-preserved : goal.loop-port-preserved
loop-port-preserved g c =
    let before = map sender_part c.self.inside.senders.items in
    let now = map sender_part c.loop-port.senders.items in
    let after = map sender_part c.expire.new.senders.items in
    let i = c.loop-port.port-index in
    let x = c.port-item.result in
    expired_more c.as_slice-left.result.now c.args.leaving c.args.room g.R.ConnectedPort.receiver c.args.receivers.now before i now after
    c.loop-port.invariant c.requires.ports x (item_at c.args.receivers.now i x c.loop-port-test.true c.port-item.is)
    (subst (λ n. SendersDrained (λ l r. r == n && is_of (outdated now c.as_slice-left.result.now c.args.room c.args.leaving n) l) now after)
    c.details-receiver.ensures.receiver c.expire.ensures)

pub returns-clause-drained : goal.returns-clause-drained
returns-clause-drained g c =
    rw (← c.self.view_is, ← c.as_slice-left.ensures.value) (expired_all c.as_slice-left.result.now c.args.leaving c.args.room
    g.R.ConnectedPort.receiver c.args.receivers.now (map sender_part c.self.inside.senders.items) c.loop-port.port-index
    (map sender_part c.loop-port.senders.items) c.loop-port.invariant (omega (arith, c.loop-port-test.false)))

pub invariant_of-self : goal.invariant_of-self
invariant_of-self g c =
    drained_noted c.self.inside.waiting _ (map sender_part c.self.inside.senders.items) (map sender_part c.loop-port.senders.items)
    c.loop-port.invariant.drained c.self.invariant
