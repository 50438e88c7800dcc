use Rattle.std.proofs.Common.{◌≡◌, Some, length, get_or, map, take, sym, ap, ◌∙◌, arith}
use Rattle.std.specs.Prelude.{slice_get}
use Rattle.std.proofs.lemmas.List.{length-take-le, take_all}
use Rattle.std.proofs.lemmas.Option.{slice_get-get_or}
use Rattle.rr_table.proofs.ListFacts.{length-filter_le}
use Rattle.rr_store.specs.declared.port.LeftPort.{LeftPort}
use Rattle.rr_store.specs.Leaving.{has_queued, queued_left}
use Rattle.rr_store.specs.Ports.{sender_part}
use Rattle.rr_store.specs.Views.{sender_of}
use Rattle.rr_store.proofs.base.lookups.Asking.{senders_many}
use Rattle.rr_store.proofs.leaving.Outdated.{counted_more}
use Rattle.rr_store.proofs.side.leaving.count_queued.Goals as goal
use Rattle.rr_store.proofs.side.leaving.count_queued.Goals.{In-loop-port, then-has_queued, else-has_queued}

-- the port whose turn it is
abbrev next : (g : _) (c : In-loop-port g) → LeftPort
next g c = get_or c.args.left.now c.loop-port.port-index (record { number = 0; sender = 0 })

its : (g : _) (c : In-loop-port g) → slice_get c.args.left.now c.loop-port.port-index ≡ Some (next g c)
its g c = slice_get-get_or c.args.left.now c.loop-port.port-index (record { number = 0; sender = 0 }) c.loop-port-test.true

pub has_queued-requires-clause-sender : goal.has_queued-requires-clause-sender
has_queued-requires-clause-sender g c =
    let at = (goal.at.has_queued-requires-clause-sender g c).In-loop-port in
    senders_many c.args.senders.now _ (c.requires.left _ (next g at) (its g at))

pub has_queued-requires-clause-queues : goal.has_queued-requires-clause-queues
has_queued-requires-clause-queues g c =
    let at = (goal.at.has_queued-requires-clause-queues g c).In-loop-port in
    c.requires.queues _ (c.requires.left _ (next g at) (its g at))

pub overflow_add-count : goal.overflow_add-count
overflow_add-count g c =
    omega (
      arith,
      c.loop-port.invariant,
      c.loop-port-test.true,
      c.loop-port.auto.port-index-end,
      length-take-le c.loop-port.port-index c.args.left.now (omega (arith, c.loop-port-test.true)),
      length-filter_le (λ l. has_queued (sender_of l.sender (map sender_part c.args.senders.now)) c.args.receiver)
          (take c.loop-port.port-index c.args.left.now),
    )

pub loop-port-preserved : goal.loop-port-preserved
loop-port-preserved g c =
    let at = (goal.at.loop-port-preserved g c).In-loop-port in
    let more = counted_more (map sender_part c.args.senders.now) c.args.left.now c.args.receiver c.loop-port.port-index c.loop-port.count
    (next g at) (its g at) c.loop-port.invariant in
    elim c.if-has_queued.branch [
      | then-has_queued w ↦ w.count-is ∙ more _ (sym c.has_queued.ensures ∙ w.if-has_queued.true)
      | else-has_queued w ↦ w.count-is ∙ more _ (sym c.has_queued.ensures ∙ w.if-has_queued.false)
    ]

pub returns : goal.returns
returns g c =
    c.loop-port.invariant
    ∙ ap (λ ports. length (queued_left (map sender_part c.args.senders.now) ports c.args.receiver))
    (take_all c.loop-port.port-index c.args.left.now c.loop-port-test.false)
