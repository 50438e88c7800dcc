use Rattle.std.proofs.Common.{not, sym, ap, ◌∙◌, arith}
use Rattle.std.proofs.lemmas.List.Sums.{count_by_more_yes, count_by_more_no}
use Rattle.rr_store.specs.declared.port.ServerPort.{ServerPort}
use Rattle.rr_store.specs.Sending.{is_blocked_at}
use Rattle.rr_store.proofs.base.lists.ReadAt.{item_at}
use Rattle.rr_sending.proofs.request.open_count.Goals as goal
use Rattle.rr_sending.proofs.request.open_count.Goals.{then-not-is_request_blocked, else-not-is_request_blocked}

pub is_request_blocked-requires : goal.is_request_blocked-requires
is_request_blocked-requires g c =
    let at = item_at c.args.servers.now c.loop-server.server-index c.server-item.result c.loop-server-test.true c.server-item.is in (
      c.requires.inside c.loop-server.server-index c.server-item.result at,
      c.requires.channels c.loop-server.server-index
          c.server-item.result at,
    )

pub loop-server-preserved : goal.loop-server-preserved
loop-server-preserved g c =
    let xs = c.args.servers.now in
    let i = c.loop-server.server-index in
    let s = c.server-item.result in
    let told = ap not (sym c.is_request_blocked.ensures) in
    let same = ap (λ (s : ServerPort _). not (is_blocked_at c.args.overflow c.args.messages.now s.port.receiver)) (sym c.server-item.is) in
    elim c.if-not-is_request_blocked.branch [
      | then-not-is_request_blocked w ↦ (
        omega (
          arith,
          w.count-is,
          c.loop-server.invariant.0,
          count_by_more_yes (λ s. not (is_blocked_at c.args.overflow c.args.messages.now s.port.receiver)) xs i s c.loop-server-test.true
              (same ∙ told ∙ ap not w.if-not-is_request_blocked.true),
        ),
        omega (arith, w.count-is, c.loop-server.invariant.1),
      )
      | else-not-is_request_blocked w ↦ (
        omega (
          arith,
          w.count-is,
          c.loop-server.invariant.0,
          count_by_more_no (λ s. not (is_blocked_at c.args.overflow c.args.messages.now s.port.receiver)) xs i s c.loop-server-test.true
              (same ∙ told ∙ ap not w.if-not-is_request_blocked.false),
        ),
        omega (arith, w.count-is, c.loop-server.invariant.1),
      )
    ]
