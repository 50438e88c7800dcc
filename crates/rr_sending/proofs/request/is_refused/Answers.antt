use Rattle.std.proofs.Common.{◌≡◌, false, not, sym, ap, ◌∙◌, arith}
use Rattle.std.specs.Prelude.{◌&&◌}
use Rattle.std.proofs.lemmas.Option.{slice_get_within}
use Rattle.rr_protocol.specs.Backpressure.{discards}
use Rattle.rr_store.specs.Ports.{connected_of}
use Rattle.rr_store.specs.Sending.{is_refused_at, is_blocked_at}
use Rattle.rr_store.proofs.querying.Connected.{none_pass}
use Rattle.rr_store.proofs.base.lists.ReadAt.{item_at, one_further}
use Rattle.rr_store.proofs.base.hands.Hands.{never}
use Rattle.rr_sending.proofs.request.is_refused.Goals as goal
use Rattle.rr_sending.proofs.request.is_refused.Goals.{else-is_request_blocked-via-then-is_request_blocked+else-not-discards, else-is_request_blocked-via-else-is_request_blocked}

pub is_request_blocked-requires : goal.is_request_blocked-requires
is_request_blocked-requires g c =
    let at = item_at c.args.servers.now c.loop-server.server-index c.server-item.result c.loop-server-test.true c.server-item.is in (
      c.requires.inside c.loop-server.server-index c.server-item.result at,
      c.requires.channels c.loop-server.server-index
          c.server-item.result at,
    )

pub loop-server-preserved : goal.loop-server-preserved
loop-server-preserved g c =
    let action = g.K.BackpressureFn.action in
    let port = (connected_of c.args.port.now).port in
    let m = c.args.messages.now in
    let s = c.server-item.result in
    one_further (λ s. is_refused_at action port c.args.overflow m s ≡ false) c.args.servers.now c.loop-server.server-index
    c.loop-server.invariant s
    (item_at c.args.servers.now c.loop-server.server-index s c.loop-server-test.true c.server-item.is)
    (elim c.else-is_request_blocked.branch [
      | else-is_request_blocked-via-then-is_request_blocked+else-not-discards w ↦ ap (λ b. is_blocked_at c.args.overflow m s.port.receiver && not b)
          (sym w.discards.ensures ∙ w.if-not-discards.false) ∙ never (is_blocked_at c.args.overflow m s.port.receiver)
      | else-is_request_blocked-via-else-is_request_blocked w ↦ ap (λ b. b && not (discards action port s.port.id))
          (sym c.is_request_blocked.ensures ∙ w.if-is_request_blocked.false)
    ])

pub returns : goal.returns
returns g c =
    sym (none_pass _ c.args.servers.now
    (λ i s at. c.loop-server.invariant i s (omega (arith, slice_get_within c.args.servers.now i s at, c.loop-server-test.false)) at))
