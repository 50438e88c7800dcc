use Rattle.std.proofs.Common.{◌≡◌, false, sym, ◌∙◌, arith}
use Rattle.std.proofs.lemmas.Option.{slice_get_within}
use Rattle.rr_store.specs.Sending.{is_blocked_at}
use Rattle.rr_store.proofs.querying.Connected.{none_pass}
use Rattle.rr_store.proofs.base.lists.ReadAt.{item_at, one_further}
use Rattle.rr_sending.proofs.deliverable.is_any_blocked.Goals as goal

pub is_request_blocked-requires : goal.is_request_blocked-requires
is_request_blocked-requires g c =
    let at = item_at c.args.servers.now c.loop-server.server-index c.server-item.result c.loop-server-test.true c.server-item.is in (
      c.requires.inside c.loop-server.server-index c.server-item.result at,
      c.requires.channels c.loop-server.server-index
          c.server-item.result at,
    )

pub loop-server-preserved : goal.loop-server-preserved
loop-server-preserved g c =
    let s = c.server-item.result in
    one_further (λ s. is_blocked_at c.args.overflow c.args.messages.now s.port.receiver
    ≡ false) c.args.servers.now c.loop-server.server-index
    c.loop-server.invariant s
    (item_at c.args.servers.now c.loop-server.server-index s c.loop-server-test.true c.server-item.is)
    (sym c.is_request_blocked.ensures ∙ c.if-is_request_blocked.false)

pub returns : goal.returns
returns g c =
    sym (none_pass _ c.args.servers.now
    (λ i s at. c.loop-server.invariant i s (omega (arith, slice_get_within c.args.servers.now i s at, c.loop-server-test.false)) at))
