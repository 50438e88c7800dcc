use Rattle.std.proofs.Common.{ap, ◌∙◌}
use Rattle.rr_store.specs.Clearing.{channel_cleared}
use Rattle.rr_store.specs.Loaning.{with_sender_at}
use Rattle.rr_store.specs.Sides.{SideParts}
use Rattle.rr_store.proofs.receiving.Passed.{channels_next, cleared_next, cleared_whole, queues_next}
use Rattle.rr_store.proofs.side.Side.clear_noted.Goals as goal

pub loop-sender-preserved : goal.loop-sender-preserved
loop-sender-preserved g c =
    let so = c.loop-sender.invariant in
    let senders = c.args.self.now.senders in
    let now = c.loop-sender.self.senders in
    let next = c.in-Some.ensures.next in
    rw c.clear_queue.ensures (
      cleared_next c.args.receiver c.args.channel senders now c.loop-sender.start so.0 c.in-Some.sender next,
      queues_next c.args.receiver c.args.channel senders now c.loop-sender.start so.0 c.in-Some.sender next so.1,
      channels_next c.args.receiver c.args.channel senders now c.loop-sender.start so.0 c.in-Some.sender next so.2,
      ap (λ (s : SideParts _ _ _ _). record s { senders = with_sender_at now c.in-Some.sender (channel_cleared c.args.receiver c.args.channel) }) so.3,
    )

pub returns : goal.returns
returns g c =
    let so = c.loop-sender.invariant in
    so.3 ∙ ap (λ ls. record c.args.self.now { senders = ls }) (cleared_whole c.args.receiver c.args.channel c.args.self.now.senders
    c.loop-sender.self.senders c.loop-sender.start so.0 c.in_default.ensures.next)
