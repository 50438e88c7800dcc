use Rattle.std.proofs.Common.{map, refl, ap, arith}
use Rattle.rr_store.specs.Clearing.{channel_cleared}
use Rattle.rr_store.specs.Sides.{SideParts}
use Rattle.rr_store.proofs.leaving.Channels.{channels_still, drained_for, drained_next, drained_start, queues_still}
use Rattle.rr_store.proofs.side.Side.clear_for.Goals as goal

pub loop-channel-init : goal.loop-channel-init
loop-channel-init g c = (drained_start c.args.receiver c.args.self.now.senders, refl)

pub clear_channel-requires-clause-receiver : goal.clear_channel-requires-clause-receiver
clear_channel-requires-clause-receiver g c =
    queues_still c.args.receiver c.args.self.now.senders c.loop-channel.self.senders c.loop-channel.channel c.loop-channel.invariant.0 c.requires

pub clear_channel-requires-clause-channel : goal.clear_channel-requires-clause-channel
clear_channel-requires-clause-channel g c =
    channels_still c.args.receiver c.args.self.now.senders c.loop-channel.self.senders c.loop-channel.channel c.loop-channel.invariant.0 c.requires
    c.channels-channel-end.result c.channels-channel-end.ensures c.loop-channel-test.true

pub loop-channel-preserved : goal.loop-channel-preserved
loop-channel-preserved g c =
    let before = c.args.self.now.senders in
    let now = c.loop-channel.self.senders in
    let n = c.loop-channel.channel in
    let so = c.loop-channel.invariant in
    rw c.clear_channel.ensures (
      drained_next c.args.receiver before now n so.0 c.requires (channels_still c.args.receiver before now n so.0 c.requires
          c.channels-channel-end.result c.channels-channel-end.ensures c.loop-channel-test.true),
      ap (λ (s : SideParts _ _ _ _). record s { senders = map (channel_cleared c.args.receiver n) now }) so.1,
    )

pub returns-clause-rest : goal.returns-clause-rest
returns-clause-rest g c = c.loop-channel.invariant.1

pub returns-clause-drained : goal.returns-clause-drained
returns-clause-drained g c =
    drained_for c.args.receiver c.args.self.now.senders c.loop-channel.self.senders c.loop-channel.channel c.loop-channel.invariant.0 c.requires
    (λ l r there row. let wide = c.channels-channel-end.ensures l r there row in omega (arith, wide, c.loop-channel-test.false))
