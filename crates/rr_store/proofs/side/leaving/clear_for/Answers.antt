use Rattle.std.proofs.Common.{length, ap, arith}
use Rattle.std.specs.Prelude.{◌==◌}
use Rattle.rr_store.specs.Parts.{Sender}
use Rattle.rr_store.proofs.base.lookups.Asking.{sender_is}
use Rattle.rr_store.proofs.leaving.Expiring.{stored_drained}
use Rattle.rr_store.proofs.side.leaving.clear_for.Goals as goal

pub clear_receiver-requires : goal.clear_receiver-requires
clear_receiver-requires g c =
    omega (
      arith,
      c.requires.queues,
      ap (λ (l : Sender _ _ _). length l.messages.queues)
          (sender_is c.args.senders.now.items c.args.sender c.index_mut.result.now c.requires.sender c.index_mut.ensures.value),
    )

pub returns : goal.returns
returns g c =
    stored_drained (λ r. r == c.args.receiver) c.args.senders.now.items c.args.sender c.index_mut.result.now c.requires.sender
    c.index_mut.ensures.value c.clear_receiver.new.self c.clear_receiver.ensures
