use Rattle.std.proofs.Common.{◌≡◌, [], length, get_or, map, sym, ap, ◌∙◌, arith}
use Rattle.std.specs.Prelude.{slice_index_or}
use Rattle.rr_store.specs.Parts.{Sender}
use Rattle.rr_store.specs.Ports.{sender_part}
use Rattle.rr_store.specs.Views.{sender_of}
use Rattle.rr_store.proofs.base.lookups.Asking.{sender_is}
use Rattle.rr_store.proofs.leaving.Expiring.{any_queued, queued_is}
use Rattle.rr_store.proofs.side.leaving.has_queued.Goals as goal
use Rattle.rr_store.proofs.side.leaving.has_queued.Goals.{After-index-senders-sender}

-- the sender that was read
read : (g : _) (c : After-index-senders-sender g)
    → sender_of c.args.sender (map sender_part c.args.senders.now)
    ≡ sender_part (get_or c.args.senders.now c.args.sender c.index-senders-sender.result)
read g c =
    sender_is c.args.senders.now c.args.sender c.index-senders-sender.result c.requires.sender c.index-senders-sender.is
    ∙ ap sender_part c.index-senders-sender.is

pub has_any-requires : goal.has_any-requires
has_any-requires g c = omega (arith, c.requires.queues, ap (λ (l : Sender _ _ _). length l.messages.queues) (read g c))

pub returns : goal.returns
returns g c =
    let at = goal.at.returns g c in
    queued_is c.has_any.result _ c.has_any.ensures
    ∙ ap (λ (l : Sender _ _ _). any_queued (slice_index_or l.messages.queues c.args.receiver []))
    (sym (read g at.After-index-senders-sender))
