use Rattle.std.proofs.Common.{◌≡◌, ◌<◌, [], length, map, sym, ap, subst, ◌∙◌}
use Rattle.std.specs.Prelude.{slice_index_or}
use Rattle.rr_store.specs.Parts.{Sender}
use Rattle.rr_store.specs.Ports.{sender_part}
use Rattle.rr_store.specs.SideInside.{side_of}
use Rattle.rr_store.specs.Skimming.{SkimsSender}
use Rattle.rr_store.specs.Views.{sender_of}
use Rattle.rr_store.proofs.base.lists.Replaced.{map-set_one}
use Rattle.rr_store.proofs.base.senders.Fewer.{sender_fewer}
use Rattle.rr_store.proofs.base.senders.Stored.{stored_is}
use Rattle.rr_store.proofs.receiving.request.Skims.{skims_fewer}
use Rattle.rr_store.proofs.side.skimming.Side+B+RequestDetails+H+P.skim_front.Goals as goal
use Rattle.rr_store.proofs.side.skimming.Side+B+RequestDetails+H+P.skim_front.Goals.{After-index_mut}

-- the sender that is lent
lent : (g : _) (c : After-index_mut g)
    → sender_of c.args.sender (map sender_part c.self.inside.senders.items) ≡ sender_part c.index_mut.result.now
lent g c = stored_is c.self.inside.senders.items c.args.sender c.index_mut.result.now (rw (← c.self.view_is) at c.requires.sender) c.index_mut.ensures.value

pub skim_sender-requires-clause-receiver : goal.skim_sender-requires-clause-receiver
skim_sender-requires-clause-receiver g c =
    let queues = rw (← c.self.view_is) at c.requires.receiver in
    subst (λ (l : Sender _ _ _). c.args.receiver < length l.messages.queues) (lent g (goal.at.skim_sender-requires-clause-receiver g c).After-index_mut)
    (queues c.args.sender (rw (← c.self.view_is) at c.requires.sender))

pub skim_sender-requires-clause-channel : goal.skim_sender-requires-clause-channel
skim_sender-requires-clause-channel g c =
    let channels = rw (← c.self.view_is) at c.requires.channel in
    subst (λ (l : Sender _ _ _). 0 < length (slice_index_or l.messages.queues c.args.receiver []))
    (lent g (goal.at.skim_sender-requires-clause-channel g c).After-index_mut) (channels c.args.sender (rw (← c.self.view_is) at c.requires.sender))

pub invariant_of-self : goal.invariant_of-self
invariant_of-self g c =
    sender_fewer _ c.self.inside.senders.items c.args.sender c.index_mut.result.now _ (rw (← c.self.view_is) at c.requires.sender)
    c.index_mut.ensures.value (skims_fewer c.args.table.now c.args.receiver c.skim_sender.ensures.skimmed.0 _ _ c.skim_sender.ensures.skimmed.1)
    c.self.invariant

pub returns : goal.returns
returns g c =
    let many = c.skim_sender.ensures.skimmed.0 in
    rw (← c.self.view_is) record {
      it = sender_part c.skim_sender.new.sender;
      steps = many;
      skims = subst (λ l. SkimsSender c.args.table.now c.args.receiver many l (sender_part c.skim_sender.new.sender))
          (sym (lent g (goal.at.returns g c).After-index_mut)) c.skim_sender.ensures.skimmed.1;
      front = c.skim_sender.ensures.front;
      remains = c.skim_sender.ensures.remaining;
      is = ap (λ ls. record (side_of c.self.inside) { senders = ls }) (map-set_one sender_part c.self.inside.senders.items c.args.sender c.skim_sender.new.sender);
    }
