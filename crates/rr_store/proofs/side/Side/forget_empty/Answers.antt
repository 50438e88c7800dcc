use Rattle.std.proofs.Common.{◌<◌, length, map, refl, sym, ap, ◌∙◌}
use Rattle.std.proofs.lemmas.Bool.{false≢true}
use Rattle.rr_sender.specs.Senders.{queue_at}
use Rattle.rr_store.specs.Parts.{Sender}
use Rattle.rr_store.specs.Ports.{sender_part}
use Rattle.rr_store.proofs.base.lookups.Asking.{sender_is, senders_many}
use Rattle.rr_store.proofs.base.senders.Noted.{gone_noted, set_within}
use Rattle.rr_store.proofs.receiving.NextSender.{empty_of}
use Rattle.rr_store.proofs.side.Side.forget_empty.Goals as goal

pub invariant_of-self : goal.invariant_of-self
invariant_of-self g c =
    let items = c.self.inside.senders.items in
    let senders = map sender_part items in
    let there = rw (← c.self.view_is) at c.requires.sender in
    let row = rw (← c.self.view_is) at c.requires.receiver in
    let column = rw (← c.self.view_is) at c.requires.channel in
    let is = sender_is items c.args.sender c.index.result.now (senders_many items c.args.sender there) c.index.ensures in
    gone_noted c.self.inside.waiting c.forget.new.self senders senders c.self.invariant refl (λ l. refl) (λ l r. refl) c.forget.ensures.rest
    c.args.receiver c.args.channel c.args.sender c.forget.ensures.forgotten
    (ap (λ (l : Sender _ _ _). queue_at l.messages c.args.receiver c.args.channel) is
    ∙ empty_of (queue_at c.index.result.now.messages c.args.receiver c.args.channel)
    (λ h. false≢true (sym c.if-not-has_entries.true ∙ c.has_entries.ensures.1 h)))
    (set_within c.self.inside.waiting senders c.self.invariant c.args.sender c.args.receiver c.args.channel there row column).0 (λ l r n some. some)
