use Rattle.std.proofs.Common.{◌≡◌, Some, refl, sym, subst}
use Rattle.std.specs.Prelude.{slice_get}
use Rattle.rr_slots.specs.Pools.{with_element_at}
use Rattle.rr_sender.specs.Senders.{content_at, with_changed_at}
use Rattle.rr_store.proofs.base.senders.Stored.{sent_set, stored_is}
use Rattle.rr_store.proofs.base.senders.Noted.{sender_noted}
use Rattle.rr_store.proofs.side.Side.element_mut.Goals as goal

pub returns : goal.returns
returns g c =
    rw (← c.self.view_is)
    (let there = rw (← c.self.view_is) at c.requires.sender in (
      (refl, λ w. sent_set c.self.inside c.args.sender _ there c.index_mut.ensures.value _ (λ m. with_changed_at m c.args.slot (with_element_at c.args.index w)) refl),
      record {
        lends = tt;
        value = subst (λ l. slice_get (content_at l.messages c.args.slot).elements c.args.index ≡ Some c.get_mut.result.now)
            (sym (stored_is c.self.inside.senders.items c.args.sender _ there c.index_mut.ensures.value)) c.get_mut.ensures.value;
      },
    ))

pub invariant_of-self-lent : goal.invariant_of-self-lent
invariant_of-self-lent g c w =
    sender_noted _ c.self.inside.senders.items c.args.sender _ _ (rw (← c.self.view_is) at c.requires.sender) c.index_mut.ensures.value
    (refl) c.self.invariant
