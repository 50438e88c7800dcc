use Rattle.std.proofs.Common.{◌<◌, length, refl, ap, subst, arith}
use Rattle.std.specs.Prelude.{◌+◌, ◌*◌}
use Rattle.rr_store.specs.Releasing.{without_mark}
use Rattle.rr_store.specs.Parts.{Sender}
use Rattle.rr_store.specs.SideInside.{side_of}
use Rattle.rr_store.proofs.base.lookups.Asking.{senders_many}
use Rattle.rr_store.proofs.base.senders.Stored.{stored_changed, stored_is}
use Rattle.rr_store.proofs.base.senders.Noted.{sender_noted}
use Rattle.rr_store.proofs.side.Side.clear_mark.Goals as goal
use Rattle.rr_store.proofs.side.Side.clear_mark.Goals.{After-index_mut}

-- the mark lies within the row of marks
within : (g : _) (c : After-index_mut g) → c.args.slot * c.args.receivers + c.args.receiver < length c.index_mut.result.now.may_answer.items
within g c =
    subst (λ (l : Sender _ _ _). c.args.slot * c.args.receivers + c.args.receiver < length l.may_answer)
    (stored_is c.self.inside.senders.items c.args.sender c.index_mut.result.now (rw (← c.self.view_is) at c.requires.sender)
    c.index_mut.ensures.value) (rw (← c.self.view_is) at c.requires.mark)

pub overflow_mul-slot : goal.overflow_mul-slot
overflow_mul-slot g c =
    omega (arith, within g (goal.at.overflow_mul-slot g c).After-index_mut, c.index_mut.result.now.may_answer.ok)

pub overflow_add-slot : goal.overflow_add-slot
overflow_add-slot g c =
    omega (arith, within g (goal.at.overflow_add-slot g c).After-index_mut, c.index_mut.result.now.may_answer.ok)

pub index_mut-requires-2 : goal.index_mut-requires-2
index_mut-requires-2 g c =
    omega (arith, within g (goal.at.index_mut-requires-2 g c).After-index_mut, c.index_mut.result.now.may_answer.ok.0)

pub returns : goal.returns
returns g c =
    let items = c.self.inside.senders.items in
    let there = rw (← c.self.view_is) at c.requires.sender in
    rw (← c.self.view_is) (ap (λ ls. record (side_of c.self.inside) { senders = ls })
    (stored_changed items c.args.sender c.index_mut.result.now (senders_many items c.args.sender there) c.index_mut.ensures.value _
    (without_mark (c.args.slot * c.args.receivers + c.args.receiver)) refl))

pub invariant_of-self : goal.invariant_of-self
invariant_of-self g c =
    sender_noted _ c.self.inside.senders.items c.args.sender _ _ (rw (← c.self.view_is) at c.requires.sender) c.index_mut.ensures.value
    (refl) c.self.invariant
