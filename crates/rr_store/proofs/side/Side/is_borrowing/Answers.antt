use Rattle.std.proofs.Common.{◌≡◌, ◌<◌, Some, length, map, nat_lt, sym, ap, ◌∙◌}
use Rattle.std.specs.Prelude.{[], slice_get, slice_index_or}
use Rattle.std.specs.List.{list_any}
use Rattle.std.proofs.lemmas.List.{take_all}
use Rattle.rr_table.proofs.Members.{any_there}
use Rattle.rr_store.specs.Leaving.{is_borrowing}
use Rattle.rr_store.specs.Parts.{Sender}
use Rattle.rr_store.specs.Ports.{sender_part}
use Rattle.rr_store.proofs.base.lists.ReadAt.{item_at}
use Rattle.rr_store.proofs.base.views.Counts.{listed}
use Rattle.rr_store.proofs.querying.Used.{each_stored}
use Rattle.rr_store.proofs.side.Side.is_borrowing.Goals.{After-sender-item}
use Rattle.rr_store.proofs.side.Side.is_borrowing.Goals as goal

-- the sender whose turn it is
its : (g : _) (c : After-sender-item g) → slice_get c.deref-sender-items.result.now c.loop-sender.sender-index ≡ Some c.sender-item.result
its g c =
    item_at c.deref-sender-items.result.now c.loop-sender.sender-index c.sender-item.result c.loop-sender-test.true c.sender-item.is

pub has_borrowed-requires : goal.has_borrowed-requires
has_borrowed-requires g c =
    each_stored c.self.inside.senders.items c.deref-sender-items.result.now c.deref-sender-items.ensures.value
    (λ (l : Sender _ _ _). c.args.receiver < length l.messages.borrowed) (rw (← c.self.view_is) at c.requires)
    c.loop-sender.sender-index c.sender-item.result (its g (goal.at.has_borrowed-requires g c).After-sender-item)

pub returns-then-has_borrowed : goal.returns-then-has_borrowed
returns-then-has_borrowed g c =
    let senders = c.deref-sender-items.result.now in
    let sender = c.sender-item.result in
    rw (← c.self.view_is) (sym (any_there
    (λ (l : Sender _ _ _). list_any (λ n. nat_lt 0 n) (slice_index_or l.messages.borrowed c.args.receiver []))
    (map sender_part senders) c.loop-sender.sender-index (sender_part sender)
    (listed sender_part senders c.loop-sender.sender-index sender (its g (goal.at.returns-then-has_borrowed g c).After-sender-item))
    (sym c.has_borrowed.ensures ∙ c.if-has_borrowed.true))
    ∙ ap (λ ls. is_borrowing (map sender_part ls) c.args.receiver) c.deref-sender-items.ensures.value)

pub returns : goal.returns
returns g c =
    let senders = c.deref-sender-items.result.now in
    rw (← c.self.view_is) (sym (ap (λ ls. is_borrowing (map sender_part ls) c.args.receiver)
    (sym (take_all c.loop-sender.sender-index senders c.loop-sender-test.false)) ∙ c.loop-sender.invariant)
    ∙ ap (λ ls. is_borrowing (map sender_part ls) c.args.receiver) c.deref-sender-items.ensures.value)
