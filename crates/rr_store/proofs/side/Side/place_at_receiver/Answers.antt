use Rattle.std.proofs.Common.{◌≡◌, ◌<◌, ◌+◌, ◌*◌, ◌^◌, ℕ, length, map, sym, ap, ◌∙◌, subst, arith}
use Rattle.rr_table.specs.declared.place.Place.{Place}
use Rattle.rr_store.specs.Parts.{Sender}
use Rattle.rr_store.specs.Ports.{sender_part}
use Rattle.rr_store.specs.Views.{sender_of}
use Rattle.rr_store.proofs.base.senders.Stored.{stored_is}
use Rattle.rr_store.proofs.side.Side.place_at_receiver.Goals as goal
use Rattle.rr_store.proofs.side.Side.place_at_receiver.Goals.{After-slots}

-- the sender that was read
read : (g : _) (c : After-slots g)
    → sender_of c.args.sender (map sender_part c.self.inside.senders.items) ≡ sender_part c.index-owned.result.now
read g c =
    let there = rw (← c.self.view_is) at c.requires.sender in
    stored_is c.self.inside.senders.items c.args.sender c.index-owned.result.now there c.index-owned.ensures

-- the index fits
fits : (g : _) (c : After-slots g) → (c.args.receiver + 1) * c.slots.result + c.args.slot < 2 ^ 64
fits g c =
    let asked = rw (← c.self.view_is) at c.requires.slot in
    subst (λ n. (c.args.receiver + 1) * n + c.args.slot < 2 ^ 64)
    (ap (λ (l : Sender _ _ _). length l.messages.held) (read g c) ∙ sym c.slots.ensures) asked

pub overflow_mul-index : goal.overflow_mul-index
overflow_mul-index g c = omega (arith, fits g c)

pub overflow_add-index-2 : goal.overflow_add-index-2
overflow_add-index-2 g c = omega (arith, fits g c)

-- a place in the row of the receiver
abbrev place : ℕ → ℕ → ℕ → ℕ → Place
place receiver slot row slots = record { row = row; index = (receiver + 1) * slots + slot }

pub returns : goal.returns
returns g c =
    rw (← c.self.view_is) (ap (place c.args.receiver c.args.slot c.index-owned.result.now.row) c.slots.ensures
    ∙ ap (λ (l : Sender _ _ _). place c.args.receiver c.args.slot l.row (length l.messages.held)) (sym (read g c)))
