use Rattle.std.proofs.Common.{◌≡◌, [], ◌∷◌, ◌++◌, ℕ, length, map, refl, sym, ap, subst, ◌∙◌, arith}
use Rattle.std.proofs.lemmas.List.{length-map}
use Rattle.rr_store.specs.KnownWaiting.{KnowsWaiting}
use Rattle.rr_store.specs.Ports.{sender_part}
use Rattle.rr_store.specs.Creating.{new_sender}
use Rattle.rr_store.specs.Parts.{Sender}
use Rattle.rr_store.specs.SideInside.{side_of}
use Rattle.rr_store.proofs.base.senders.Inserted.{changed, new_last}
use Rattle.rr_store.proofs.base.senders.Ready.{grown_noted, last_noted}
use Rattle.rr_store.proofs.side.Side.insert.Goals as goal
use Rattle.rr_store.proofs.side.Side.insert.Goals.{After-reserve}

-- how many senders there are
many : (g : _) (c : After-reserve g) → c.len-count.result ≡ length (map sender_part c.self.inside.senders.items)
many g c = omega (arith, c.len-count.ensures, c.self.inside.senders.ok.0, length-map c.self.inside.senders.items sender_part)

-- what is known of them still
still : (g : _) (c : After-reserve g) → KnowsWaiting c.reserve.new.self (map sender_part c.self.inside.senders.items)
still g c =
    grown_noted c.self.inside.waiting c.reserve.new.self (map sender_part c.self.inside.senders.items) c.len-count.result (many g c)
    c.reserve.ensures.grown c.self.invariant

pub invariant_of-self : goal.invariant_of-self
invariant_of-self g c = still g (goal.at.invariant_of-self g c).After-reserve

pub invariant_of-self-in_err-row : goal.invariant_of-self-in_err-row
invariant_of-self-in_err-row g c =
    subst (λ xs. KnowsWaiting c.reserve.new.self (map sender_part xs)) (sym c.reserve_row.ensures.senders)
    (still g (goal.at.invariant_of-self-in_err-row g c).After-reserve)

pub invariant_of-self-2 : goal.invariant_of-self-2
invariant_of-self-2 g c =
    let at = (goal.at.invariant_of-self-2 g c).After-reserve in
    last_noted c.reserve.new.self c.self.inside.senders.items (still g at) _ _ _ c.push_reserved.ensures.items c.reserve_row.ensures.senders
    c.args.receivers c.args.channels c.len-count.result (rw (← c.self.view_is) at c.requires.alike) c.requires.unsent (many g at)
    c.in_ok-reserve.ensures.ready

pub push_reserved-requires : goal.push_reserved-requires
push_reserved-requires g c = c.in_ok-row.ensures.sender_room

pub push_reserved-requires-2 : goal.push_reserved-requires-2
push_reserved-requires-2 g c = c.in_ok-row.ensures.port_room

pub returns-clause-ok : goal.returns-clause-ok
returns-clause-ok g c =
    let s = side_of c.self.inside in
    let new : ℕ → ℕ → ℕ → Sender _ _ _ = λ owner row receiver. new_sender owner row receiver c.args.may_answer.items c.args.messages in
    rw (← c.self.view_is) (changed s
    (new_last _ c.push_reserved.ensures.items c.reserve_row.ensures.senders new refl c.details-details.ensures.id c.in_ok-row.ensures.row
    c.details-details.ensures.receiver)
    (c.push_reserved-2.ensures.items ∙ ap (λ xs. xs ++ c.args.port ∷ []) c.reserve_row.ensures.ports) refl refl)
