use Rattle.std.proofs.Common.{◌≡◌, ◌<◌, [], ◌∷◌, ◌++◌, ℕ, length, map, sym, ap, ◌∙◌, subst, arith}
use Rattle.rr_table.specs.TableView.{IsRenewed}
use Rattle.rr_store.specs.Creating.{new_sender}
use Rattle.rr_store.specs.Parts.{Sender}
use Rattle.rr_store.specs.Ports.{sender_part}
use Rattle.rr_store.specs.SideInside.{side_of}
use Rattle.rr_store.specs.Views.{sender_of}
use Rattle.rr_store.proofs.base.lists.Replaced.{map-set_one}
use Rattle.rr_store.proofs.base.senders.Inserted.{changed, new_set, row_is, sender_read}
use Rattle.rr_store.proofs.base.senders.Ready.{again_noted}
use Rattle.rr_store.proofs.side.Side.insert_again.Goals as goal
use Rattle.rr_store.proofs.side.Side.insert_again.Goals.{After-index}

-- the row that was read
read : (g : _) (c : After-index g)
    → (sender_of (g.P.ConnectedPort.sender c.args.port) (side_of c.self.inside).senders).row ≡ c.index.result.now.row
read g c =
    row_is c.self.inside.senders.items _ _ (rw (← c.self.view_is) at c.requires.sender) c.details-details.ensures.sender
    c.index.result.now c.index.ensures

pub index-requires : goal.index-requires
index-requires g c =
    omega (arith, sender_read c.self.inside.senders.items (rw (← c.self.view_is) at c.requires.sender) c.details-details.ensures.sender, c.self.inside.senders.ok.0)

pub index_mut-requires : goal.index_mut-requires
index_mut-requires g c =
    omega (arith, sender_read c.self.inside.senders.items (rw (← c.self.view_is) at c.requires.sender) c.details-details.ensures.sender, c.self.inside.senders.ok.0)

pub renew_row-requires : goal.renew_row-requires
renew_row-requires g c =
    subst (λ n. n < length c.args.table.now.rows) (read g (goal.at.renew_row-requires g c).After-index)
    (rw (← c.self.view_is) at c.requires.row)

pub returns-clause-renewed : goal.returns-clause-renewed
returns-clause-renewed g c =
    rw (← c.self.view_is) (subst (λ r. IsRenewed r c.args.row_len c.args.table.now c.renew_row.new.table)
    (sym (read g (goal.at.returns-clause-renewed g c).After-index)) c.in_ok-renew_row.ensures.ok)

pub returns-clause-ok : goal.returns-clause-ok
returns-clause-ok g c =
    let s = side_of c.self.inside in
    let port = c.details-details in
    let new : ℕ → ℕ → ℕ → Sender _ _ _ = λ owner row receiver. new_sender owner row receiver c.args.may_answer.items c.args.messages in
    rw (← c.self.view_is) (changed s
    (map-set_one sender_part c.self.inside.senders.items port.result.sender _
    ∙ new_set s.senders new port.ensures.sender port.ensures.id
    (sym (read g (goal.at.returns-clause-ok g c).After-index)) port.ensures.receiver)
    (c.push_reserved.ensures.items ∙ ap (λ xs. xs ++ c.args.port ∷ []) c.renew_row.ensures.ports) c.remove.ensures.items
    c.remove.ensures.capacity)

pub invariant_of-self-2 : goal.invariant_of-self-2
invariant_of-self-2 g c =
    let senders = map sender_part c.self.inside.senders.items in
    again_noted c.self.inside.waiting c.self.inside.senders.items c.self.invariant _ c.details-details.result.sender
    (subst (λ n. n < length senders) (sym c.details-details.ensures.sender) (rw (← c.self.view_is) at c.requires.sender))
    (rw (← c.self.view_is) at c.requires.again)
