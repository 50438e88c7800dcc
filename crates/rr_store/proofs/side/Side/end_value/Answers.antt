use Rattle.std.proofs.Common.{◌≡◌, ◌<◌, length, refl, ap, ◌∙◌, arith}
use Rattle.std.specs.Prelude.{slice_set}
use Rattle.std.proofs.lemmas.List.{length-map}
use Rattle.rr_store.specs.Leaving.{valueless}
use Rattle.rr_store.specs.Loaning.{with_sender_at}
use Rattle.rr_store.specs.Ports.{sender_part}
use Rattle.rr_store.specs.SideInside.{side_of}
use Rattle.rr_store.proofs.base.senders.Noted.{sender_noted}
use Rattle.rr_store.proofs.base.senders.Ports.{asked_within, of_read, to_read}
use Rattle.rr_store.proofs.base.senders.Stored.{stored_changed}
use Rattle.rr_store.proofs.side.Side.end_value.Goals.{After-details-sender}
use Rattle.rr_store.proofs.side.Side.end_value.Goals as goal

-- the port's sender is there
its_sender : (g : _) (c : After-details-sender g) → c.details-sender.result.sender < length c.self.inside.senders.items
its_sender g c =
    let s = side_of c.self.inside in
    omega (
      arith,
      of_read c.self.inside.ports.items c.args.index c.index_mut-port.result.now c.index_mut-port.ensures.value
          (λ p. g.P.ConnectedPort.sender p < length s.senders) (rw (← c.self.view_is) at c.requires.sender),
      c.details-sender.ensures.sender,
      length-map c.self.inside.senders.items sender_part,
    )

pub index_mut-requires : goal.index_mut-requires
index_mut-requires g c =
    let there = its_sender g (goal.at.index_mut-requires g c).After-details-sender in
    omega (arith, there, c.self.inside.senders.ok.0)

pub returns : goal.returns
returns g c =
    let s = side_of c.self.inside in
    let i = c.args.index in
    let within = asked_within s.ports i (λ p. g.P.ConnectedPort.sender p < length s.senders) (rw (← c.self.view_is) at c.requires.sender) in
    let changed = stored_changed c.self.inside.senders.items c.details-sender.result.sender c.index_mut.result.now
    (its_sender g (goal.at.returns g c).After-details-sender) c.index_mut.ensures.value _ valueless refl in
    rw (← c.self.view_is) (to_read s.ports i c.index_mut-port.result.now c.index_mut-port.ensures.value
    (λ p. _ ≡ record s {
      ports = slice_set s.ports i (g.P.ConnectedPort.valueless p);
      senders = with_sender_at s.senders (g.P.ConnectedPort.sender p) valueless;
    })
    within
    (λ k. record s {
      ports = slice_set s.ports i (c.end_value.ensures k);
      senders = (changed ∙ ap (λ n. with_sender_at s.senders n valueless) c.details-sender.ensures.sender) k;
    }))

pub invariant_of-self : goal.invariant_of-self
invariant_of-self g c =
    let items = c.self.inside.senders.items in
    let there = its_sender g (goal.at.invariant_of-self g c).After-details-sender in
    sender_noted _ items c.details-sender.result.sender _ _ (omega (arith, there, length-map items sender_part)) c.index_mut.ensures.value refl
    c.self.invariant
