use Rattle.std.proofs.Common.{map, ap, ◌∙◌}
use Rattle.std.specs.Prelude.{slice_set}
use Rattle.std.proofs.lemmas.List.{set-get_or}
use Rattle.rr_sender.specs.Senders.{loaned}
use Rattle.rr_store.specs.Ports.{sender_part}
use Rattle.rr_store.specs.SideInside.{side_of}
use Rattle.rr_store.specs.Writing.{with_messages}
use Rattle.rr_store.proofs.base.senders.Noted.{sender_noted}
use Rattle.rr_store.proofs.base.senders.Stored.{sent_set}
use Rattle.rr_store.proofs.side.Side.loan.Goals.{in-Ok, in-Err}
use Rattle.rr_store.proofs.side.Side.loan.Goals as goal

pub invariant_of-self : goal.invariant_of-self
invariant_of-self g c =
    let there = rw (← c.self.view_is) at c.requires.sender in
    elim c.match-loan.branch [
      | in-Ok w ↦ rw w.self-inside-is (sender_noted _ c.self.inside.senders.items c.args.sender _ _ there c.index_mut-owned.ensures.value
          (ap (λ m. m.queues) w.in-Ok.ensures.ok) c.self.invariant)
      | in-Err w ↦ rw w.self-inside-is (sender_noted _ c.self.inside.senders.items c.args.sender _ _ there c.index_mut-owned.ensures.value
          (ap (λ m. m.queues) w.in-Err.ensures.err) c.self.invariant)
    ]

pub returns-clause-ok : goal.returns-clause-ok
returns-clause-ok g c =
    let there = rw (← c.self.view_is) at c.requires.sender in
    elim c.match-loan.branch [
      | in-Ok w ↦ rw (w.result-is, w.self-inside-is, ← c.self.view_is) (sent_set c.self.inside c.args.sender _ there c.index_mut-owned.ensures.value _
          (λ m. loaned m w.in-Ok.slot c.args.len c.args.details c.args.user_header) w.in-Ok.ensures.ok)
      | in-Err w ↦ rw w.result-is tt
    ]

pub returns-clause-err : goal.returns-clause-err
returns-clause-err g c =
    let items = c.self.inside.senders.items in
    let x = c.index_mut-owned.result.now in
    elim c.match-loan.branch [
      | in-Ok w ↦ rw w.result-is tt
      | in-Err w ↦ rw (w.result-is, w.self-inside-is, ← c.self.view_is) (ap (λ m. record (side_of c.self.inside) {
        senders = map sender_part (slice_set items c.args.sender (with_messages x m));
      }) w.in-Err.ensures.err ∙ ap (λ ys. record (side_of c.self.inside) { senders = map sender_part ys })
          (ap (slice_set items c.args.sender) c.index_mut-owned.ensures.value ∙ set-get_or items c.args.sender x))
    ]
