use Rattle.std.proofs.Common.{◌≡◌, ◌<◌, ◌+◌, ◌*◌, ◌^◌, ℕ, List, Some, length, map, refl, sym, ap, ◌∙◌, subst, arith}
use Rattle.std.specs.Prelude.{slice_get, slice_index}
use Rattle.std.specs.Vec.{with_item}
use Rattle.std.proofs.lemmas.List.{drop_all, length-map, length-set}
use Rattle.std.proofs.lemmas.Simd.{map-map}
use Rattle.rr_sender.specs.Senders.{Messages, uses}
use Rattle.rr_store.specs.declared.port.OwnedSender.{OwnedSender}
use Rattle.rr_store.specs.declared.port.ServerPort.{ServerPort}
use Rattle.rr_store.specs.Parts.{Sender, ServerPart}
use Rattle.rr_store.specs.Ports.{sender_part, server_part}
use Rattle.rr_store.specs.Sending.{HasQueues, after_puts, after_queued, receivers_of, with_marks}
use Rattle.rr_store.specs.SideInside.{side_of}
use Rattle.rr_store.specs.Views.{sender_of}
use Rattle.rr_store.proofs.base.lists.ReadAt.{item_at}
use Rattle.rr_store.proofs.base.lookups.Asking.{senders_many}
use Rattle.rr_store.proofs.base.senders.Stored.{stored_changed, stored_is}
use Rattle.rr_store.proofs.sending.put.All.{mark_next, put_next}
use Rattle.rr_store.proofs.sending.put.Came.{IsPutTo, each_noted, put_to}
use Rattle.rr_store.proofs.base.senders.Noted.{has_place}
use Rattle.rr_store.proofs.side.Side.queue.Goals.{After-index_mut-owned, After-loop-server, After-server-item}
use Rattle.rr_store.proofs.side.Side.queue.Goals as goal

-- the sender that is lent
lent : (g : _) (c : After-index_mut-owned g)
    → sender_of c.args.sender (map sender_part c.self.inside.senders.items) ≡ sender_part c.index_mut-owned.result.now
lent g c =
    stored_is c.self.inside.senders.items c.args.sender c.index_mut-owned.result.now (rw (← c.self.view_is) at c.requires.sender)
    c.index_mut-owned.ensures.value

-- what is asked of it
takes : (g : _) (c : After-index_mut-owned g) → (0 < c.index_mut-owned.result.now.messages.capacity)
    × (0 < slice_index c.index_mut-owned.result.now.messages.held c.args.slot)
    × (uses c.index_mut-owned.result.now.messages c.args.slot + length c.args.servers.now < 2 ^ 64)
takes g c =
    subst (λ (l : Sender _ _ _). (0 < l.messages.capacity) × (0 < slice_index l.messages.held c.args.slot)
    × (uses l.messages c.args.slot + length c.args.servers.now < 2 ^ 64)) (lent g c) (rw (← c.self.view_is) at c.requires.takes)

-- the server whose turn it is
its : (g : _) (c : After-server-item g) → slice_get c.args.servers.now c.loop-server.server-index ≡ Some c.server-item.result
its g c = item_at c.args.servers.now c.loop-server.server-index c.server-item.result c.loop-server-test.true c.server-item.is

-- each server's mark lies within the row of marks, which keeps its length
within : (g : _) (c : After-index_mut-owned g) (i : ℕ) (s : ServerPort _) → slice_get c.args.servers.now i ≡ Some s
    → c.args.slot * c.args.receivers + s.port.receiver < length c.index_mut-owned.result.now.may_answer.items
within g c =
    subst (λ (l : Sender _ _ _). (i : ℕ) (s : ServerPort _) → slice_get c.args.servers.now i ≡ Some s
    → c.args.slot * c.args.receivers + s.port.receiver < length l.may_answer)
    (lent g c) (rw (← c.self.view_is) at c.requires.marks)

pub index_mut-owned-requires : goal.index_mut-owned-requires
index_mut-owned-requires g c =
    omega (
      arith,
      senders_many c.self.inside.senders.items c.args.sender (rw (← c.self.view_is) at c.requires.sender),
      c.self.inside.senders.ok.0,
    )

pub loop-server-init : goal.loop-server-init
loop-server-init g c = (
  record {
    rest = refl;
    queues = subst (λ (l : Sender _ _ _). HasQueues l.messages c.args.servers.now)
        (lent g (goal.at.loop-server-init g c).After-index_mut-owned) (rw (← c.self.view_is) at c.requires.queues);
    capacity = refl;
    held = refl;
    used = omega arith;
  },
  refl,
  refl,
  refl,
)

pub put-requires-clause-receiver : goal.put-requires-clause-receiver
put-requires-clause-receiver g c =
    (c.loop-server.invariant.0.queues c.loop-server.server-index c.server-item.result
    (its g (goal.at.put-requires-clause-receiver g c).After-server-item)).0

pub put-requires-clause-channel : goal.put-requires-clause-channel
put-requires-clause-channel g c =
    (c.loop-server.invariant.0.queues c.loop-server.server-index c.server-item.result
    (its g (goal.at.put-requires-clause-channel g c).After-server-item)).1

pub put-requires-clause-capacity : goal.put-requires-clause-capacity
put-requires-clause-capacity g c =
    let asked = takes g (goal.at.put-requires-clause-capacity g c).After-index_mut-owned in
    omega (arith, asked.0, c.loop-server.invariant.0.capacity)

pub put-requires-clause-held : goal.put-requires-clause-held
put-requires-clause-held g c =
    let asked = takes g (goal.at.put-requires-clause-held g c).After-index_mut-owned in
    omega (arith, asked.1, c.loop-server.invariant.0.held)

pub put-requires-clause-fits : goal.put-requires-clause-fits
put-requires-clause-fits g c =
    let asked = takes g (goal.at.put-requires-clause-fits g c).After-index_mut-owned in
    omega (arith, asked.2, c.loop-server.invariant.0.used, c.loop-server-test.true)

pub overflow_mul-slot : goal.overflow_mul-slot
overflow_mul-slot g c =
    let at = goal.at.overflow_mul-slot g c in
    let inside = within g at.After-index_mut-owned c.loop-server.server-index c.server-item.result (its g at.After-server-item) in
    omega (arith, inside, c.loop-server.invariant.2, c.loop-server.owned.may_answer.ok)

pub overflow_add-slot : goal.overflow_add-slot
overflow_add-slot g c =
    let at = goal.at.overflow_add-slot g c in
    let inside = within g at.After-index_mut-owned c.loop-server.server-index c.server-item.result (its g at.After-server-item) in
    omega (arith, inside, c.loop-server.invariant.2, c.loop-server.owned.may_answer.ok)

pub index_mut-requires : goal.index_mut-requires
index_mut-requires g c =
    let at = goal.at.index_mut-requires g c in
    let inside = within g at.After-index_mut-owned c.loop-server.server-index c.server-item.result (its g at.After-server-item) in
    omega (arith, inside, c.loop-server.invariant.2, c.loop-server.owned.may_answer.ok.0)

pub loop-server-preserved : goal.loop-server-preserved
loop-server-preserved g c =
    let at = its g (goal.at.loop-server-preserved g c).After-server-item in
    let first = c.index_mut-owned.result.now in (
      put_next c.args.overflow c.args.slot first.messages c.loop-server.owned.messages c.args.servers.now c.loop-server.server-index
          c.loop-server.invariant.0 c.server-item.result at c.put.new.self c.put.ensures,
      mark_next first.may_answer.items c.loop-server.owned.may_answer.items
          (λ s. (c.args.slot * c.args.receivers + s.port.receiver, s.port.id)) c.args.servers.now c.loop-server.server-index
          c.server-item.result at c.loop-server.invariant.1,
      length-set c.loop-server.owned.may_answer.items _ _ ∙ c.loop-server.invariant.2,
      ap (λ (o : OwnedSender _ _ _ _). record o {
        messages = c.put.new.self;
        may_answer = with_item c.loop-server.owned.may_answer
            (c.args.slot * c.args.receivers + c.server-item.result.port.receiver) c.server-item.result.port.id;
      }) c.loop-server.invariant.3,
    )

pub returns : goal.returns
returns g c =
    let items = c.self.inside.senders.items in
    let servers = c.args.servers.now in
    let overflow = c.args.overflow in
    let slot = c.args.slot in
    let receivers = c.args.receivers in
    let first = c.index_mut-owned.result.now in
    let x = sender_part first in
    let there = rw (← c.self.view_is) at c.requires.sender in
    let none = drop_all c.loop-server.server-index servers c.loop-server-test.false in
    let queued = ap (λ (ss : List (ServerPort _)). after_puts overflow slot c.loop-server.owned.messages (receivers_of ss)) (sym none)
    ∙ c.loop-server.invariant.0.rest
    ∙ ap (after_puts overflow slot x.messages) (sym (map-map (λ (s : ServerPart _). s.receiver) server_part servers)) in
    let marked = ap (λ (ss : List (ServerPort _)). with_marks c.loop-server.owned.may_answer.items
    (map (λ (s : ServerPort _). (slot * receivers + s.port.receiver, s.port.id)) ss)) (sym none)
    ∙ c.loop-server.invariant.1
    ∙ ap (with_marks x.may_answer) (sym (map-map (λ (s : ServerPart _). (slot * receivers + s.receiver, s.port.id)) server_part servers)) in
    rw (← c.self.view_is) (ap (λ ls. record (side_of c.self.inside) { senders = ls })
    (stored_changed items c.args.sender first (senders_many items c.args.sender there)
    c.index_mut-owned.ensures.value _ (after_queued overflow receivers slot (map server_part servers))
    (ap sender_part c.loop-server.invariant.3
    ∙ ap (λ m. record x { messages = m; may_answer = c.loop-server.owned.may_answer.items }) queued
    ∙ ap (λ ms. record (after_queued overflow receivers slot (map server_part servers) x) { may_answer = ms }) marked)))

-- what was put
puts : (g : _) (c : After-loop-server g) → c.loop-server.owned.messages ≡ after_puts c.args.overflow c.args.slot c.index_mut-owned.result.now.messages (receivers_of c.args.servers.now)
puts g c =
    ap (λ (ss : List (ServerPort _)). after_puts c.args.overflow c.args.slot c.loop-server.owned.messages (receivers_of ss))
    (sym (drop_all c.loop-server.server-index c.args.servers.now c.loop-server-test.false)) ∙ c.loop-server.invariant.0.rest

pub note_each-requires : goal.note_each-requires
note_each-requires g c several i s at =
    let items = c.self.inside.senders.items in
    let there = rw (← c.self.view_is) at c.requires.sender in
    let has = (rw (← c.self.view_is) at c.requires.queues) i s at in
    has_place c.self.inside.waiting (map sender_part items) c.self.invariant
    (omega (arith, several, c.len-count.ensures, c.self.inside.senders.ok.0, length-map items sender_part)) s.port.receiver 0 c.args.sender there has.0
    has.1

pub invariant_of-self : goal.invariant_of-self
invariant_of-self g c =
    let items = c.self.inside.senders.items in
    let first = c.index_mut-owned.result.now in
    each_noted items c.args.sender first c.loop-server.owned (rw (← c.self.view_is) at c.requires.sender) c.index_mut-owned.ensures.value
    c.args.servers.now
    (subst (λ (m : Messages _ _ _). IsPutTo c.args.servers.now first.messages.queues m.queues) (sym (puts g (goal.at.invariant_of-self g c).After-loop-server))
    (put_to c.args.overflow c.args.slot c.args.servers.now first.messages)) c.self.inside.waiting c.note_each.new.self c.len-count.result
    (omega (arith, c.len-count.ensures, c.self.inside.senders.ok.0, length-map items sender_part)) c.note_each.ensures c.self.invariant
