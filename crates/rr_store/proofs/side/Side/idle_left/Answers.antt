use Rattle.std.proofs.Common.{◌≡◌, ◌<◌, ◌||◌, length, map, sym, ap, ◌∙◌, arith}
use Rattle.std.specs.Prelude.{slice_get, slice_index_or}
use Rattle.std.specs.List.{list_any, position}
use Rattle.std.proofs.lemmas.Bool.{eq-eqb, ne_eqb}
use Rattle.std.proofs.lemmas.List.{length-map, take_all}
use Rattle.std.proofs.lemmas.List.Folds.{list_any_more}
use Rattle.std.proofs.lemmas.Option.{slice_get-get_or}
use Rattle.rr_sender.specs.Senders.{used_count}
use Rattle.rr_store.specs.declared.port.LeftPort.{LeftPort}
use Rattle.rr_store.specs.Creating.{is_idle}
use Rattle.rr_store.specs.Draining.{AreThere}
use Rattle.rr_store.specs.Ports.{sender_part}
use Rattle.rr_store.specs.SideInside.{side_of}
use Rattle.rr_store.specs.Views.{sender_of}
use Rattle.rr_store.proofs.base.lists.Positions.{position_here, position_nowhere}
use Rattle.rr_store.proofs.base.lookups.Asking.{sender_is, senders_many}
use Rattle.rr_store.proofs.side.Side.idle_left.Goals.{After-index, In-loop-index}
use Rattle.rr_store.proofs.side.Side.idle_left.Goals as goal

-- what is read past the end
abbrev none : LeftPort
none = record { number = 0; sender = 0 }

-- the port whose turn it is has a sender
there : (g : _) (c : In-loop-index g) → (slice_index_or c.deref-port-items.result.now c.loop-index.index none).sender
    < length (map sender_part c.self.inside.senders.items)
there g c =
    let s = side_of c.self.inside in
    let asked : AreThere s.senders s.left = rw (← c.self.view_is) at c.requires in
    asked c.loop-index.index _ (ap (λ ls. slice_get ls c.loop-index.index) (sym c.deref-port-items.ensures.value)
    ∙ slice_get-get_or c.deref-port-items.result.now c.loop-index.index none c.loop-index-test.true)

-- which is the one that is read
read : (g : _) (c : After-index g)
    → (slice_index_or c.deref-port-items.result.now c.loop-index.index none).sender < length (map sender_part c.self.inside.senders.items)
    → sender_of (slice_index_or c.deref-port-items.result.now c.loop-index.index none).sender (map sender_part c.self.inside.senders.items)
    ≡ sender_part c.index.result.now
read g c within =
    sender_is c.self.inside.senders.items _ c.index.result.now (senders_many c.self.inside.senders.items _ within) c.index.ensures

pub index-requires : goal.index-requires
index-requires g c =
    omega (
      arith,
      there g (goal.at.index-requires g c).In-loop-index,
      length-map c.self.inside.senders.items sender_part,
      c.self.inside.senders.ok.0,
    )

pub returns-then-free_slots-slots : goal.returns-then-free_slots-slots
returns-then-free_slots-slots g c =
    let at = goal.at.returns-then-free_slots-slots g c in
    let test = λ (p : LeftPort). is_idle (sender_of p.sender (map sender_part c.self.inside.senders.items)) in
    let left = c.deref-port-items.result.now in
    let unused : used_count c.index.result.now.messages ≡ 0 =
    omega (arith, c.free_slots.ensures.free, c.slots.ensures, c.if-free_slots-slots.true) in
    rw (← c.self.view_is) (sym (position_here test left c.loop-index.index none c.loop-index-test.true
    (ap is_idle (read g at.After-index (there g at.In-loop-index)) ∙ eq-eqb _ _ unused) c.loop-index.invariant)
    ∙ ap (position test) c.deref-port-items.ensures.value)

pub loop-index-preserved : goal.loop-index-preserved
loop-index-preserved g c =
    let at = goal.at.loop-index-preserved g c in
    let test = λ (p : LeftPort). is_idle (sender_of p.sender (map sender_part c.self.inside.senders.items)) in
    let left = c.deref-port-items.result.now in
    let used : used_count c.index.result.now.messages ≡ 0 → ⊥ =
    λ e. c.if-free_slots-slots.false (omega (arith, e, c.free_slots.ensures.free, c.slots.ensures)) in
    list_any_more test left c.loop-index.index none c.loop-index-test.true
    ∙ ap (λ b. b || test (slice_index_or left c.loop-index.index none)) c.loop-index.invariant
    ∙ ap is_idle (read g at.After-index (there g at.In-loop-index)) ∙ ne_eqb _ _ used

pub returns : goal.returns
returns g c =
    let test = λ (p : LeftPort). is_idle (sender_of p.sender (map sender_part c.self.inside.senders.items)) in
    let left = c.deref-port-items.result.now in
    rw (← c.self.view_is) (sym (position_nowhere test left
    (ap (list_any test) (sym (take_all c.loop-index.index left c.loop-index-test.false)) ∙ c.loop-index.invariant))
    ∙ ap (position test) c.deref-port-items.ensures.value)
