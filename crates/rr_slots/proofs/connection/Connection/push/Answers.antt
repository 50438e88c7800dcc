use Rattle.std.proofs.Common.{sym, ◌∙◌}
use Rattle.rr_slots.proofs.Queues.{entered, sound-pushed, state-pushed}
use Rattle.rr_slots.proofs.connection.Connection.push.Goals as goal

pub invariant_of-self : goal.invariant_of-self
invariant_of-self c = sound-pushed _ _ _ _ c.self.invariant c.self.view_is c.requires _ c.index_mut-queue.ensures.value _ c.args.entry
    c.push_back-evicted.ensures.items

pub returns-then-has_no_room-clause-state : goal.returns-then-has_no_room-clause-state
returns-then-has_no_room-clause-state c =
    state-pushed _ _ _ _ c.self.invariant c.self.view_is c.requires _ c.index_mut-queue.ensures.value _ c.args.entry
    c.push_back-evicted.ensures.items

pub invariant_of-self-2 : goal.invariant_of-self-2
invariant_of-self-2 c =
    sound-pushed _ _ _ _ c.self.invariant c.self.view_is c.requires _ c.index_mut-queue.ensures.value _ c.args.entry
    (entered _ _ _ _ c.self.invariant c.self.view_is c.requires _ c.index_mut-queue.ensures.value c.try_push_back.result _ c.args.entry
    (sym c.has_no_room.ensures ∙ c.if-has_no_room.false) c.try_push_back.ensures.variant.1 c.try_push_back.ensures.ok)

pub returns-clause-state : goal.returns-clause-state
returns-clause-state c =
    state-pushed _ _ _ _ c.self.invariant c.self.view_is c.requires _ c.index_mut-queue.ensures.value _ c.args.entry
    (entered _ _ _ _ c.self.invariant c.self.view_is c.requires _ c.index_mut-queue.ensures.value c.try_push_back.result _ c.args.entry
    (sym c.has_no_room.ensures ∙ c.if-has_no_room.false) c.try_push_back.ensures.variant.1 c.try_push_back.ensures.ok)
