use Rattle.std.proofs.Common.{ap, ◌∙◌}
use Rattle.rr_slots.specs.Connections.{with_queue}
use Rattle.rr_slots.proofs.Queues.{entered, fresh_at, pushed_open, sound-pushed, state-pushed}
use Rattle.rr_slots.proofs.connection.Connection.append.Goals as goal

pub invariant_of-self : goal.invariant_of-self
invariant_of-self c =
    let fresh = fresh_at _ _ _ _ c.self.invariant c.self.view_is c.requires.channel _ c.index_mut-queue.ensures.value c.requires.room in
    sound-pushed _ _ _ _ c.self.invariant c.self.view_is c.requires.channel _ c.index_mut-queue.ensures.value _ c.args.entry
    (entered _ _ _ _ c.self.invariant c.self.view_is c.requires.channel _ c.index_mut-queue.ensures.value c.try_push_back.result _ c.args.entry
    fresh c.try_push_back.ensures.variant.1 c.try_push_back.ensures.ok)

pub returns : goal.returns
returns c =
    let fresh = fresh_at _ _ _ _ c.self.invariant c.self.view_is c.requires.channel _ c.index_mut-queue.ensures.value c.requires.room in
    state-pushed _ _ _ _ c.self.invariant c.self.view_is c.requires.channel _ c.index_mut-queue.ensures.value _ c.args.entry
    (entered _ _ _ _ c.self.invariant c.self.view_is c.requires.channel _ c.index_mut-queue.ensures.value c.try_push_back.result _ c.args.entry
    fresh c.try_push_back.ensures.variant.1 c.try_push_back.ensures.ok)
    ∙ ap (with_queue _ c.args.channel) (pushed_open _ _ c.args.entry c.requires.room)
