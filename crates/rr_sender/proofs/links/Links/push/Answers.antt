use Rattle.std.proofs.Common.{[], ◌++◌, ◌∷◌, refl, ap, ◌∙◌}
use Rattle.std.specs.Prelude.{slice_set}
use Rattle.rr_sender.proofs.LinkLaws.{queue-set, queue_is, is_inside, room_at}
use Rattle.rr_sender.proofs.links.Links.push.Goals as goal

pub append-requires-clause-room : goal.append-requires-clause-room
append-requires-clause-room c =
    let inside = is_inside c.self.inside.links.items c.args.receiver (rw (← c.self.view_is) at c.requires.receiver) in
    room_at c.self.inside.links.items _ _ inside c.index_mut-link.ensures.value _ c.self.invariant _
    (rw (← c.self.view_is) at c.requires.room)

pub returns : goal.returns
returns c =
    rw (← c.self.view_is)
    (let inside = is_inside c.self.inside.links.items c.args.receiver (rw (← c.self.view_is) at c.requires.receiver) in
    queue-set c.self.inside.links.items _ _ inside c.index_mut-link.ensures.value _ _ _ _
    (ap (λ e. e.queues) c.append.ensures ∙ ap (λ queue. slice_set c.index_mut-link.result.now.connection.queues c.args.channel
    (queue ++ c.args.slot ∷ [])) (queue_is _ _ _ inside c.index_mut-link.ensures.value _)) refl)
