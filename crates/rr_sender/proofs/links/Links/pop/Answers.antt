use Rattle.std.proofs.Common.{refl, ap, ◌∙◌}
use Rattle.std.specs.Prelude.{drop, slice_set}
use Rattle.rr_sender.proofs.LinkLaws.{queue-set, queue_is, is_inside}
use Rattle.rr_sender.proofs.links.Links.pop.Goals as goal

pub returns-clause-state : goal.returns-clause-state
returns-clause-state c =
    rw (← c.self.view_is)
    (let inside = is_inside c.self.inside.links.items c.args.receiver (rw (← c.self.view_is) at c.requires.receiver) in
    queue-set c.self.inside.links.items _ _ inside c.index_mut-link.ensures.value _ _ _ _
    (ap (λ e. e.queues) c.pop.ensures.state ∙ ap (λ queue. slice_set c.index_mut-link.result.now.connection.queues c.args.channel
    (drop 1 queue)) (queue_is _ _ _ inside c.index_mut-link.ensures.value _)) refl)
