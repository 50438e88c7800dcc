use Rattle.std.proofs.Common.{◌+◌, ap, ◌∙◌}
use Rattle.std.specs.Prelude.{drop, slice_set}
use Rattle.rr_sender.proofs.LinkLaws.{both-set, counted_at, queue_is, is_inside}
use Rattle.rr_sender.proofs.links.Links.take.Goals as goal

pub returns-clause-state : goal.returns-clause-state
returns-clause-state c =
    rw (← c.self.view_is)
    (let inside = is_inside c.self.inside.links.items c.args.receiver (rw (← c.self.view_is) at c.requires.receiver) in
    both-set c.self.inside.links.items _ _ inside c.index_mut-link.ensures.value _ _ _ _ _
    (ap (λ e. e.queues) c.pop.ensures.state ∙ ap (λ queue. slice_set c.index_mut-link.result.now.connection.queues c.args.channel
    (drop 1 queue)) (queue_is _ _ _ inside c.index_mut-link.ensures.value _))
    (ap (λ n. slice_set c.index_mut-link.result.now.borrowed.items c.args.channel (n + 1))
    (counted_at c.self.inside.links.items _ _ inside c.index_mut-link.ensures.value _ c.self.invariant _ _
    (rw (← c.self.view_is) at c.requires.channel) c.index_mut.ensures.value)))
