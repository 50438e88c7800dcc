use Rattle.std.proofs.Common.{◌-◌, refl, ap}
use Rattle.std.specs.Prelude.{slice_set}
use Rattle.rr_sender.proofs.LinkLaws.{count-set, counted_at, is_inside}
use Rattle.rr_sender.proofs.links.Links.end_borrow.Goals as goal

pub returns : goal.returns
returns c =
    rw (← c.self.view_is)
    (let inside = is_inside c.self.inside.links.items c.args.receiver (rw (← c.self.view_is) at c.requires.receiver) in
    count-set c.self.inside.links.items _ _ inside c.index_mut-link.ensures.value _ _ _ _ refl
    (ap (λ n. slice_set c.index_mut-link.result.now.borrowed.items c.args.channel (n - 1))
    (counted_at c.self.inside.links.items _ _ inside c.index_mut-link.ensures.value _ c.self.invariant _ _
    (rw (← c.self.view_is) at c.requires.channel) c.index_mut.ensures.value)))
