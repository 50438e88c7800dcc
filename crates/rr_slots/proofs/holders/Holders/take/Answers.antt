use Rattle.std.proofs.Common.{arith}
use Rattle.std.proofs.lemmas.List.{map-set}
use Rattle.rr_slots.proofs.HolderLaws.{first_inside, taken}
use Rattle.rr_slots.proofs.holders.Holders.take.Goals as goal

pub look-next-requires : goal.look-next-requires
look-next-requires c = first_inside _ _ _ c.self.invariant (λ e. omega (arith, c.self.invariant.stored, rw (← c.self.view_is) at c.requires))

pub set-requires : goal.set-requires
set-requires c = rw c.look-next.ensures.looks (first_inside _ _ _ c.self.invariant
    (λ e. omega (arith, c.self.invariant.stored, rw (← c.self.view_is) at c.requires)))

pub invariant_of-self : goal.invariant_of-self
invariant_of-self c =
    rw c.set.ensures (rw c.look-next.ensures.looks
    (taken _ _ _ _ c.look-next.ensures.slot c.self.invariant
    (λ e. omega (arith, c.self.invariant.stored, rw (← c.self.view_is) at c.requires))))

pub returns-clause-holders : goal.returns-clause-holders
returns-clause-holders c = rw (← c.self.view_is) (rw c.set.ensures (rw c.look-next.ensures.looks (map-set _ _ _ _)))
