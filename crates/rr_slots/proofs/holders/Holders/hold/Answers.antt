use Rattle.std.proofs.Common.{arith}
use Rattle.std.proofs.lemmas.List.{map-set}
use Rattle.rr_slots.proofs.HolderLaws.{holders_at, kept}
use Rattle.rr_slots.proofs.holders.Holders.hold.Goals as goal

pub overflow_add-holders : goal.overflow_add-holders
overflow_add-holders c = omega (
  arith,
  holders_at c.self.inside.slots.slots c.args.slot 0 _ c.look-holders.ensures.slot,
  rw (← c.self.view_is) at c.requires.fits,
)

pub invariant_of-self : goal.invariant_of-self
invariant_of-self c = rw c.set.ensures (rw c.look-holders.ensures.looks
    (kept _ _ _ _ _ _ _ c.look-holders.ensures.slot
    (omega (arith, holders_at c.self.inside.slots.slots c.args.slot 0 _ c.look-holders.ensures.slot, rw (← c.self.view_is) at c.requires.held))
    (omega arith) c.self.invariant))

pub returns-clause-holders : goal.returns-clause-holders
returns-clause-holders c =
    rw (← c.self.view_is) (rw c.set.ensures (rw c.look-holders.ensures.looks
    (rw (holders_at _ _ 0 _ c.look-holders.ensures.slot) (map-set _ _ _ _))))
