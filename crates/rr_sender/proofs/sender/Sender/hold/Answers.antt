use Rattle.std.proofs.Common.{arith}
use Rattle.rr_sender.proofs.SenderLaws.{held_is, has_holder, state-hold}
use Rattle.rr_sender.proofs.sender.Sender.hold.Goals as goal

pub hold-requires-clause-held : goal.hold-requires-clause-held
hold-requires-clause-held g c = has_holder _ _ _ c.self.invariant _ (rw (← c.self.view_is) at c.requires.held)

pub hold-requires-clause-fits : goal.hold-requires-clause-fits
hold-requires-clause-fits g c = omega (arith, held_is _ _ _ c.self.invariant c.args.slot, rw (← c.self.view_is) at c.requires.fits)

pub returns : goal.returns
returns g c =
    rw (← c.self.view_is, c.hold.ensures)
    (state-hold _ _ _ c.self.invariant _ (has_holder _ _ _ c.self.invariant _ (rw (← c.self.view_is) at c.requires.held)))
