use Rattle.std.proofs.Common.{arith}
use Rattle.rr_sender.proofs.SenderLaws.{held_is, has_holder}
use Rattle.rr_sender.proofs.QueueLaws.{state-enter, sound-enter}
use Rattle.rr_sender.proofs.sender.Sender.enter.Goals as goal

pub hold-requires-clause-held : goal.hold-requires-clause-held
hold-requires-clause-held g c = has_holder _ _ _ c.self.invariant _ (rw (← c.self.view_is) at c.requires.held)

pub hold-requires-clause-fits : goal.hold-requires-clause-fits
hold-requires-clause-fits g c = omega (arith, held_is _ _ _ c.self.invariant c.args.slot, rw (← c.self.view_is) at c.requires.fits)

pub invariant_of-self : goal.invariant_of-self
invariant_of-self g c =
    rw (c.hold.ensures, c.push.ensures)
    (sound-enter _ _ _ c.self.invariant _ _ (rw (← c.self.view_is) at c.requires.receiver) (rw (← c.self.view_is) at c.requires.channel) _
    (has_holder _ _ _ c.self.invariant _ (rw (← c.self.view_is) at c.requires.held)))

pub returns : goal.returns
returns g c =
    rw (← c.self.view_is, c.hold.ensures, c.push.ensures)
    (state-enter _ _ _ c.self.invariant _ _ (rw (← c.self.view_is) at c.requires.receiver) (rw (← c.self.view_is) at c.requires.channel) _
    (has_holder _ _ _ c.self.invariant _ (rw (← c.self.view_is) at c.requires.held)))
