use Rattle.std.proofs.Common.{◌≡◌, ◌+◌, ℕ, arith}
use Rattle.std.specs.Prelude.{◌↔◌}
use Rattle.rr_sender.proofs.HeldLaws.{length-held_of}
use Rattle.rr_sender.proofs.SenderLaws.{no_handle, no_entry, state-loan, used-and-free}
use Rattle.rr_sender.proofs.sender.Sender.loan.Goals as goal

pub returns-in-Ok-clause-free : goal.returns-in-Ok-clause-free
returns-in-Ok-clause-free g c = rw (← c.self.view_is) (no_handle _ _ _ c.self.invariant _ c.in-Ok.ensures.free)

pub returns-in-Ok-clause-unused : goal.returns-in-Ok-clause-unused
returns-in-Ok-clause-unused g c = rw (← c.self.view_is) (no_entry _ _ _ c.self.invariant _ c.in-Ok.ensures.free)

pub returns-in-Ok-clause-ok : goal.returns-in-Ok-clause-ok
returns-in-Ok-clause-ok g c = rw (← c.self.view_is, c.in-Ok.ensures.ok) (state-loan _ _ _ c.self.invariant _ c.in-Ok.ensures.free _ _ _)

-- no slot is free where all are used
all_used : {Full : Type 0} {free used slots all : ℕ} → Full ↔ (free ≡ 0) → used + free ≡ all → slots ≡ all → Full ↔ (used ≡ slots)
all_used told sum same = (λ f. omega (arith, told.0 f, sum, same), λ e. told.1 (omega (arith, e, sum, same)))

pub returns-in-Ok-clause-full : goal.returns-in-Ok-clause-full
returns-in-Ok-clause-full g c =
    rw (← c.self.view_is) (all_used c.in-Ok.ensures.full (used-and-free _ _ _ c.self.invariant)
    (length-held_of c.self.inside.pool.holders c.self.inside.links.queues))

pub returns-in-Err-clause-full : goal.returns-in-Err-clause-full
returns-in-Err-clause-full g c =
    rw (← c.self.view_is) (all_used c.in-Err.ensures.full (used-and-free _ _ _ c.self.invariant)
    (length-held_of c.self.inside.pool.holders c.self.inside.links.queues))
