use Rattle.std.proofs.Common.{◌≡◌, None, Some, sym, ◌∙◌}
use Rattle.rr_bytes.proofs.Placing.{completed_len, loaned_completes}
use Rattle.rr_bytes.proofs.slices.Slices.loan_in_place.Goals as goal

pub unreachable-requires : goal.unreachable-requires
unreachable-requires g c =
    let due = loaned_completes g.K.BackpressureFn.action g.T.Default.is_default g.H.Default.is_default c.args.self.now c.loan.new.self c.args.id.now.number c.args.len
    c.in_ok-message.message.number c.in_ok-message.ensures (rw c.self.view_is at c.reached.ensures.reached) in
    let both : None ≡ Some c.in-Err.field-0 = sym due ∙ c.in-Err.ensures.completes.0 in
    absurd (cc)

pub returns-clause-len : goal.returns-clause-len
returns-clause-len g c =
    completed_len g.K.BackpressureFn.action g.T.Default.is_default g.H.Default.is_default c.args.self.now c.loan.new.self c.args.id.now.number c.args.len
    c.in_ok-message.message.number c.in_ok-message.ensures c.complete.new.self c.in-Ok.ensures.completes.1
