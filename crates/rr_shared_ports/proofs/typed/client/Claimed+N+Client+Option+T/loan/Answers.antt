use Rattle.rr_shared_ports.proofs.Words.{rules, ⊎_elim, [], IsOneDefault, LoansComplete, numbers_left, Keeps, answered, at, exhausted, is_made, complete_loaned, stepped}
use Rattle.rr_shared_ports.proofs.typed.client.Claimed+N+Client+Option+T.loan.Goals as goal

-- it is the call of the port
pub returns : goal.returns
returns g c =
    let made = c.made.ensures in (
      made.0,
      made.1,
      made.2,
      made.3,
      ⊎_elim
          (λ told.
          let call = told.2 in
          let by : LoansComplete g.QH.Default.is_default (IsOneDefault g.T.Default.is_default) call.1.shown.now c.handle-handle.result.now 1 call.0 call.1.left.now = search rules in
          answered numbers_left (λ result old new. LoansComplete g.QH.Default.is_default (IsOneDefault g.T.Default.is_default) old c.args.self.now 1 result new) told.0 c.made.result _ _ told.1
          (at (λ old n result new. LoansComplete g.QH.Default.is_default (IsOneDefault g.T.Default.is_default) old n 1 result new) call.1.shows c.handle-handle.ensures (is_made call.0 told.0 call.2) call.1.leaves by))
          (λ none. exhausted numbers_left (λ result old new. LoansComplete g.QH.Default.is_default (IsOneDefault g.T.Default.is_default) old c.args.self.now 1 result new) c.made.result _ _ none) made.4,
    )

-- and a step
pub made-requires-clause-makes : goal.made-requires-clause-makes
made-requires-clause-makes g c κs within state returned after call =
    let by : LoansComplete g.QH.Default.is_default (IsOneDefault g.T.Default.is_default) call.shown.now c.handle-handle.result.now 1 returned call.left.now = search rules in
    let keeps : Keeps [] call.shown.now call.left.now = search rules in
    (stepped g.K.BackpressureFn.action g.QH.Default.is_default g.PH.Default.is_default call.shows call.leaves keeps (complete_loaned g.K.BackpressureFn.action g.QH.Default.is_default g.PH.Default.is_default (IsOneDefault g.T.Default.is_default) call.shown.now call.left.now c.handle-handle.result.now 1 returned by), search rules, search rules)
