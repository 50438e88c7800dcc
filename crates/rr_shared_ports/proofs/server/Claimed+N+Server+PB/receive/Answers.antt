use Rattle.rr_shared_ports.proofs.Words.{⊎_elim, rules, ReceivesRequest, numbers_left, answered, at, exhausted, is_received, request_received, stepped}
use Rattle.rr_shared_ports.proofs.server.Claimed+N+Server+PB.receive.Goals as goal

-- it is the call of the port
pub returns : goal.returns
returns g c =
    let made = c.heard.ensures in (
      made.0,
      made.1,
      made.2,
      made.3,
      ⊎_elim
          (λ told.
          let call = told.2 in
          answered numbers_left (λ result old new. ReceivesRequest old c.args.self.now result new) told.0 c.heard.result _ _ told.1
          (at (λ old n result new. ReceivesRequest old n result new) call.1.shows c.handle-server.ensures (is_received call.0 told.0 call.2) call.1.leaves call.1.met.0))
          (λ none. exhausted numbers_left (λ result old new. ReceivesRequest old c.args.self.now result new) c.heard.result _ _ none) made.4,
    )

-- and a step
pub heard-requires-clause-receives : goal.heard-requires-clause-receives
heard-requires-clause-receives g c κs within state returned after call =
    let by = call.met.0 in
    (stepped g.K.BackpressureFn.action g.QH.Default.is_default g.PH.Default.is_default call.shows call.leaves call.met.1.0 (request_received g.K.BackpressureFn.action g.QH.Default.is_default g.PH.Default.is_default call.shown.now call.left.now c.handle-server.result.now returned by), search rules, search rules)
