use Rattle.std.proofs.Common.{◌∷◌}
use Rattle.rr_shared_ports.proofs.Words.{refl, ⊎_elim, [], FnOnceReturnsAt, Asks, Has, numbers_left, SendsResponseCopy, answered, at, exhausted, response_elements_sent, stepped}
use Rattle.rr_shared_ports.proofs.typed.active_request.Claimed+N+ActiveRequest+Option+T.respond_with.Goals as goal

-- it is the call of the port
pub returns : goal.returns
returns g c =
    let made = c.numbered.ensures in (
      made.0,
      made.1,
      made.2,
      made.3,
      ⊎_elim
          (λ told.
          let call = told.2 in
          answered numbers_left (λ result old new. (asked : g.row.T.Denot) × (value : g.row.U.Denot) × Has old c.args.self.now (Asks (asked ∷ [])) × FnOnceReturnsAt g.F.FnOnce c.args.f asked value × SendsResponseCopy g.PH.Default.is_default g.K.BackpressureFn.action old c.args.self.now value result new) told.0 c.numbered.result _ _ told.1
          (at (λ old n result new. (asked : g.row.T.Denot) × (value : g.row.U.Denot) × Has old n (Asks (asked ∷ [])) × FnOnceReturnsAt g.F.FnOnce c.args.f asked value × SendsResponseCopy g.PH.Default.is_default g.K.BackpressureFn.action old n value result new) call.shows c.handle-handle.ensures refl call.leaves call.met.0))
          (λ none. exhausted numbers_left (λ result old new. (asked : g.row.T.Denot) × (value : g.row.U.Denot) × Has old c.args.self.now (Asks (asked ∷ [])) × FnOnceReturnsAt g.F.FnOnce c.args.f asked value × SendsResponseCopy g.PH.Default.is_default g.K.BackpressureFn.action old c.args.self.now value result new) c.numbered.result _ _ none) made.4,
    )

-- and a step
pub numbered-requires-clause-keeps : goal.numbered-requires-clause-keeps
numbered-requires-clause-keeps g c κs within state returned after call =
    let by = call.met.0 in
    stepped g.K.BackpressureFn.action g.QH.Default.is_default g.PH.Default.is_default call.shows call.leaves call.met.1 (response_elements_sent g.K.BackpressureFn.action g.QH.Default.is_default g.PH.Default.is_default call.shown.now call.left.now c.handle-handle.result.now 1 (by.1 ∷ []) returned by.4)
