use Rattle.std.proofs.Common.{◌∷◌}
use Rattle.rr_shared_ports.proofs.Words.{rules, ⊎_elim, [], SendsCopy, numbers_left, Keeps, answered, at, exhausted, is_made, elements_sent, stepped}
use Rattle.rr_shared_ports.proofs.typed.client.Claimed+N+Client+Option+T.send_copy.Goals as goal

-- it is the call of the port
pub returns : goal.returns
returns g c =
    let made = c.made.ensures in (
      made.0,
      made.1,
      made.2,
      made.3,
      ⊎_elim
          (λ told.
          let call = told.2 in
          let by : SendsCopy g.QH.Default.is_default g.K.BackpressureFn.action call.1.shown.now c.handle-handle.result.now c.args.value call.0 call.1.left.now = search rules in
          answered numbers_left (λ result old new. SendsCopy g.QH.Default.is_default g.K.BackpressureFn.action old c.args.self.now c.args.value result new) told.0 c.made.result _ _ told.1
          (at (λ old n result new. SendsCopy g.QH.Default.is_default g.K.BackpressureFn.action old n c.args.value result new) call.1.shows c.handle-handle.ensures (is_made call.0 told.0 call.2) call.1.leaves by))
          (λ none. exhausted numbers_left (λ result old new. SendsCopy g.QH.Default.is_default g.K.BackpressureFn.action old c.args.self.now c.args.value result new) c.made.result _ _ none) made.4,
    )

-- and a step
pub made-requires-clause-makes : goal.made-requires-clause-makes
made-requires-clause-makes g c κs within state returned after call =
    let by : SendsCopy g.QH.Default.is_default g.K.BackpressureFn.action call.shown.now c.handle-handle.result.now c.args.value returned call.left.now = search rules in
    let keeps : Keeps [] call.shown.now call.left.now = search rules in
    (stepped g.K.BackpressureFn.action g.QH.Default.is_default g.PH.Default.is_default call.shows call.leaves keeps (elements_sent g.K.BackpressureFn.action g.QH.Default.is_default g.PH.Default.is_default call.shown.now call.left.now c.handle-handle.result.now 1 (c.args.value ∷ []) returned by), search rules, search rules)
