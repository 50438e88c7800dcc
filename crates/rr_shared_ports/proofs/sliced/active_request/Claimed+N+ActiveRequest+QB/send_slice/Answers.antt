use Rattle.rr_shared_ports.proofs.Words.{refl, rules, ⊎_elim, [], length, SendsResponseSlice, numbers_left, Keeps, answered, at, exhausted, response_elements_sent, stepped}
use Rattle.rr_shared_ports.proofs.sliced.active_request.Claimed+N+ActiveRequest+QB.send_slice.Goals as goal

-- it is the call of the port
pub returns : goal.returns
returns g c =
    let made = c.numbered.ensures in (
      made.0,
      made.1,
      made.2,
      made.3,
      ⊎_elim
          (λ told.
          let call = told.2 in
          let by : SendsResponseSlice g.PH.Default.is_default g.K.BackpressureFn.action call.shown.now c.handle-handle.result.now c.args.elements.now told.0 call.left.now = search rules in
          answered numbers_left (λ result old new. SendsResponseSlice g.PH.Default.is_default g.K.BackpressureFn.action old c.args.self.now c.args.elements.now result new) told.0 c.numbered.result _ _ told.1
          (at (λ old n result new. SendsResponseSlice g.PH.Default.is_default g.K.BackpressureFn.action old n c.args.elements.now result new) call.shows c.handle-handle.ensures refl call.leaves by))
          (λ none. exhausted numbers_left (λ result old new. SendsResponseSlice g.PH.Default.is_default g.K.BackpressureFn.action old c.args.self.now c.args.elements.now result new) c.numbered.result _ _ none) made.4,
    )

-- and a step
pub numbered-requires-clause-keeps : goal.numbered-requires-clause-keeps
numbered-requires-clause-keeps g c κs within state returned after call =
    let by : SendsResponseSlice g.PH.Default.is_default g.K.BackpressureFn.action call.shown.now c.handle-handle.result.now c.args.elements.now returned call.left.now = search rules in
    let keeps : Keeps [] call.shown.now call.left.now = search rules in
    stepped g.K.BackpressureFn.action g.QH.Default.is_default g.PH.Default.is_default call.shows call.leaves keeps (response_elements_sent g.K.BackpressureFn.action g.QH.Default.is_default g.PH.Default.is_default call.shown.now call.left.now c.handle-handle.result.now (length c.args.elements.now) c.args.elements.now returned by)
