use Rattle.rr_shared_ports.proofs.Words.{refl, ⊎_elim, List, Asks, Has, numbers_left, Makes, RespondsSlice, answered, at, exhausted, slice_responded, stepped}
use Rattle.rr_shared_ports.proofs.sliced.active_request.Claimed+N+ActiveRequest+SliceBody+T.respond_with.Goals as goal

-- it is the call of the port
pub returns : goal.returns
returns g c =
    let made = c.numbered.ensures in (
      made.0,
      made.1,
      made.2,
      made.3,
      ⊎_elim
          (λ told.
          let call = told.2 in
          answered numbers_left (λ result old new. (asked : List g.row.T.Denot) × Has old c.args.self.now (Asks asked) × RespondsSlice g.PH.Default.is_default g.K.BackpressureFn.action (Makes g.F.FnMut asked c.args.f) old c.args.self.now c.args.len result new) told.0 c.numbered.result _ _ told.1
          (at (λ old n result new. (asked : List g.row.T.Denot) × Has old n (Asks asked) × RespondsSlice g.PH.Default.is_default g.K.BackpressureFn.action (Makes g.F.FnMut asked c.args.f) old n c.args.len result new) call.shows c.handle-handle.ensures refl call.leaves call.met.0))
          (λ none. exhausted numbers_left (λ result old new. (asked : List g.row.T.Denot) × Has old c.args.self.now (Asks asked) × RespondsSlice g.PH.Default.is_default g.K.BackpressureFn.action (Makes g.F.FnMut asked c.args.f) old c.args.self.now c.args.len result new) c.numbered.result _ _ none) made.4,
    )

-- and a step
pub numbered-requires-clause-keeps : goal.numbered-requires-clause-keeps
numbered-requires-clause-keeps g c κs within state returned after call =
    let by = call.met.0 in
    stepped g.K.BackpressureFn.action g.QH.Default.is_default g.PH.Default.is_default call.shows call.leaves call.met.1 (slice_responded g.K.BackpressureFn.action g.QH.Default.is_default g.PH.Default.is_default (Makes g.F.FnMut by.0 c.args.f) call.shown.now call.left.now c.handle-handle.result.now c.args.len returned by.2)
