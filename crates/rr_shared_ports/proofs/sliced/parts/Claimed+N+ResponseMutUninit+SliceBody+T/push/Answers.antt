use Rattle.rr_shared_ports.proofs.Words.{with_changed, with_element, with_response_content, Pushes, ResponseIsComplete, at_state, stepped_on, response_pushed, rules}
use Rattle.rr_shared_ports.proofs.sliced.parts.Claimed+N+ResponseMutUninit+SliceBody+T.push.Goals as goal

-- it is the call of the port
pub returns : goal.returns
returns g c =
    let made = c.rewritten.ensures in
    let call = made.4 in
    (made.0, made.1, made.2, made.3, at_state (λ old n new. Pushes ResponseIsComplete (λ s n x. with_changed s n (with_response_content (with_element x))) old n c.args.element c.rewritten.result new) call.shows c.handle-handle.ensures call.leaves call.met.0)

-- and a step
pub rewritten-requires-clause-rewrites : goal.rewritten-requires-clause-rewrites
rewritten-requires-clause-rewrites g c κs within state returned after call =
    let by = call.met.0 in
    (stepped_on g.K.BackpressureFn.action g.QH.Default.is_default g.PH.Default.is_default call.shows c.handle-handle.ensures call.leaves call.met.1.0 (response_pushed g.K.BackpressureFn.action g.QH.Default.is_default g.PH.Default.is_default ResponseIsComplete call.shown.now call.left.now c.handle-handle.result.now c.args.element returned by), search rules)
