use Rattle.rr_shared_ports.proofs.Words.{AnswersWith, at_state, answered_with, stepped_on}
use Rattle.rr_shared_ports.proofs.typed.exchange.Claimed+N+ActiveRequest+Option+T.answer_with.Goals as goal

-- it is the call of the port
pub returns : goal.returns
returns g c =
    let made = c.ended.ensures in
    let call = made.4 in
    (made.0, made.1, made.2, made.3, at_state (λ old n new. AnswersWith g.PH.Default.is_default g.K.BackpressureFn.action g.F.FnOnce c.args.f old n c.ended.result new) call.5 call.4 call.6 call.3.0)

-- and a step
pub ended-requires-clause-keeps : goal.ended-requires-clause-keeps
ended-requires-clause-keeps g c κs within state returned after call =
    stepped_on g.K.BackpressureFn.action g.QH.Default.is_default g.PH.Default.is_default call.5 call.4 call.6 call.3.1 (answered_with g.K.BackpressureFn.action g.QH.Default.is_default g.PH.Default.is_default g.F.FnOnce c.args.f call.1.now call.2.now call.0 returned call.3.0)
