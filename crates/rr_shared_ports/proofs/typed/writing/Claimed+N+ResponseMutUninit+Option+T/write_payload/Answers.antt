use Rattle.std.proofs.Common.{◌≡◌, ◌∷◌}
use Rattle.rr_shared_ports.proofs.Words.{[], with_changed, after_init, with_elements, with_response_content, at, response_completed, stepped_on, rules}
use Rattle.rr_shared_ports.proofs.typed.writing.Claimed+N+ResponseMutUninit+Option+T.write_payload.Goals as goal

-- it is the call of the port
pub returns : goal.returns
returns g c =
    let made = c.became.ensures in
    let call = made.4 in
    (made.0, made.1, made.2, made.3, at (λ old n result new. (result ≡ n) × (new ≡ with_changed (with_changed old n (with_response_content (with_elements (c.args.value ∷ [])))) n after_init)) call.1.5 call.1.4 call.2 call.1.6 call.1.3.0)

-- and a step
pub became-requires-clause-exchanges : goal.became-requires-clause-exchanges
became-requires-clause-exchanges g c κs within state returned after call =
    let by = call.3.0 in
    (stepped_on g.K.BackpressureFn.action g.QH.Default.is_default g.PH.Default.is_default call.5 call.4 call.6 call.3.1.0 (response_completed g.K.BackpressureFn.action g.QH.Default.is_default g.PH.Default.is_default (c.args.value ∷ []) call.1.now call.2.now call.0 by.1), search rules, search rules)
