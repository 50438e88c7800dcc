use Rattle.rr_shared_ports.proofs.Words.{CreatesClientBy, at_made, is_made, client_made, stepped, rules}
use Rattle.rr_shared_ports.proofs.client.SharedPorts+N+Hub+QB+QH+PB+PH+K.create_client.Goals as goal

-- it is the call of the port
pub returns : goal.returns
returns g c =
    let made = c.created.ensures in
    let call = made.4 in
    (made.0, made.1, made.2, made.3, at_made (λ old result new. CreatesClientBy g.P.Preallocation.chooses old c.args.factory result new) call.1.shows (is_made call.0 c.created.result call.2) call.1.leaves call.1.met.0)

-- and a step
pub created-requires-clause-makes : goal.created-requires-clause-makes
created-requires-clause-makes g c κs within state returned after call =
    let by = call.met.0 in
    (stepped g.K.BackpressureFn.action g.QH.Default.is_default g.PH.Default.is_default call.shows call.leaves call.met.1.0 (client_made g.K.BackpressureFn.action g.QH.Default.is_default g.PH.Default.is_default g.P.Preallocation.chooses c.args.factory call.shown.now call.left.now returned by), search rules, search rules)
