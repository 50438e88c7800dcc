use Rattle.std.proofs.Common.{◌∷◌}
use Rattle.rr_shared_ports.proofs.Words.{[], FnOnceReturnsAt, Asks, Has, numbers_left, SendsResponseCopy, answered}
use Rattle.rr_shared_ports.proofs.typed.exchange.respond_if_numbered.Goals as goal

-- it is the call of the port
pub returns-clause-call : goal.returns-clause-call
returns-clause-call g c =
    answered numbers_left (λ sent before after. (asked : g.row.T.Denot) × (value : g.row.U.Denot) × Has before c.args.active.now (Asks (asked ∷ [])) × FnOnceReturnsAt g.F.FnOnce c.args.f asked value × SendsResponseCopy g.PH.Default.is_default g.K.BackpressureFn.action before c.args.active.now value sent after) c.respond_with.result c.told.result c.args.ports.now c.respond_with.new.hub c.told.ensures c.respond_with.ensures.sends
