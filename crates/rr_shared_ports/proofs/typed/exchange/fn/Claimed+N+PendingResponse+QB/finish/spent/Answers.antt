use Rattle.std.proofs.Common.{◌∙◌}
use Rattle.rr_shared_ports.proofs.Words.{Ok, ap, rules, subst, ReceivesCopy, Keeps}
use Rattle.rr_shared_ports.proofs.typed.exchange.fn.Claimed+N+PendingResponse+QB.finish.spent.Goals as goal

-- the value was received before the request ended
pub returns-in-Ok-Some : goal.returns-in-Ok-Some
unfolding Keeps
returns-in-Ok-Some g c =
    record { call = (c.receive_copy.new.hub, subst (λ r. ReceivesCopy c.args.ports.now c.args.pending r c.receive_copy.new.hub) (c.in-Ok-Some.is ∙ ap Ok c.in-Ok-Some.field-0-is) c.receive_copy.ensures.receives, c.release.ensures.released); keeps = search rules; kept = tt }
