use Rattle.std.proofs.Common.{Ok, Some, ap, subst, sym, ◌∙◌}
use Rattle.rr_protocol.specs.declared.command.Command.{Command}
use Rattle.rr_protocol.specs.declared.reply.Reply.{Reply}
use Rattle.rr_protocol.specs.Step.{Step}
use Rattle.rr_checked.specs.Answers.{received, replied}
use Rattle.rr_run.specs.Known.{Remembers}
use Rattle.rr_run.proofs.runner.receives.receive.Goals as goal

pub returns-in-Ok-Some-Request-clause-step : goal.returns-in-Ok-Some-Request-clause-step
returns-in-Ok-Some-Request-clause-step g c =
    subst (λ k. Step g.K.BackpressureFn.action g.T.Default.is_default g.H.Default.is_default g.B.Body.family c.args.core.now (Command.Receive c.args.id.now) (Reply.Active k c.in-Ok-Some-Request.request) c.receive.new.core) (sym c.number.ensures)
    (subst (λ answer. Step g.K.BackpressureFn.action g.T.Default.is_default g.H.Default.is_default g.B.Body.family c.args.core.now (Command.Receive c.args.id.now) (replied received answer) c.receive.new.core)
    (c.in-Ok-Some-Request.is ∙ ap Ok (c.in-Ok-Some-Request.field-0-is ∙ ap Some c.in-Ok-Some-Request.field-0-0-is)) c.receive.ensures)

-- the number of the handle that came is that of its id
pub returns-in-Ok-Some-Request-clause-places : goal.returns-in-Ok-Some-Request-clause-places
returns-in-Ok-Some-Request-clause-places g c = subst (λ k. Remembers c.args.places.now (Some k) c.remember.new.self) (sym c.number.ensures) c.remember.ensures

pub returns-in-Ok-Some-Response-clause-places : goal.returns-in-Ok-Some-Response-clause-places
returns-in-Ok-Some-Response-clause-places g c = subst (λ k. Remembers c.args.places.now (Some k) c.remember-in-Ok-Some-Response.new.self) (sym c.number-in-Ok-Some-Response.ensures) c.remember-in-Ok-Some-Response.ensures
