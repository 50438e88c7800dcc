use Rattle.std.proofs.Common.{Err, Ok, subst, ℕ}
use Rattle.rr_checked.specs.Sends.{SendsEither}
use Rattle.rr_run.proofs.Handles.{response_gone, unsent_gone}
use Rattle.rr_run.proofs.Knowing.{forgets_gone}
use Rattle.rr_run.proofs.runner.sends.send.Goals as goal

-- a response that was sent is gone
pub returns-in-Ok-Response-clause-places : goal.returns-in-Ok-Response-clause-places
returns-in-Ok-Response-clause-places g c =
    forgets_gone _ _ c.send.new.core _ _ c.number-in-Ok-Response.ensures c.forget.ensures
    (response_gone g.K.BackpressureFn.action c.args.core.now c.args.id.now (Ok c.args.id.now) c.send.new.core
    (subst (λ sent. SendsEither g.K.BackpressureFn.action c.args.core.now c.args.id.now (Ok sent) c.send.new.core) c.in-Ok-Response.field-0-is
    c.in-Ok-Response.ensures.sends))

-- a message whose send was refused is gone too
pub returns-in-Err-Request-clause-places : goal.returns-in-Err-Request-clause-places
returns-in-Err-Request-clause-places g c =
    forgets_gone _ _ c.send.new.core _ _ c.number-in-Err-Request.ensures c.forget-in-Err-Request.ensures
    (unsent_gone g.K.BackpressureFn.action c.args.core.now c.args.id.now c.in-Err-Request.error c.send.new.core
    (subst (λ refusal. SendsEither g.K.BackpressureFn.action c.args.core.now c.args.id.now (Err refusal) c.send.new.core) c.in-Err-Request.field-0-is
    c.in-Err-Request.ensures.sends))

pub returns-in-Err-Send-clause-places : goal.returns-in-Err-Send-clause-places
returns-in-Err-Send-clause-places g c =
    forgets_gone _ _ c.send.new.core _ _ c.number-in-Err-Send.ensures c.forget-in-Err-Send.ensures
    (response_gone {U = ℕ} g.K.BackpressureFn.action c.args.core.now c.args.id.now (Err c.in-Err-Send.error) c.send.new.core
    (subst (λ refusal. SendsEither g.K.BackpressureFn.action c.args.core.now c.args.id.now (Err refusal) c.send.new.core) c.in-Err-Send.field-0-is
    c.in-Err-Send.ensures.sends))
