use Rattle.std.proofs.Common.{Ok, Err, inr, refl, sym, ap, ◌∙◌, subst}
use Rattle.std.specs.Prelude.{◌==◌}
use Rattle.std.proofs.lemmas.Bool.{ne_eqb}
use Rattle.rr_protocol.specs.declared.kind.Kind.TheVariants as kind
use Rattle.rr_protocol.specs.Sends.{SendsRequest}
use Rattle.rr_protocol.specs.declared.command.Command.{Command}
use Rattle.rr_protocol.specs.declared.reply.Reply.{Reply}
use Rattle.rr_protocol.specs.Step.{Step}
use Rattle.rr_checked.proofs.Steps.{step_acts, request_copy_due}
use Rattle.rr_run.proofs.runner.sends.send_request_copy.Goals as goal

pub returns-in-Ok-send_request-clause-step : goal.returns-in-Ok-send_request-clause-step
returns-in-Ok-send_request-clause-step g c =
    let w = c.in-Ok.ensures in
    subst (λ k. Step g.K.BackpressureFn.action g.T.Default.is_default g.H.Default.is_default g.B.Body.family c.args.core.now
    (Command.SendCopy c.args.client c.args.item) (Reply.Pending k c.in-Ok-send_request.connections) c.send_request.new.self)
    (sym c.number.ensures)
    (step_acts g.K.BackpressureFn.action g.T.Default.is_default g.H.Default.is_default g.B.Body.family c.args.core.now
    (Command.SendCopy c.args.client c.args.item) c.args.client kind.Client
    (Reply.Pending c.in-Ok.id c.in-Ok-send_request.connections) c.send_request.new.self refl c.requires
    (request_copy_due g.B.Body.family c.args.core.now c.args.client
    (ap (λ n. n == 0) (sym c.numbers_left.ensures) ∙ ne_eqb c.numbers_left.result 0 c.if-numbers_left-eq0.false) c.args.item) (
      w.0,
      w.1,
      subst (λ s. SendsRequest g.K.BackpressureFn.action s c.in-Ok.id
          (Ok c.in-Ok-send_request.connections) c.send_request.new.self) w.2 c.in-Ok-send_request.ensures,
    ))

pub returns-in-Err-send_request-clause-step : goal.returns-in-Err-send_request-clause-step
returns-in-Err-send_request-clause-step g c =
    let w = c.in-Ok.ensures in
    step_acts g.K.BackpressureFn.action g.T.Default.is_default g.H.Default.is_default g.B.Body.family c.args.core.now
    (Command.SendCopy c.args.client c.args.item) c.args.client kind.Client
    (Reply.RequestError c.in-Err-send_request.error) c.send_request.new.self refl c.requires
    (request_copy_due g.B.Body.family c.args.core.now c.args.client
    (ap (λ n. n == 0) (sym c.numbers_left.ensures) ∙ ne_eqb c.numbers_left.result 0 c.if-numbers_left-eq0.false) c.args.item)
    (inr (
      w.0,
      c.in-Ok.id,
      w.1,
      subst (λ s. SendsRequest g.K.BackpressureFn.action s c.in-Ok.id
          (Err c.in-Err-send_request.error) c.send_request.new.self) w.2 c.in-Err-send_request.ensures,
    ))
