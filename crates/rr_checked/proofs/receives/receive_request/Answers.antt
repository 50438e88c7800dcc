use Rattle.std.proofs.Common.{Ok, inl, refl, sym, ap, ◌∙◌, subst}
use Rattle.std.specs.Prelude.{◌==◌}
use Rattle.std.proofs.lemmas.Bool.{ne_eqb}
use Rattle.rr_protocol.specs.declared.kind.Kind.TheVariants as kind
use Rattle.rr_protocol.specs.Receives.{ReceivesRequest}
use Rattle.rr_protocol.specs.declared.command.Command.{Command}
use Rattle.rr_protocol.specs.declared.reply.Reply.{Reply}
use Rattle.rr_checked.proofs.Steps.{step_acts, receive_due}
use Rattle.rr_checked.proofs.Receiving.{active_there}
use Rattle.rr_checked.proofs.receives.receive_request.Goals as goal

pub request_number-request-requires : goal.request_number-request-requires
request_number-request-requires g c = active_there c.args.core.now c.receive_request.new.self c.args.server c.in-Ok-Some.id
    (subst (λ o. ReceivesRequest c.args.core.now c.args.server (Ok o) c.receive_request.new.self) c.in-Ok-Some.field-0-is
    c.in-Ok-Some.ensures.receives)

-- a number is left, so nothing refuses the receive
pub returns-in-Ok-Some : goal.returns-in-Ok-Some
returns-in-Ok-Some g c =
    step_acts g.K.BackpressureFn.action g.T.Default.is_default g.H.Default.is_default g.B.Body.family c.args.core.now
    (Command.Receive c.args.server) c.args.server kind.Server
    (Reply.Active c.in-Ok-Some.id c.request_number-request.result) c.receive_request.new.self refl c.requires
    (receive_due g.B.Body.family c.args.core.now c.args.server
    (ap (λ n. n == 0) (sym c.numbers_left.ensures) ∙ ne_eqb c.numbers_left.result 0 c.if-numbers_left-eq0.false)) (
      (subst (λ o. ReceivesRequest c.args.core.now c.args.server (Ok o) c.receive_request.new.self) c.in-Ok-Some.field-0-is
          c.in-Ok-Some.ensures.receives),
      c.request_number-request.ensures,
    )

pub returns-in-Ok-None : goal.returns-in-Ok-None
returns-in-Ok-None g c =
    step_acts g.K.BackpressureFn.action g.T.Default.is_default g.H.Default.is_default g.B.Body.family c.args.core.now
    (Command.Receive c.args.server) c.args.server kind.Server Reply.Nothing c.receive_request.new.self refl c.requires
    (receive_due g.B.Body.family c.args.core.now c.args.server
    (ap (λ n. n == 0) (sym c.numbers_left.ensures) ∙ ne_eqb c.numbers_left.result 0 c.if-numbers_left-eq0.false))
    (inl (subst (λ o. ReceivesRequest c.args.core.now c.args.server (Ok o) c.receive_request.new.self) c.in-Ok-None.field-0-is
    c.in-Ok-None.ensures.receives))
