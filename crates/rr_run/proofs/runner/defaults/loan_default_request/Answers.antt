use Rattle.std.proofs.Common.{sym, ap, ◌∙◌, subst}
use Rattle.std.specs.Prelude.{◌==◌}
use Rattle.std.proofs.lemmas.Bool.{ne_eqb}
use Rattle.rr_slots.specs.Families.{takes_len}
use Rattle.rr_protocol.specs.declared.command.Command.{Command}
use Rattle.rr_protocol.specs.declared.reply.Reply.{Reply}
use Rattle.rr_protocol.specs.Step.{Step}
use Rattle.rr_run.proofs.Defaults.{loaned_request, request_filled}
use Rattle.rr_run.proofs.runner.defaults.loan_default_request.Goals as goal

pub fill_request-requires-clause-kind : goal.fill_request-requires-clause-kind
fill_request-requires-clause-kind g c =
    (loaned_request g.H.Default.is_default c.args.core.now c.args.client c.args.len c.in-Ok.id c.loan_request.new.self c.in-Ok.ensures.unnamed
    c.in-Ok.ensures.loans).0

pub fill_request-requires-clause-blank : goal.fill_request-requires-clause-blank
fill_request-requires-clause-blank g c =
    (loaned_request g.H.Default.is_default c.args.core.now c.args.client c.args.len c.in-Ok.id c.loan_request.new.self c.in-Ok.ensures.unnamed
    c.in-Ok.ensures.loans).1

pub returns-in-Ok-clause-step : goal.returns-in-Ok-clause-step
returns-in-Ok-clause-step g c =
    subst (λ k. Step g.K.BackpressureFn.action g.T.Default.is_default g.H.Default.is_default g.B.Body.family c.args.core.now
    (Command.LoanDefault c.args.client c.args.len) (Reply.Loaned k) c.fill_request.new.core) (sym c.number.ensures)
    (request_filled g.K.BackpressureFn.action g.T.Default.is_default g.H.Default.is_default g.B.Body.family c.args.core.now c.args.client
    c.args.len (ap (λ family. takes_len family c.args.len) (sym c.family.ensures) ∙ sym c.takes_len.ensures ∙ c.if-not-takes_len.false)
    (ap (λ n. n == 0) (sym c.numbers_left.ensures) ∙ ne_eqb c.numbers_left.result 0 c.if-numbers_left-eq0.false)
    c.requires c.loan_request.new.self c.fill_request.new.core c.in-Ok.id c.in-Ok.ensures.loans c.fill_request.ensures)
