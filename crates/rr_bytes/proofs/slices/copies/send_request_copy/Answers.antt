use Rattle.std.proofs.Common.{Ok, Err, sym, ap, ◌∙◌, subst}
use Rattle.std.specs.Prelude.{◌==◌}
use Rattle.std.proofs.lemmas.Bool.{ne_eqb}
use Rattle.rr_protocol.specs.Sends.{SendsRequest}
use Rattle.rr_protocol.specs.State.{State}
use Rattle.rr_checked.specs.declared.refusal.Refusal.TheVariants as refusal
use Rattle.rr_bytes.specs.declared.slices.copies.SentCopy.TheVariants as copy
use Rattle.rr_bytes.specs.Copies.{CopiesRequest}
use Rattle.rr_bytes.proofs.Copying.{client_copies, copy_sent}
use Rattle.rr_bytes.proofs.slices.copies.send_request_copy.Goals as goal

pub returns-in-Ok-send_request : goal.returns-in-Ok-send_request
returns-in-Ok-send_request g c =
    copy_sent g.K.BackpressureFn.action g.H.Default.is_default c.args.core.now c.args.client c.args.elements.now (Ok (copy.Request c.of.result c.in-Ok-send_request.servers)) c.send_request.new.self
    (client_copies c.args.core.now c.args.client
    (ap (λ n. n == 0) (sym c.numbers_left.ensures) ∙ ne_eqb c.numbers_left.result 0 c.if-numbers_left-eq0.false) c.requires)
    (subst (λ k. (mid : State _ _ _ _ _) × CopiesRequest g.H.Default.is_default c.args.core.now c.args.client c.args.elements.now (Ok k) mid
    × SendsRequest g.K.BackpressureFn.action mid k (Ok c.in-Ok-send_request.servers) c.send_request.new.self) (sym c.of.ensures)
    (c.copied_request.new.core, c.in-Ok.ensures.copies, c.in-Ok-send_request.ensures))

pub returns-in-Err-send_request : goal.returns-in-Err-send_request
returns-in-Err-send_request g c =
    copy_sent g.K.BackpressureFn.action g.H.Default.is_default c.args.core.now c.args.client c.args.elements.now (Err (refusal.Request c.in-Err-send_request.error)) c.send_request.new.self
    (client_copies c.args.core.now c.args.client
    (ap (λ n. n == 0) (sym c.numbers_left.ensures) ∙ ne_eqb c.numbers_left.result 0 c.if-numbers_left-eq0.false) c.requires)
    (c.copied_request.new.core, c.in-Ok.request, c.in-Ok.ensures.copies, c.in-Err-send_request.ensures)
