use Rattle.std.proofs.Common.{Ok, Err, sym, ap, ◌∙◌, subst}
use Rattle.std.specs.Prelude.{◌==◌}
use Rattle.std.proofs.lemmas.Bool.{ne_eqb}
use Rattle.rr_protocol.specs.Sends.{SendsResponse}
use Rattle.rr_protocol.specs.State.{State}
use Rattle.rr_checked.specs.declared.refusal.Refusal.TheVariants as refusal
use Rattle.rr_bytes.specs.declared.slices.copies.SentCopy.TheVariants as copy
use Rattle.rr_bytes.specs.Copies.{CopiesResponse}
use Rattle.rr_bytes.proofs.Copying.{active_copies, copy_sent}
use Rattle.rr_bytes.proofs.slices.copies.send_response_copy.Goals as goal

pub returns-in-Ok-send_response : goal.returns-in-Ok-send_response
returns-in-Ok-send_response g c =
    copy_sent g.K.BackpressureFn.action g.H.Default.is_default c.args.core.now c.args.active.now c.args.elements.now (Ok (copy.Response c.of.result)) c.send_response.new.self
    (active_copies c.args.core.now c.args.active.now
    (ap (λ n. n == 0) (sym c.numbers_left.ensures) ∙ ne_eqb c.numbers_left.result 0 c.if-numbers_left-eq0.false) c.requires)
    (subst (λ k. (mid : State _ _ _ _ _) × CopiesResponse g.H.Default.is_default c.args.core.now c.args.active.now c.args.elements.now (Ok k) mid
    × SendsResponse g.K.BackpressureFn.action mid k (Ok k) c.send_response.new.self) (sym c.of.ensures)
    (c.copied_response.new.core, c.in-Ok.ensures.copies, c.in-Ok-send_response.ensures))

pub returns-in-Err-send_response : goal.returns-in-Err-send_response
returns-in-Err-send_response g c =
    copy_sent g.K.BackpressureFn.action g.H.Default.is_default c.args.core.now c.args.active.now c.args.elements.now (Err (refusal.Send c.in-Err-send_response.error)) c.send_response.new.self
    (active_copies c.args.core.now c.args.active.now
    (ap (λ n. n == 0) (sym c.numbers_left.ensures) ∙ ne_eqb c.numbers_left.result 0 c.if-numbers_left-eq0.false) c.requires)
    (c.copied_response.new.core, c.in-Ok.response, c.in-Ok.ensures.copies, c.in-Err-send_response.ensures)
