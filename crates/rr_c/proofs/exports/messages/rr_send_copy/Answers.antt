use Rattle.std.proofs.Common.{refl, sym, ap, Ok, Err}
use Rattle.rr_c.specs.Answers.{copy_named, copy_taken}
use Rattle.rr_c.proofs.exports.messages.rr_send_copy.Goals as goal

pub returns-in-Ok-Request : goal.returns-in-Ok-Request
returns-in-Ok-Request c =
    rw (← c.hub_in.ensures.value) (
      Ok c.in-Ok-Request.field-0,
      c.in-Ok-Request.ensures,
      refl,
      sym (ap (λ sent. copy_named c.args.message.now (Ok sent)) c.in-Ok-Request.field-0-is),
      sym (ap (λ sent. copy_taken c.args.servers.now (Ok sent)) c.in-Ok-Request.field-0-is),
    )

pub returns-in-Ok-Response : goal.returns-in-Ok-Response
returns-in-Ok-Response c =
    rw (← c.hub_in.ensures.value) (
      Ok c.in-Ok-Response.field-0,
      c.in-Ok-Response.ensures,
      refl,
      sym (ap (λ sent. copy_named c.args.message.now (Ok sent)) c.in-Ok-Response.field-0-is),
      sym (ap (λ sent. copy_taken c.args.servers.now (Ok sent)) c.in-Ok-Response.field-0-is),
    )

pub returns-in-Err : goal.returns-in-Err
returns-in-Err c = rw (← c.hub_in.ensures.value) (Err c.in-Err.refusal, c.in-Err.ensures, c.code.ensures, refl, refl)
