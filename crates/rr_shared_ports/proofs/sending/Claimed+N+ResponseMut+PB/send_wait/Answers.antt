use Rattle.std.proofs.Common.{◌∙◌, ◌++◌}
use Rattle.rr_shared_ports.proofs.Words.{Err, IfErr, Ok, ap, rules, subst, append-nil, refl, [], empty_hub, TriesResponse, MakesCall, state_after, IsOver, goes_on, ends_as, send_refuses_over}
use Rattle.rr_protocol.specs.declared.error.SendError.TheVariants as send
use Rattle.rr_shared_ports.proofs.sending.Claimed+N+ResponseMut+PB.send_wait.Goals as goal

pub loop-init : goal.loop-init
loop-init g c = (search rules, search rules, refl, ([], append-nil c.args.seat.now.1), refl)

pub loop-preserved : goal.loop-preserved
loop-preserved g c =
    (search rules, search rules, ap (λ seat. seat.0) c.try_send.ensures.2 ∙ c.loop.invariant.2, goes_on c.args.seat.now.1 c.loop.seat c.try_send.new.seat c.try_send.ensures.0 c.try_send.ensures.1 c.try_send.ensures.2 c.loop.invariant.3, (subst (λ r. TriesResponse g.K.BackpressureFn.action (state_after (empty_hub g.N.Naming.limits g.N.Naming.node_id) (c.loop.seat.1 ++ c.try_send.ensures.0)) c.loop.response r c.try_send.ensures.1) c.in-Err.is c.try_send.ensures.4).0 ∙ c.loop.invariant.4)

-- the send is the last call
pub returns-in-Ok-clause-call : goal.returns-in-Ok-clause-call
returns-in-Ok-clause-call g c =
    ends_as (empty_hub g.N.Naming.limits g.N.Naming.node_id) (λ sent before after. TriesResponse g.K.BackpressureFn.action before c.args.self sent after) c.try_send.result (Ok tt) c.loop.seat c.try_send.new.seat (c.in-Ok.is)
    (subst (λ n. MakesCall (empty_hub g.N.Naming.limits g.N.Naming.node_id) (λ before after. TriesResponse g.K.BackpressureFn.action before n c.try_send.result after) c.loop.seat c.try_send.new.seat) c.loop.invariant.4 c.try_send.ensures)

pub returns-in-Err-pause-clause-seen : goal.returns-in-Err-pause-clause-seen
returns-in-Err-pause-clause-seen g c =
    goes_on c.args.seat.now.1 c.loop.seat c.try_send.new.seat c.try_send.ensures.0 c.try_send.ensures.1 c.try_send.ensures.2 c.loop.invariant.3

-- the send that found no room is the last call
pub returns-in-Err-pause-clause-call : goal.returns-in-Err-pause-clause-call
returns-in-Err-pause-clause-call g c =
    send_refuses_over (empty_hub g.N.Naming.limits g.N.Naming.node_id) (λ sent before after. TriesResponse g.K.BackpressureFn.action before c.args.self sent after) send.UnableToDeliver c.in-Err.refused.message c.in-Err-pause.error c.try_send.new.seat
    (subst (λ r. IfErr r IsOver) c.in-Err-pause.is c.pause-pause.ensures)
    (ends_as (empty_hub g.N.Naming.limits g.N.Naming.node_id) (λ sent before after. TriesResponse g.K.BackpressureFn.action before c.args.self sent after) c.try_send.result (Err (record { message = c.in-Err.refused.message; error = send.UnableToDeliver })) c.loop.seat c.try_send.new.seat (c.in-Err.is ∙ ap (λ error. Err (record { message = c.in-Err.refused.message; error = error })) ((subst (λ r. TriesResponse g.K.BackpressureFn.action (state_after (empty_hub g.N.Naming.limits g.N.Naming.node_id) (c.loop.seat.1 ++ c.try_send.ensures.0)) c.loop.response r c.try_send.ensures.1) c.in-Err.is c.try_send.ensures.4).1))
    (subst (λ n. MakesCall (empty_hub g.N.Naming.limits g.N.Naming.node_id) (λ before after. TriesResponse g.K.BackpressureFn.action before n c.try_send.result after) c.loop.seat c.try_send.new.seat) c.loop.invariant.4 c.try_send.ensures))

pub returns-in-Ok-clause-seen : goal.returns-in-Ok-clause-seen
returns-in-Ok-clause-seen g c = goes_on c.args.seat.now.1 c.loop.seat c.try_send.new.seat c.try_send.ensures.0 c.try_send.ensures.1 c.try_send.ensures.2 c.loop.invariant.3
