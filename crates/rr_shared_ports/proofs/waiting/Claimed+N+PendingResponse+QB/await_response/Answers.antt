use Rattle.std.proofs.Common.{◌∙◌}
use Rattle.rr_shared_ports.proofs.Words.{Err, IfErr, None, Ok, Some, ap, append-nil, refl, rules, subst, [], ReceivesResponse, empty_hub, EndsUnanswered, IsOver, ReceivesOrEnds, goes_on, ends_as_other, received_or_none, one_value, refuses_over}
use Rattle.rr_shared_ports.proofs.waiting.Claimed+N+PendingResponse+QB.await_response.Goals as goal

pub loop-init : goal.loop-init
loop-init g c = (search rules, search rules, refl, ([], append-nil c.args.seat.now.1))

pub loop-preserved : goal.loop-preserved
loop-preserved g c =
    (search rules, search rules, ap (λ seat. seat.0) c.receive_or_end.ensures.2 ∙ c.loop.invariant.2, goes_on _ _ _ _ _ c.receive_or_end.ensures.2 c.loop.invariant.3)

pub returns-in-Ok-clause-seen : goal.returns-in-Ok-clause-seen
returns-in-Ok-clause-seen g c = goes_on _ _ _ _ _ c.receive_or_end.ensures.2 c.loop.invariant.3

pub returns-in-Err-clause-seen : goal.returns-in-Err-clause-seen
returns-in-Err-clause-seen g c = goes_on _ _ _ _ _ c.receive_or_end.ensures.2 c.loop.invariant.3

pub returns-in-Err-Some-clause-seen : goal.returns-in-Err-Some-clause-seen
returns-in-Err-Some-clause-seen g c = goes_on _ _ _ _ _ c.receive_or_end.ensures.2 c.loop.invariant.3

-- the receive is the last call
pub returns-in-Ok-clause-call : goal.returns-in-Ok-clause-call
returns-in-Ok-clause-call g c =
    ends_as_other (empty_hub g.N.Naming.limits g.N.Naming.node_id) (λ received before after. ReceivesOrEnds before c.args.self.now received after) (λ before after. ReceivesResponse before c.args.self.now (Ok c.in-Ok.received) after) c.receive_or_end.result (Ok c.in-Ok.received) c.loop.seat c.receive_or_end.new.seat c.in-Ok.is (λ before after. received_or_none before after c.args.self.now c.in-Ok.received) c.receive_or_end.ensures

pub returns-in-Err-Some-clause-call : goal.returns-in-Err-Some-clause-call
returns-in-Err-Some-clause-call g c =
    ends_as_other (empty_hub g.N.Naming.limits g.N.Naming.node_id) (λ received before after. ReceivesOrEnds before c.args.self.now received after) (λ before after. ReceivesResponse before c.args.self.now (Err c.in-Err-Some.error) after) c.receive_or_end.result (Err (Some c.in-Err-Some.error)) c.loop.seat c.receive_or_end.new.seat (c.in-Err-Some.is ∙ ap Err c.in-Err-Some.field-0-is) (λ before after receives. receives) c.receive_or_end.ensures

-- and received nothing where the wait was over
pub returns-in-Err-clause-call : goal.returns-in-Err-clause-call
returns-in-Err-clause-call g c =
    refuses_over (empty_hub g.N.Naming.limits g.N.Naming.node_id) (λ received before after. ReceivesResponse before c.args.self.now received after) None c.in-Err.error c.receive_or_end.new.seat (subst (λ r. IfErr r IsOver) c.in-Err.is c.pause-pause.ensures)
    (ends_as_other (empty_hub g.N.Naming.limits g.N.Naming.node_id) (λ received before after. ReceivesOrEnds before c.args.self.now received after) (λ before after. ReceivesResponse before c.args.self.now (Ok None) after) c.receive_or_end.result (Err None) c.loop.seat c.receive_or_end.new.seat (c.in-Err-None.is ∙ ap Err c.in-Err-None.field-0-is) (λ before after receives. receives) c.receive_or_end.ensures)

-- or found that no server may answer any more
pub returns-in-Ok-clause-ended : goal.returns-in-Ok-clause-ended
returns-in-Ok-clause-ended g c nothing =
    ends_as_other (empty_hub g.N.Naming.limits g.N.Naming.node_id) (λ received before after. ReceivesOrEnds before c.args.self.now received after) (EndsUnanswered c.args.self.now) c.receive_or_end.result (Ok None) c.loop.seat c.receive_or_end.new.seat (c.in-Ok.is ∙ ap Ok (one_value c.in-Ok.received None _ refl nothing)) (λ before after ends. ends) c.receive_or_end.ensures
