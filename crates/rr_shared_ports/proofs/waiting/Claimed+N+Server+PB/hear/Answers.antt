use Rattle.std.proofs.Common.{◌∙◌}
use Rattle.rr_shared_ports.proofs.Words.{Err, IfErr, None, Ok, Some, ap, append-nil, refl, rules, subst, [], numbers_left, ReceivesRequest, empty_hub, Answered, IsOver, goes_on, ends_as, refuses_over}
use Rattle.rr_shared_ports.proofs.waiting.Claimed+N+Server+PB.hear.Goals as goal

pub loop-init : goal.loop-init
loop-init g c = (search rules, search rules, refl, ([], append-nil c.args.seat.now.1))

pub loop-preserved : goal.loop-preserved
loop-preserved g c =
    (search rules, search rules, ap (λ seat. seat.0) c.receive.ensures.2 ∙ c.loop.invariant.2, goes_on c.args.seat.now.1 c.loop.seat c.receive.new.seat c.receive.ensures.0 c.receive.ensures.1 c.receive.ensures.2 c.loop.invariant.3)

pub returns-in-Ok-Some-clause-seen : goal.returns-in-Ok-Some-clause-seen
returns-in-Ok-Some-clause-seen g c =
    goes_on c.args.seat.now.1 c.loop.seat c.receive.new.seat c.receive.ensures.0 c.receive.ensures.1 c.receive.ensures.2 c.loop.invariant.3

pub returns-in-Err-pause-clause-seen : goal.returns-in-Err-pause-clause-seen
returns-in-Err-pause-clause-seen g c =
    goes_on c.args.seat.now.1 c.loop.seat c.receive.new.seat c.receive.ensures.0 c.receive.ensures.1 c.receive.ensures.2 c.loop.invariant.3

pub returns-in-Err-clause-seen : goal.returns-in-Err-clause-seen
returns-in-Err-clause-seen g c =
    goes_on c.args.seat.now.1 c.loop.seat c.receive.new.seat c.receive.ensures.0 c.receive.ensures.1 c.receive.ensures.2 c.loop.invariant.3

-- the receive is the last call
pub returns-in-Ok-Some-clause-call : goal.returns-in-Ok-Some-clause-call
returns-in-Ok-Some-clause-call g c =
    ends_as (empty_hub g.N.Naming.limits g.N.Naming.node_id) (Answered numbers_left (λ received before after. ReceivesRequest before c.args.self.now received after)) c.receive.result (Ok (Some c.in-Ok-Some.active)) c.loop.seat c.receive.new.seat (c.in-Ok-Some.is ∙ ap Ok c.in-Ok-Some.field-0-is) c.receive.ensures

pub returns-in-Err-clause-call : goal.returns-in-Err-clause-call
returns-in-Err-clause-call g c =
    ends_as (empty_hub g.N.Naming.limits g.N.Naming.node_id) (Answered numbers_left (λ received before after. ReceivesRequest before c.args.self.now received after)) c.receive.result (Err c.in-Err.error) c.loop.seat c.receive.new.seat (c.in-Err.is) c.receive.ensures

-- and received nothing where the wait was over
pub returns-in-Err-pause-clause-call : goal.returns-in-Err-pause-clause-call
returns-in-Err-pause-clause-call g c =
    refuses_over (empty_hub g.N.Naming.limits g.N.Naming.node_id) (Answered numbers_left (λ received before after. ReceivesRequest before c.args.self.now received after)) None c.in-Err-pause.error c.receive.new.seat (subst (λ r. IfErr r IsOver) c.in-Err-pause.is c.pause-pause.ensures)
    (ends_as (empty_hub g.N.Naming.limits g.N.Naming.node_id) (Answered numbers_left (λ received before after. ReceivesRequest before c.args.self.now received after)) c.receive.result (Ok None) c.loop.seat c.receive.new.seat (c.in-Ok-None.is ∙ ap Ok c.in-Ok-None.field-0-is) c.receive.ensures)
