use Rattle.rr_laws.proofs.AnswerRuleHolds.{keeps_answer_rule}
use Rattle.rr_laws.proofs.WholePools.{never_runs_dry}
use Rattle.rr_shared.specs.Histories.{history_of}
use Rattle.rr_shared.proofs.Laws.{finds_room, is_answered, own_call, seen_begins}
use Rattle.rr_shared.proofs.shared_hub.SharedHub.submit.Goals as goal

-- each legal history keeps the answer rule
pub returns-clause-answer_rule : goal.returns-clause-answer_rule
returns-clause-answer_rule g c =
    keeps_answer_rule g.K.BackpressureFn.action g.T.Default.is_default g.H.Default.is_default g.B.Body.family g.N.Naming.limits g.N.Naming.node_id
    c.self.invariant.3 (history_of c.apply.new.seat) c.apply.ensures.legal.0 c.apply.ensures.legal.1

-- and in none does a whole pool run dry
pub returns-clause-whole_pools : goal.returns-clause-whole_pools
returns-clause-whole_pools g c =
    never_runs_dry g.K.BackpressureFn.action g.T.Default.is_default g.H.Default.is_default g.B.Body.family g.N.Naming.limits g.N.Naming.node_id
    c.self.invariant.3 (history_of c.apply.new.seat) c.apply.ensures.legal.0 c.apply.ensures.legal.1

pub returns-clause-own : goal.returns-clause-own
returns-clause-own g c = own_call c.args.command c.apply.result c.args.seat.now c.apply.new.seat c.apply.ensures.call

pub returns-clause-seen : goal.returns-clause-seen
returns-clause-seen g c = seen_begins c.args.command c.apply.result c.args.seat.now c.apply.new.seat c.apply.ensures.call

pub returns-clause-answered : goal.returns-clause-answered
returns-clause-answered g c =
    is_answered g.N.Naming.limits c.args.command c.apply.result c.args.seat.now c.apply.new.seat c.apply.ensures.call (returns-clause-answer_rule g c)

pub returns-clause-room : goal.returns-clause-room
returns-clause-room g c =
    finds_room g.B.Body.family g.N.Naming.limits c.args.command c.apply.result c.args.seat.now c.apply.new.seat c.apply.ensures.call
    (returns-clause-whole_pools g c)
