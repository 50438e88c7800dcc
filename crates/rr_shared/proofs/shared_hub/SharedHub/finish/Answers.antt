use Rattle.std.proofs.Common.{rules}
use Rattle.rr_laws.proofs.AnswerRuleHolds.{keeps_answer_rule}
use Rattle.rr_laws.proofs.WholePools.{never_runs_dry}
use Rattle.rr_shared.specs.Histories.{without_callers}
use Rattle.rr_shared.proofs.shared_hub.SharedHub.finish.Goals as goal

pub returns-clause-answer_rule : goal.returns-clause-answer_rule
returns-clause-answer_rule g c =
    keeps_answer_rule g.K.BackpressureFn.action g.T.Default.is_default g.H.Default.is_default g.B.Body.family g.N.Naming.limits g.N.Naming.node_id
    c.self.invariant.3 (without_callers c.into_inner-desk.result) c.is_legal.ensures.0 c.is_legal.ensures.1

pub returns-clause-whole_pools : goal.returns-clause-whole_pools
returns-clause-whole_pools g c =
    never_runs_dry g.K.BackpressureFn.action g.T.Default.is_default g.H.Default.is_default g.B.Body.family g.N.Naming.limits g.N.Naming.node_id
    c.self.invariant.3 (without_callers c.into_inner-desk.result) c.is_legal.ensures.0 c.is_legal.ensures.1

-- so no response is received twice in what a seat is shown
pub invariant_of-result : goal.invariant_of-result
invariant_of-result g c = (search rules, (returns-clause-answer_rule g c).once)
