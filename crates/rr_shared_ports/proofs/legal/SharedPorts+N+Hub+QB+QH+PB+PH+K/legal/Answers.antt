use Rattle.rr_shared_ports.proofs.Words.{ap, subst, State, empty_hub, port_run_keeps_answer_rule, IsHistory, Steps, calls_in, state_after, history_read, read_runs}
use Rattle.rr_shared_ports.proofs.legal.SharedPorts+N+Hub+QB+QH+PB+PH+K.legal.Goals as goal

-- the seat keeps its history
pub returns-clause-calls : goal.returns-clause-calls
returns-clause-calls g c =
    history_read g.K.BackpressureFn.action g.QH.Default.is_default g.PH.Default.is_default (empty_hub g.N.Naming.limits g.N.Naming.node_id) c.args.seat.now.1 (subst (λ calls. IsHistory (Steps g.K.BackpressureFn.action g.QH.Default.is_default g.PH.Default.is_default) (empty_hub g.N.Naming.limits g.N.Naming.node_id) calls) (ap (λ seat. seat.1) c.seat.view_is) c.seat.invariant.1)

-- and each reading of it is a run
pub returns-clause-answer_rule : goal.returns-clause-answer_rule
returns-clause-answer_rule g c readings reads =
    let start : State g.row.QB-Item.Denot g.row.QH.Denot g.row.PB-Item.Denot g.row.PH.Denot g.row.K.Denot = empty_hub g.N.Naming.limits g.N.Naming.node_id in
    port_run_keeps_answer_rule g.K.BackpressureFn.action g.QH.Default.is_default g.PH.Default.is_default g.N.Naming.limits g.N.Naming.node_id c.self.invariant.3
    (calls_in readings) (state_after start c.args.seat.now.1)
    (read_runs g.K.BackpressureFn.action g.QH.Default.is_default g.PH.Default.is_default start c.args.seat.now.1 readings reads)
