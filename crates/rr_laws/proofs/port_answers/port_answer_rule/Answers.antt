use Rattle.rr_laws.proofs.PortRuns.{port_run_keeps_answer_rule}
use Rattle.rr_laws.proofs.port_answers.port_answer_rule.Goals as goal

pub returns : goal.returns
returns g c limits node_id makes_hub action history s run =
    port_run_keeps_answer_rule action g.QH.Default.is_default g.PH.Default.is_default limits node_id makes_hub history s run
