use Rattle.rr_laws.proofs.Histories.{receives_in_order}
use Rattle.rr_laws.proofs.AnswerRuleHolds.{receives_without_gap, receives_all}
use Rattle.rr_laws.proofs.ordered.in_order.Goals as goal

pub returns-clause-in_order : goal.returns-clause-in_order
returns-clause-in_order g c limits node_id makes_hub action family history s run =
    receives_in_order action g.T.Default.is_default g.H.Default.is_default family limits node_id makes_hub history s run

pub returns-clause-without_gap : goal.returns-clause-without_gap
returns-clause-without_gap g c limits node_id makes_hub action family history s run no_overflow =
    receives_without_gap action g.T.Default.is_default g.H.Default.is_default family limits node_id makes_hub no_overflow history s run

pub returns-clause-all : goal.returns-clause-all
returns-clause-all g c limits node_id makes_hub action family history s run no_overflow =
    receives_all action g.T.Default.is_default g.H.Default.is_default family limits node_id makes_hub no_overflow history s run
