use Rattle.rr_laws.proofs.Histories.{answers_the_request, receives_once}
use Rattle.rr_laws.proofs.own_request.own_request_once.Goals as goal

pub returns-clause-own : goal.returns-clause-own
returns-clause-own g c limits node_id makes_hub action family history s run =
    answers_the_request action g.T.Default.is_default g.H.Default.is_default family limits node_id makes_hub history s run

pub returns-clause-once : goal.returns-clause-once
returns-clause-once g c limits node_id makes_hub action family history s run =
    receives_once action g.T.Default.is_default g.H.Default.is_default family limits node_id makes_hub history s run
