use Rattle.rr_laws.proofs.LeftRuns.{left_from_empty}
use Rattle.rr_laws.proofs.ExpiredRuns.{expired_from_empty}
use Rattle.rr_laws.proofs.expired.expired_lists.Goals as goal

pub returns-clause-lists : goal.returns-clause-lists
returns-clause-lists g c limits node_id makes_hub action family =
    expired_from_empty action g.T.Default.is_default g.H.Default.is_default family limits node_id makes_hub

pub returns-clause-gone : goal.returns-clause-gone
returns-clause-gone g c limits node_id makes_hub action family =
    left_from_empty action g.T.Default.is_default g.H.Default.is_default family limits node_id makes_hub
