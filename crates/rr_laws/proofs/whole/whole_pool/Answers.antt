use Rattle.rr_laws.proofs.WholePools.{never_runs_dry}
use Rattle.rr_laws.proofs.whole.whole_pool.Goals as goal

pub returns : goal.returns
returns g c limits node_id makes_hub action family history s run =
    never_runs_dry action g.T.Default.is_default g.H.Default.is_default family limits node_id makes_hub history s run
