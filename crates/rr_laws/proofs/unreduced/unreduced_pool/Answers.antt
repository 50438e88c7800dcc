use Rattle.rr_laws.specs.Unreduced.{FindsMemory, FindsChannel}
use Rattle.rr_laws.proofs.Bounds.{of_runs}
use Rattle.rr_laws.proofs.Memory.{finds_memory}
use Rattle.rr_laws.proofs.FreeChannels.{finds_channel}
use Rattle.rr_laws.proofs.unreduced.unreduced_pool.Goals as goal

pub returns-clause-memory : goal.returns-clause-memory
returns-clause-memory g c =
    of_runs g.T.Default.is_default g.H.Default.is_default (λ limits s. FindsMemory g.T.Default.is_default g.H.Default.is_default limits s)
    (λ s fits. finds_memory g.T.Default.is_default g.H.Default.is_default s fits)

pub returns-clause-channel : goal.returns-clause-channel
returns-clause-channel g c = of_runs g.T.Default.is_default g.H.Default.is_default (λ limits s. FindsChannel s)
    (λ s fits. finds_channel s fits)
