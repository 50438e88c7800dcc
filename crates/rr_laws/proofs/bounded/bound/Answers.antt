use Rattle.rr_laws.specs.Bound.{BoundsRequests, BoundsResponses}
use Rattle.rr_laws.proofs.Bounds.{of_runs, requests_bounded, responses_bounded}
use Rattle.rr_laws.proofs.bounded.bound.Goals as goal

pub returns-clause-requests : goal.returns-clause-requests
returns-clause-requests g c = of_runs g.T.Default.is_default g.H.Default.is_default (λ limits s. BoundsRequests limits s)
    (λ s fits. requests_bounded s fits)

pub returns-clause-responses : goal.returns-clause-responses
returns-clause-responses g c = of_runs g.T.Default.is_default g.H.Default.is_default (λ limits s. BoundsResponses limits s)
    (λ s fits. responses_bounded s fits)
