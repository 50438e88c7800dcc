-- In a reached state a port's live messages are at most the worst case.
use Rattle.std.proofs.Common.{ℕ, ◌+◌, ◌≤◌, subst, arith}
use Rattle.rr_protocol.specs.declared.limits.Limits.{Limits}
use Rattle.rr_protocol.specs.State.{State, empty_hub}
use Rattle.rr_laws.specs.Reached.{IsReached}
use Rattle.rr_laws.specs.Bound.{HoldsOfRuns, BoundsRequests, BoundsResponses}
use Rattle.rr_laws.proofs.Creating.{empty_hub_reached}
use Rattle.rr_laws.proofs.Stepping.{run_reached}
use Rattle.rr_laws.proofs.LastingSteps.{run_lasts}
use Rattle.rr_laws.proofs.LiveRequests.{live_requests_le}
use Rattle.rr_laws.proofs.LiveResponses.{live_responses_le}

more_loans : (live loans most rest : ℕ) → live ≤ loans + rest → loans ≤ most → live ≤ most + rest
more_loans live loans most rest e f = omega (arith, e, f)

more_requests : (live loans most active rest : ℕ) → live ≤ loans + active + rest → loans ≤ most → live ≤ most + active + rest
more_requests live loans most active rest e f = omega (arith, e, f)

module _ {Q QH P PH K : Type 0} (s : State Q QH P PH K) (fits : IsReached s) where
  -- a client by the limits of its hub
  pub requests_bounded : BoundsRequests s.limits s
  requests_bounded n client is = more_requests _ _ _ _ _ (live_requests_le s fits n) (fits.counts.request_loans n)

  -- a server by the limits of its hub
  pub responses_bounded : BoundsResponses s.limits s
  responses_bounded n server is = more_loans _ _ _ _ (live_responses_le s fits n) (fits.counts.response_loans n server is)

module _ {T H K : Type 0} (IsDefaultElement : T → Type 0) (IsDefaultHeader : H → Type 0) where
  -- what holds of a reached state by its own limits holds of every run
  pub of_runs : (R : Limits → State T H T H K → Type 0) → ((s : State T H T H K) → IsReached s → R s.limits s)
      → HoldsOfRuns IsDefaultElement IsDefaultHeader R
  of_runs R holds limits node_id makes_hub action family commands replies s run =
      subst (λ l. R l s) (run_lasts action IsDefaultElement IsDefaultHeader family (empty_hub limits node_id) commands replies s run).limits
      (holds s (run_reached action IsDefaultElement IsDefaultHeader family (empty_hub limits node_id)
      (empty_hub_reached limits node_id makes_hub) commands replies s run))
