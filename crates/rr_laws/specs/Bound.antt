-- A connected port's live messages are never more than the worst case.
use Rattle.std.specs.Prelude.{◌≡◌, ℕ, ◌≤◌, List, Some, None}
use Rattle.rr_slots.specs.declared.family.Family.{Family}
use Rattle.rr_protocol.specs.declared.limits.Limits.{Limits}
use Rattle.rr_protocol.specs.declared.settings.BackpressureAction.{BackpressureAction}
use Rattle.rr_protocol.specs.Limits.{worst_case_requests, worst_case_responses, hub_refusal}
use Rattle.rr_protocol.specs.Ports.{Client, Server}
use Rattle.rr_protocol.specs.State.{State, empty_hub, client_at, server_at}
use Rattle.rr_protocol.specs.Counts.{live_requests, live_responses}
use Rattle.rr_protocol.specs.declared.command.Command.{Command}
use Rattle.rr_protocol.specs.declared.reply.Reply.{Reply}
use Rattle.rr_protocol.specs.Run.{Run}

module _ {Q QH P PH K : Type 0} where
  -- each connected client has at most the worst case of live requests
  abbrev pub BoundsRequests : Limits → State Q QH P PH K → Type 0
  BoundsRequests limits s =
      (n : ℕ) (client : Client K) → client_at s n ≡ Some client → live_requests s n ≤ worst_case_requests limits

  -- each connected server has at most the worst case of live responses, by its own setting of loans
  abbrev pub BoundsResponses : Limits → State Q QH P PH K → Type 0
  BoundsResponses limits s =
      (n : ℕ) (server : Server K) → server_at s n ≡ Some server
      → live_responses s n ≤ worst_case_responses limits server.max_loaned_responses_per_request

module _ {T H K : Type 0} (IsDefaultElement : T → Type 0) (IsDefaultHeader : H → Type 0) where
  -- this holds of every state that any run reaches from an empty hub whose limits make a hub
  abbrev pub HoldsOfRuns : (Limits → State T H T H K → Type 0) → Type 0
  HoldsOfRuns R =
      (limits : Limits) (node_id : ℕ) → hub_refusal limits ≡ None
      → (action : K → ℕ → ℕ → BackpressureAction) (family : Family) (commands : List (Command T H K))
      (replies : List (Reply T H)) (s : State T H T H K)
      → Run action IsDefaultElement IsDefaultHeader family (empty_hub limits node_id) commands replies s → R limits s
