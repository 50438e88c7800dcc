-- How much of a server's responses a request has received, if the server waits for room: all that are not still in a
-- list.
use Rattle.std.specs.FinMap as fin_map
use Rattle.std.specs.Prelude.{◌≡◌, ◌≢◌, ℕ, ◌<◌, true, false, List, ◌++◌, Some}
use Rattle.std.specs.List.{list_any}
use Rattle.rr_protocol.specs.Ports.{Server}
use Rattle.rr_protocol.specs.State.{State, server_at, is_server_value}
use Rattle.rr_protocol.specs.AnswerRule.{Event, IsPrefix, creates_waiting, is_release, sent_for, received_from}
use Rattle.rr_laws.specs.Roles.{Question, LoanedRequest, roles_of}
use Rattle.rr_laws.specs.Following.{queued, WasReceived}
use Rattle.rr_laws.specs.Settling.{IsServing, Clashes, IsWaiting}

module _ {Q QH P PH K : Type 0} where
  -- the server and the request have numbers that were given, the request was sent, and its number is no connected
  -- server's
  pub record IsUnderWay (s : State Q QH P PH K) (server p : ℕ) : Type 0 where
    pub server_given : server < s.next
    pub request_given : p < s.next
    pub sent : (q : Question) → fin_map.get (roles_of s.handles) p ≢ Some (LoanedRequest q)
    pub no_server : (c : Server K) → server_at s p ≢ Some c

module _ {T H Q QH P PH K : Type 0} where
  -- the received responses followed by those in the list are, from a server that waits for room and whose queues drop
  -- nothing, the first ones that it sent, and all of them while the request waits for the server
  pub record Completes (history : List (Event T H K)) (s : State Q QH P PH K) : Type 0 where
    pub under_way : (a server p : ℕ) → WasReceived history server a p → IsUnderWay s server p
    pub given : (n : ℕ) → list_any (creates_waiting n) history ≡ true → n < s.next
    pub waits : (n : ℕ) → list_any (creates_waiting n) history ≡ true → (c : Server K) → server_at s n ≡ Some c
        → IsWaiting c
    pub held : (n : ℕ) → list_any (creates_waiting n) history ≡ true → list_any (is_release n) history ≡ false
        → is_server_value s n ≡ true
    pub clear : (n : ℕ) → Clashes s n → ⊥
    pub whole : s.limits.enable_safe_overflow_for_responses ≡ false → (server p : ℕ)
        → list_any (creates_waiting server) history ≡ true → IsServing s server p →
        received_from history server p ++ queued s server p ≡ sent_for history server p
    pub first : s.limits.enable_safe_overflow_for_responses ≡ false → (server p : ℕ)
        → list_any (creates_waiting server) history ≡ true
        → IsPrefix (received_from history server p ++ queued s server p) (sent_for history server p)
