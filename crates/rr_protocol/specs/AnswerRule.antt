-- The answer rule, which users may rely on and which speaks of commands and replies alone: responses reach the
-- request that they answer, once and in order.
use Rattle.std.specs.Prelude.{◌≡◌, ◌≤◌, ◌⊎◌, ⊤, ℕ, Bool, true, false, ◌&&◌, ◌||◌, ◌==◌, if◌then◌else◌, is_none, IsTrue, IsFalse, List, [], ◌∷◌, ◌++◌, filter, filter_map, count_by, Option, Some, None}
use Rattle.std.specs.List.{list_any}
use Rattle.rr_protocol.specs.declared.limits.Limits.{Limits}
use Rattle.rr_protocol.specs.declared.settings.BackpressureStrategy.{BackpressureStrategy}
use Rattle.rr_protocol.specs.declared.command.Command.{Command}
use Rattle.rr_protocol.specs.declared.reply.Reply.{Reply}

-- a command and its reply
abbrev pub Event : Type 0 → Type 0 → Type 0 → Type 0
Event T H K = Command T H K × Reply T H

-- xs without some of its elements, in order
abbrev pub IsSubsequence : List ℕ → List ℕ → Type 0
IsSubsequence [] ys = ⊤
IsSubsequence (x ∷ xs) [] = ⊥
IsSubsequence (x ∷ xs) (y ∷ ys) = ((x ≡ y) × IsSubsequence xs ys) ⊎ IsSubsequence (x ∷ xs) ys

-- the first elements of ys
abbrev pub IsPrefix : List ℕ → List ℕ → Type 0
IsPrefix xs ys = (rest : List ℕ) × (ys ≡ xs ++ rest)

-- whether a strategy waits for room
abbrev pub retries : BackpressureStrategy → Bool
retries BackpressureStrategy.RetryUntilDelivered = true
retries BackpressureStrategy.DiscardData = false

module _ {T H K : Type 0} where
  -- whether a history has events that pass these tests, in this order
  abbrev pub occur_in_order : List (Event T H K → Bool) → List (Event T H K) → Bool
  occur_in_order [] events = true
  occur_in_order (test ∷ tests) [] = false
  occur_in_order (test ∷ tests) (event ∷ events) =
      (test event && occur_in_order tests events) || occur_in_order (test ∷ tests) events

  -- some server received the request p as the active request a
  abbrev pub is_active : ℕ → ℕ → Event T H K → Bool
  is_active a p (Command.Receive n, Reply.Active b r) = b == a && r == p
  is_active a p event = false

  -- the same, for this server
  abbrev pub is_active_of : ℕ → ℕ → ℕ → Event T H K → Bool
  is_active_of server a p (Command.Receive n, Reply.Active b r) = n == server && b == a && r == p
  is_active_of server a p event = false

  -- the response k was loaned from the active request a
  abbrev pub is_loan : ℕ → ℕ → Event T H K → Bool
  is_loan a k (Command.Loan n len, Reply.Loaned j) = n == a && j == k
  is_loan a k (Command.LoanDefault n len, Reply.Loaned j) = n == a && j == k
  is_loan a k event = false

  -- the response was sent
  abbrev pub is_sent : ℕ → Event T H K → Bool
  is_sent k (Command.Send n, Reply.Sent j) = j == k
  is_sent k event = false

  -- the response was loaned from the active request a and sent, at once
  abbrev pub is_sent_copy : ℕ → ℕ → Event T H K → Bool
  is_sent_copy a k (Command.SendCopy n v, Reply.Sent j) = n == a && j == k
  is_sent_copy a k event = false

  -- the response was received
  abbrev pub is_response : ℕ → Event T H K → Bool
  is_response k (command, Reply.Response j) = j == k
  is_response k event = false

  -- the response that an event sends
  abbrev pub sent_by : Event T H K → Option ℕ
  sent_by (command, Reply.Sent k) = Some k
  sent_by event = None

  -- the response that the request p receives by an event
  abbrev pub received_by : ℕ → Event T H K → Option ℕ
  received_by p (Command.Receive n, Reply.Response k) = if n == p then Some k else None
  received_by p event = None

  -- the active request from which an event loans the response k
  abbrev pub lender_of : ℕ → Event T H K → Option ℕ
  lender_of k (Command.Loan n len, Reply.Loaned j) = if j == k then Some n else None
  lender_of k (Command.LoanDefault n len, Reply.Loaned j) = if j == k then Some n else None
  lender_of k (Command.SendCopy n v, Reply.Sent j) = if j == k then Some n else None
  lender_of k event = None

  -- a server is created that waits for room: with that strategy, and without a handler
  abbrev pub creates_waiting : ℕ → Event T H K → Bool
  creates_waiting server (Command.CreateServer settings, Reply.Created n) =
      n == server && retries settings.strategy && is_none settings.handler
  creates_waiting server event = false

  -- the port is released
  abbrev pub is_release : ℕ → Event T H K → Bool
  is_release port (Command.Release n, Reply.Done) = n == port
  is_release port event = false

  -- whether the response k was loaned from an active request of this server for the request p
  abbrev pub is_answer : List (Event T H K) → ℕ → ℕ → ℕ → Bool
  is_answer history server p k =
      list_any (λ a. list_any (is_active_of server a p) history) (filter_map (lender_of k) history)

  -- the responses that a server sent for a request, in order
  abbrev pub sent_for : List (Event T H K) → ℕ → ℕ → List ℕ
  sent_for history server p = filter (is_answer history server p) (filter_map sent_by history)

  -- the responses that a request received from a server, in order
  abbrev pub received_from : List (Event T H K) → ℕ → ℕ → List ℕ
  received_from history server p = filter (is_answer history server p) (filter_map (received_by p) history)

  -- a response that a request receives was loaned from an active request of that request, and sent after that
  abbrev pub AnswersTheRequest : List (Event T H K) → Type 0
  AnswersTheRequest history =
      (before after : List (Event T H K)) (p k : ℕ)
      → history ≡ before ++ (Command.Receive p, Reply.Response k) ∷ after →
      (a : ℕ) × (IsTrue (occur_in_order (is_active a p ∷ is_loan a k ∷ is_sent k ∷ []) before)
      ⊎ IsTrue (occur_in_order (is_active a p ∷ is_sent_copy a k ∷ []) before))

  -- no response is received twice
  abbrev pub ReceivesOnce : List (Event T H K) → Type 0
  ReceivesOnce history = (k : ℕ) → count_by (is_response k) history ≤ 1

  -- a request receives from each server a subsequence of what the server sent for it
  abbrev pub ReceivesInOrder : List (Event T H K) → Type 0
  ReceivesInOrder history =
      (server p : ℕ) → IsSubsequence (received_from history server p) (sent_for history server p)

  -- from a server that waits for room it receives a prefix of what the server sent for it
  abbrev pub ReceivesWithoutGap : List (Event T H K) → Type 0
  ReceivesWithoutGap history =
      (server p : ℕ) → IsTrue (list_any (creates_waiting server) history)
      → IsPrefix (received_from history server p) (sent_for history server p)

  -- when it receives nothing, it has received everything that such a server sent for it, unless the server was
  -- released
  abbrev pub ReceivesAll : List (Event T H K) → Type 0
  ReceivesAll history =
      (before after : List (Event T H K)) (server p : ℕ)
      → history ≡ before ++ (Command.Receive p, Reply.Nothing) ∷ after →
      IsTrue (list_any (creates_waiting server) before) → IsFalse (list_any (is_release server) before) →
      received_from before server p ≡ sent_for before server p

-- the answer rule, over the events of a hub with these limits
pub record KeepsAnswerRule {T H K : Type 0} (limits : Limits) (history : List (Event T H K)) : Type 0 where
  pub answers : AnswersTheRequest history
  pub once : ReceivesOnce history
  pub in_order : ReceivesInOrder history
  pub without_gap : limits.enable_safe_overflow_for_responses ≡ false → ReceivesWithoutGap history
  pub all : limits.enable_safe_overflow_for_responses ≡ false → ReceivesAll history
