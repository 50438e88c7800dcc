-- How a state follows from its history: the events that its handles and lists of responses imply.
use Rattle.std.specs.FinMap as fin_map
use Rattle.std.specs.Prelude.{◌≡◌, ◌⊎◌, ℕ, ◌<◌, ◌≤◌, Bool, true, false, List, [], ◌∷◌, ◌++◌, map, filter_map, count_by, Option, Some, None, option_and_then}
use Rattle.std.specs.List.{AllByRecursion, list_any}
use Rattle.std.specs.Option.{option_map_or}
use Rattle.rr_protocol.specs.Lists.{Lists, at}
use Rattle.rr_protocol.specs.Keys.{ResponseKey, response_key_cmp}
use Rattle.rr_protocol.specs.Messages.{ResponseMessage}
use Rattle.rr_protocol.specs.State.{State}
use Rattle.rr_protocol.specs.AnswerRule.{Event, IsSubsequence, occur_in_order, is_active, is_active_of, is_loan, is_sent, is_sent_copy, is_response, sent_by, received_by, lender_of, sent_for, received_from}
use Rattle.rr_laws.specs.Roles.{Question, Role, SentRequest, ReceivedRequest, LoanedResponse, Answer, Roles, roles_of}

-- the request that waits for answers in a role
abbrev pub waiting_question : Role → Option Question
waiting_question (SentRequest q) = Some q
waiting_question _ = None

-- whether a server has it: a request that it received, or a response on loan
abbrev pub is_servers : Role → Bool
is_servers (ReceivedRequest server q) = true
is_servers (LoanedResponse a) = true
is_servers _ = false

-- the list from a server to the channel of a request
abbrev pub channel_key : ℕ → Question → ResponseKey
channel_key server q = record { server = server; client = q.client; channel = q.channel }

-- the numbers of the responses in the list from a server to a request that waits for answers
abbrev pub entries_for : {T H : Type 0} → Roles → Lists response_key_cmp (ResponseMessage T H) → ℕ → ℕ → List ℕ
entries_for roles lists server p =
    option_map_or (λ q. map (λ m. m.number) (at lists (channel_key server q)))
    (option_and_then waiting_question (fin_map.get roles p)) []

module _ {Q QH P PH K : Type 0} where
  -- the same in a state
  abbrev pub queued : State Q QH P PH K → ℕ → ℕ → List ℕ
  queued s server p = entries_for (roles_of s.handles) s.responses server p

  -- from one state to another numbers grow, each handle of a server was there before or is gained, and the entries
  -- for a request are removed or change as `GoesOn` says
  pub record Moves (Gains : ℕ → Role → Type 0) (GoesOn : ℕ → ℕ → List ℕ → List ℕ → Type 0)
      (old new : State Q QH P PH K) : Type 0 where
    pub next : old.next ≤ new.next
    pub roles : (n : ℕ) (role : Role) → is_servers role ≡ true → fin_map.get (roles_of new.handles) n ≡ Some role
        → (fin_map.get (roles_of old.handles) n ≡ Some role) ⊎ Gains n role
    pub entries : (server p : ℕ) → (queued new server p ≡ [])
        ⊎ GoesOn server p (queued old server p) (queued new server p)

  -- nothing is gained, and entries stay or are removed
  abbrev pub MovesQuietly : State Q QH P PH K → State Q QH P PH K → Type 0
  MovesQuietly old new = Moves (λ n role. ⊥) (λ server p before after. after ≡ before) old new

module _ {T H K : Type 0} where
  -- the server received the request p as the active request a
  abbrev pub WasReceived : List (Event T H K) → ℕ → ℕ → ℕ → Type 0
  WasReceived history server a p = list_any (is_active_of server a p) history ≡ true

  -- the response k was loaned from the active request a alone, which is this server's for the request p, and was not
  -- received
  pub record IsLoaned (history : List (Event T H K)) (server p a k : ℕ) : Type 0 where
    pub active : WasReceived history server a p
    pub lenders : filter_map (lender_of k) history ≡ a ∷ []
    pub unreceived : count_by (is_response k) history ≡ 0

  -- the history has the receive of the active request, and later the loan of the response
  abbrev pub LoanOccurs : List (Event T H K) → ℕ → ℕ → ℕ → Type 0
  LoanOccurs history p a k = occur_in_order (is_active a p ∷ is_loan a k ∷ []) history ≡ true

  -- the history has the receive of the active request, and later the loan and the send of the response, or both at
  -- once
  abbrev pub SendOccurs : List (Event T H K) → ℕ → ℕ → ℕ → Type 0
  SendOccurs history p a k =
      (occur_in_order (is_active a p ∷ is_loan a k ∷ is_sent k ∷ []) history ≡ true)
      ⊎ (occur_in_order (is_active a p ∷ is_sent_copy a k ∷ []) history ≡ true)

  -- the response k was loaned from an active request of this server for the request p, was sent after that, and was
  -- not received
  pub record WasSent (history : List (Event T H K)) (server p k : ℕ) : Type 0 where
    pub lender : ℕ
    pub loaned : IsLoaned history server p lender k
    pub occurs : SendOccurs history p lender k

  -- no event names the number as that of a response or of an active request
  pub record IsUnused (history : List (Event T H K)) (k : ℕ) : Type 0 where
    pub no_lender : filter_map (lender_of k) history ≡ []
    pub no_response : count_by (is_response k) history ≡ 0
    pub not_active : (server p : ℕ) → list_any (is_active_of server k p) history ≡ false

  -- the facts of the numbers in a history: each response has lenders, sends and receives below the next number, and
  -- each active request one server and one request
  pub record NumbersFit (history : List (Event T H K)) (next : ℕ) : Type 0 where
    pub unused : (k : ℕ) → next ≤ k → IsUnused history k
    pub lenders : (k : ℕ) → AllByRecursion (λ a. a < next) (filter_map (lender_of k) history)
    pub sent : AllByRecursion (λ k. k < next) (filter_map sent_by history)
    pub received : (p : ℕ) → AllByRecursion (λ k. k < next) (filter_map (received_by p) history)
    pub one_receiver : (a server other p q : ℕ) → WasReceived history server a p → WasReceived history other a q
        → (server ≡ other) × (p ≡ q)
    pub once : (k : ℕ) → count_by (is_response k) history ≤ 1

module _ {T H Q QH P PH K : Type 0} where
  -- a state follows from a history
  pub record Follows (history : List (Event T H K)) (s : State Q QH P PH K) : Type 0 where
    pub numbers : NumbersFit history s.next
    pub held : (n server : ℕ) (q : Question) → fin_map.get (roles_of s.handles) n ≡ Some (ReceivedRequest server q)
        → WasReceived history server n q.number
    pub loaned : (k : ℕ) (a : Answer) → fin_map.get (roles_of s.handles) k ≡ Some (LoanedResponse a) →
        IsLoaned history a.server a.request a.active_request k × LoanOccurs history a.request a.active_request k
    pub entries : (server p : ℕ) → AllByRecursion (WasSent history server p) (queued s server p)
    pub order : (server p : ℕ) → IsSubsequence (received_from history server p ++ queued s server p)
        (sent_for history server p)
