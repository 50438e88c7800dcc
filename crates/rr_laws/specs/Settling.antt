-- Steps from one state to another: which requests still wait for which servers, and that a request's number names
-- nothing else.
use Rattle.std.specs.Prelude.{◌≡◌, ◌⊎◌, ℕ, ◌<◌, ◌≤◌, true, ◌==◌, List, Some, None, count_by}
use Rattle.std.specs.FinMap as fin_map
use Rattle.rr_protocol.specs.declared.settings.BackpressureStrategy.{BackpressureStrategy}
use Rattle.rr_protocol.specs.Lists.{Lists, at}
use Rattle.rr_protocol.specs.Keys.{RequestKey, request_key_cmp}
use Rattle.rr_protocol.specs.Messages.{RequestMessage}
use Rattle.rr_protocol.specs.Ports.{Server}
use Rattle.rr_protocol.specs.State.{State, server_at, is_server_value}
use Rattle.rr_laws.specs.Roles.{Question, LoanedRequest, SentRequest, roles_of, asking_at}
use Rattle.rr_laws.specs.Following.{queued}

-- a server waits for room: by that strategy, and without a handler
abbrev pub IsWaiting : {K : Type 0} → Server K → Type 0
IsWaiting c = (c.strategy ≡ BackpressureStrategy.RetryUntilDelivered) × (c.handler ≡ None)

module _ {T H : Type 0} where
  -- how many requests of a list have this number
  abbrev pub listed : Lists request_key_cmp (RequestMessage T H) → ℕ → RequestKey → ℕ
  listed lists number key = count_by (λ m. m.number == number) (at lists key)

module _ {Q QH P PH K : Type 0} where
  -- the request waits for answers, and the server is connected
  abbrev pub IsServing : State Q QH P PH K → ℕ → ℕ → Type 0
  IsServing s server p =
      ((q : Question) × (fin_map.get (roles_of s.handles) p ≡ Some (SentRequest q)))
      × ((c : Server K) × (server_at s server ≡ Some c))

  -- a number is that of a request that was not sent and yet is in a list of requests, or it is both a connected
  -- server's and a request's
  abbrev pub Clashes : State Q QH P PH K → ℕ → Type 0
  Clashes s n =
      ((q : Question) × (key : RequestKey) × (fin_map.get (roles_of s.handles) n ≡ Some (LoanedRequest q))
      × (0 < listed s.requests n key))
      ⊎ ((c : Server K) × (server_at s n ≡ Some c)
      × (((q : Question) × (asking_at (roles_of s.handles) n ≡ Some q))
      ⊎ ((key : RequestKey) × (0 < listed s.requests n key))))

  -- the server or the request has no number yet, or the request was not sent
  abbrev pub IsNew : State Q QH P PH K → ℕ → ℕ → Type 0
  IsNew s server p =
      (s.next ≤ server) ⊎ ((s.next ≤ p) ⊎ ((q : Question)
      × (fin_map.get (roles_of s.handles) p ≡ Some (LoanedRequest q))))

  -- a request that waits for a server did so before, and its entries change as stated, or it begins to; servers keep
  -- their settings, and their handles but for those that end; and no number begins to name two things
  pub record Settles (Begins : ℕ → ℕ → Type 0) (Ends : ℕ → Type 0) (GoesOn : ℕ → ℕ → List ℕ → List ℕ → Type 0)
      (old new : State Q QH P PH K) : Type 0 where
    pub next : old.next ≤ new.next
    pub serving : (server p : ℕ) → IsServing new server p
        → (IsServing old server p × GoesOn server p (queued old server p) (queued new server p)) ⊎ Begins server p
    pub servers : (n : ℕ) (c : Server K) → server_at new n ≡ Some c
        → ((d : Server K) × (server_at old n ≡ Some d) × (c.strategy ≡ d.strategy) × (c.handler ≡ d.handler))
        ⊎ (old.next ≤ n)
    pub held : (n : ℕ) → is_server_value old n ≡ true → (is_server_value new n ≡ true) ⊎ Ends n
    pub loaned : (n : ℕ) (q : Question) → fin_map.get (roles_of new.handles) n ≡ Some (LoanedRequest q)
        → (fin_map.get (roles_of old.handles) n ≡ Some (LoanedRequest q)) ⊎ (old.next ≤ n)
    pub clash : (n : ℕ) → Clashes new n → Clashes old n
