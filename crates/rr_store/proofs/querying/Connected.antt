-- Whether the other side of a request may still answer, or still waits.
use Rattle.std.proofs.Common.{◌≡◌, ◌≢◌, ◌<◌, ◌≤◌, ◌+◌, ◌*◌, ℕ, Bool, true, false, cond, List, [], ◌∷◌, Option, Some, map, length, refl, sym, ap, ◌∙◌, subst, option_map, arith}
use Rattle.std.specs.Prelude.{IsSome, IsSomeAnd, is_some, nat_lt, option_and_then, slice_get, suc}
use Rattle.std.specs.List.{list_any}
use Rattle.std.proofs.Math.Nat.{mul-le-mul_right}
use Rattle.std.proofs.lemmas.Bool.{false≢true}
use Rattle.rr_table.specs.TableView.{value_at}
use Rattle.rr_protocol.specs.declared.kind.Kind.{Kind}
use Rattle.rr_protocol.specs.Messages.{Pending, RequestMessage, as_pending, as_active}
use Rattle.rr_protocol.specs.Queries.{kind_of, kind_at}
use Rattle.rr_protocol.specs.State.{State, handle_at, is_client_value, is_server_value, pending_at, active_at}
use Rattle.rr_store.specs.declared.handle_entry.HandleEntry.{HandleEntry}
use Rattle.rr_store.specs.declared.handle_entry.Stage.{Stage}
use Rattle.rr_store.specs.declared.handle_entry.Stage.TheVariants as stage
use Rattle.rr_store.specs.declared.port.ServerPort.{ServerPort}
use Rattle.rr_store.specs.Ports.{server_part}
use Rattle.rr_store.specs.Hints.{stage_connections, stage_hint}
use Rattle.rr_store.specs.Kinds.{stage_kind}
use Rattle.rr_store.specs.Parts.{Parts}
use Rattle.rr_store.specs.Views.{handle_in, state_of, is_awaited, is_marked, sender_of, waiting_at, request_at}
use Rattle.rr_store.specs.Sound.{is_of_request, is_of_response}
use Rattle.rr_store.proofs.base.lookups.Looking.{list_any-map, some_pass, kind_shown}
use Rattle.rr_store.proofs.base.lookups.Shown.{shown_there}

-- no element passes a test that each of them fails
pub none_pass : {X : Type 0} (t : X → Bool) (xs : List X) → ((i : ℕ) (x : X) → slice_get xs i ≡ Some x → t x ≡ false)
    → list_any t xs ≡ false
none_pass t [] each = refl
none_pass t (x ∷ xs) each = rw (each 0 x refl) (none_pass t xs (λ i y at. each (suc i) y at))

-- a kind that is no port's is a handle's
pub handle_kind : {Q QH P PH K : Type 0} (s : State Q QH P PH K) (n : ℕ) (k : Kind) → Kind.Client ≢ k → Kind.Server ≢ k
    → kind_at s n ≡ Some k → option_map kind_of (handle_at s n) ≡ Some k
handle_kind s n k client server h = go (is_client_value s n) (is_server_value s n) (option_map kind_of (handle_at s n)) h
  where
    go : (a b : Bool) (o : Option Kind) → cond a (Some Kind.Client) (cond b (Some Kind.Server) o) ≡ Some k → o ≡ Some k
    go true b o e = absurd (client (let f : Some Kind.Client ≡ Some k = e in cc))
    go false true o e = absurd (server (let f : Some Kind.Server ≡ Some k = e in cc))
    go false false o e = e

-- the stage of a kind
pub pending_stage : (g : Stage) → stage_kind g ≡ Kind.PendingResponse → (hint : Bool) × (connections : ℕ)
    × (g ≡ stage.PendingResponse hint connections)
pending_stage (stage.PendingResponse hint connections) h = (hint, connections, refl)
pending_stage stage.RequestMutUninit h = absurd (let f : Kind.RequestMutUninit ≡ Kind.PendingResponse = h in cc)
pending_stage stage.RequestMut h = absurd (let f : Kind.RequestMut ≡ Kind.PendingResponse = h in cc)
pending_stage (stage.ActiveRequest server loans) h = absurd (let f : Kind.ActiveRequest ≡ Kind.PendingResponse = h in cc)
pending_stage stage.ResponseMutUninit h = absurd (let f : Kind.ResponseMutUninit ≡ Kind.PendingResponse = h in cc)
pending_stage stage.ResponseMut h = absurd (let f : Kind.ResponseMut ≡ Kind.PendingResponse = h in cc)
pending_stage stage.Response h = absurd (let f : Kind.Response ≡ Kind.PendingResponse = h in cc)

-- and of an active request
pub active_stage : (g : Stage) → stage_kind g ≡ Kind.ActiveRequest → (server : ℕ) × (loans : ℕ) × (g ≡ stage.ActiveRequest server loans)
active_stage (stage.ActiveRequest server loans) h = (server, loans, refl)
active_stage stage.RequestMutUninit h = absurd (let f : Kind.RequestMutUninit ≡ Kind.ActiveRequest = h in cc)
active_stage stage.RequestMut h = absurd (let f : Kind.RequestMut ≡ Kind.ActiveRequest = h in cc)
active_stage (stage.PendingResponse hint connections) h = absurd (let f : Kind.PendingResponse ≡ Kind.ActiveRequest = h in cc)
active_stage stage.ResponseMutUninit h = absurd (let f : Kind.ResponseMutUninit ≡ Kind.ActiveRequest = h in cc)
active_stage stage.ResponseMut h = absurd (let f : Kind.ResponseMut ≡ Kind.ActiveRequest = h in cc)
active_stage stage.Response h = absurd (let f : Kind.Response ≡ Kind.ActiveRequest = h in cc)

-- the marks of a slot are some of its sender's
pub mark_within : (slot slots receivers receiver marks : ℕ) → slot < slots → receiver < receivers → marks ≡ slots * receivers
    → slot * receivers + receiver < marks
mark_within slot slots receivers receiver marks here there is =
    omega (arith, mul-le-mul_right {m = slot + 1} {n = slots} receivers (omega (arith, here)), there, is)

-- and so are as many marks as stand before them
pub marks_before : (slot slots receivers marks : ℕ) → slot < slots → marks ≡ slots * receivers → slot * receivers ≤ marks
marks_before slot slots receivers marks here is = omega (arith, mul-le-mul_right {m = slot} {n = slots} receivers (omega (arith, here)), is)

-- what a pending response in a stage keeps
abbrev pub pending_in : {Q QH P PH K : Type 0} → Parts Q QH P PH K → Stage → ℕ → ℕ → Pending Q QH
pending_in p g sender slot = record {
  message = request_at p sender slot;
  hint = stage_hint g;
  connections = stage_connections g;
  servers = waiting_at p sender slot;
}

module _ {Q QH P PH K : Type 0} (p : Parts Q QH P PH K) where
  -- some server has a mark where some may answer
  pub waiting_seen : (sender slot : ℕ) (servers stored : List (ServerPort K)) (marks : List ℕ) → p.servers ≡ map server_part servers
      → stored ≡ servers → (sender_of sender p.client_senders).may_answer ≡ marks
      → list_any (λ s. is_marked p.limits.max_servers marks slot s.port.receiver s.port.id) stored ≡ nat_lt 0
      (length (waiting_at p sender slot))
  waiting_seen sender slot servers stored marks are is here =
      ap (λ ms. list_any (λ s. is_marked p.limits.max_servers ms slot s.port.receiver s.port.id) stored) (sym here)
      ∙ ap (list_any (λ s. is_awaited p sender slot s.port.receiver s.port.id)) is
      ∙ sym (list_any-map server_part (λ s. is_awaited p sender slot s.receiver s.port.id) servers)
      ∙ ap (list_any (λ s. is_awaited p sender slot s.receiver s.port.id)) (sym are)
      ∙ some_pass (λ s. is_awaited p sender slot s.receiver s.port.id) (λ s. s.port.id) p.servers

  -- a state that the parts stand for, and a number of it
  module _ (s : State Q QH P PH K) (n m : ℕ) (view : state_of p ≡ s) (same : n ≡ m) (k : Kind) (client : Kind.Client ≢ k)
      (server : Kind.Server ≢ k) (is : kind_at s m ≡ Some k) where
    kind_there : option_map kind_of (handle_at (state_of p) n) ≡ Some k
    kind_there = ap (λ t. option_map kind_of (handle_at t n)) view ∙ ap (λ j. option_map kind_of (handle_at s j)) same
        ∙ handle_kind s m k client server is

    -- in the stage of its kind
    pub of_kind : (entry : HandleEntry) → value_at p.table n ≡ Some entry → stage_kind entry.stage ≡ k
    of_kind entry h = let f : Some (stage_kind entry.stage) ≡ Some k = sym (kind_shown p n entry h) ∙ kind_there in cc

  -- what is shown of a pending response
  pending-shown : (g : Stage) (sender slot : ℕ) → stage_kind g ≡ Kind.PendingResponse
      → as_pending (handle_in p g sender slot) ≡ Some (pending_in p g sender slot)
  pending-shown g sender slot is =
      let f = pending_stage g is in
      ap (λ (g : Stage). as_pending (handle_in p g sender slot)) f.2 ∙ sym (ap (λ (g : Stage). Some (pending_in p g sender slot)) f.2)

  -- only a handle of an active request shows one
  active-handle_in : (g : Stage) (sender slot : ℕ) → is_some (as_active (handle_in p g sender slot)) ≡ true
      → stage_kind g ≡ Kind.ActiveRequest
  active-handle_in (stage.ActiveRequest server loans) sender slot h = refl
  active-handle_in stage.RequestMutUninit sender slot h = absurd (false≢true h)
  active-handle_in stage.RequestMut sender slot h = absurd (false≢true h)
  active-handle_in (stage.PendingResponse hint connections) sender slot h = absurd (false≢true h)
  active-handle_in stage.ResponseMutUninit sender slot h = absurd (false≢true h)
  active-handle_in stage.ResponseMut sender slot h = absurd (false≢true h)
  active-handle_in stage.Response sender slot h = absurd (false≢true h)

  module _ (s : State Q QH P PH K) (n m : ℕ) (view : state_of p ≡ s) (same : n ≡ m) where
    -- of one
    pub is_active : (entry : HandleEntry) → value_at p.table n ≡ Some entry → IsSome (active_at s m)
        → stage_kind entry.stage ≡ Kind.ActiveRequest
    is_active entry h r =
        active-handle_in entry.stage entry.sender entry.slot (sym (ap (λ o. is_some (option_and_then as_active o))
        (shown_there p s n m view same entry h)) ∙ r)

  module _ (s : State Q QH P PH K) (n m : ℕ) (view : state_of p ≡ s) (same : n ≡ m) (entry : HandleEntry)
      (h : value_at p.table n ≡ Some entry) where
    -- what holds of what a pending response keeps
    pub of_kept : (R : Pending Q QH → Type 0) → stage_kind entry.stage ≡ Kind.PendingResponse
        → R (pending_in p entry.stage entry.sender entry.slot) → IsSomeAnd (pending_at s m) R
    of_kept R is r =
        subst (λ o. IsSomeAnd o R)
        (sym (ap (option_and_then as_pending) (shown_there p s n m view same entry h)
        ∙ pending-shown entry.stage entry.sender entry.slot is)) r

    -- what holds of the servers that may answer
    pub of_pending : (R : List ℕ → Type 0) → stage_kind entry.stage ≡ Kind.PendingResponse → R (waiting_at p entry.sender entry.slot)
        → IsSomeAnd (pending_at s m) (λ pending. R pending.servers)
    of_pending R is r = of_kept (λ pending. R pending.servers) is r

    -- what holds of the request that was received
    pub of_received : (R : RequestMessage Q QH → Type 0) → stage_kind entry.stage ≡ Kind.ActiveRequest
        → R (request_at p entry.sender entry.slot) → IsSomeAnd (active_at s m) (λ active. R active.message)
    of_received R is r =
        let f = active_stage entry.stage is in
        subst (λ o. IsSomeAnd (option_and_then as_active o) (λ active. R active.message))
        (sym (shown_there p s n m view same entry h ∙ ap (λ (g : Stage). Some (handle_in p g entry.sender entry.slot)) f.2)) r

    -- and of its number
    pub of_active : (R : ℕ → Type 0) → stage_kind entry.stage ≡ Kind.ActiveRequest → R (request_at p entry.sender entry.slot).number
        → IsSomeAnd (active_at s m) (λ active. R active.message.number)
    of_active R is r = of_received (λ (m : RequestMessage Q QH). R m.number) is r

-- a pending response is a handle of a request
pub pending_has_request : (g : Stage) → stage_kind g ≡ Kind.PendingResponse → is_of_request g ≡ true
pending_has_request g h = let f = pending_stage g h in ap is_of_request f.2

-- and an active request is one
pub active_has_request : (g : Stage) → stage_kind g ≡ Kind.ActiveRequest → is_of_request g ≡ true
active_has_request g h = let f = active_stage g h in ap is_of_request f.2

-- a response that was received is a handle of a response
pub received_has_response : (g : Stage) → stage_kind g ≡ Kind.Response → is_of_response g ≡ true
received_has_response stage.Response h = refl
received_has_response stage.RequestMutUninit h = absurd (let f : Kind.RequestMutUninit ≡ Kind.Response = h in cc)
received_has_response stage.RequestMut h = absurd (let f : Kind.RequestMut ≡ Kind.Response = h in cc)
received_has_response (stage.PendingResponse hint connections) h = absurd (let f : Kind.PendingResponse ≡ Kind.Response = h in cc)
received_has_response (stage.ActiveRequest server loans) h = absurd (let f : Kind.ActiveRequest ≡ Kind.Response = h in cc)
received_has_response stage.ResponseMutUninit h = refl
received_has_response stage.ResponseMut h = refl
