-- Which handles are of requests and which of responses, and that a message with a handle is used.
use Rattle.std.proofs.Common.{◌≡◌, ◌<◌, ℕ, true, Some, refl, arith}
use Rattle.std.specs.FinMap as fin_map
use Rattle.std.proofs.lemmas.Bool.{false≢true, eq-eqb}
use Rattle.rr_table.specs.TableView.{TableEntry}
use Rattle.rr_table.proofs.MapLaws.{tally-at}
use Rattle.rr_store.specs.declared.handle_entry.HandleEntry.{HandleEntry}
use Rattle.rr_store.specs.declared.handle_entry.Stage.{Stage}
use Rattle.rr_store.specs.declared.handle_entry.Stage.TheVariants as stage
use Rattle.rr_store.specs.Parts.{Parts}
use Rattle.rr_store.specs.Sound.{IsCounted, Hand, is_of_request, is_of_response, is_request_loan, is_pending, is_active_of, is_response_loan, is_received, has_request_at, has_response_at, request_uses, response_uses}

-- a handle that is a request on loan, or pending, or active, is of a request
pub loan_is_request : (g : Stage) → is_request_loan g ≡ true → is_of_request g ≡ true
loan_is_request stage.RequestMutUninit h = refl
loan_is_request stage.RequestMut h = refl
loan_is_request (stage.PendingResponse hint connections) h = refl
loan_is_request (stage.ActiveRequest server loans) h = refl
loan_is_request stage.ResponseMutUninit h = absurd (false≢true h)
loan_is_request stage.ResponseMut h = absurd (false≢true h)
loan_is_request stage.Response h = absurd (false≢true h)

pub pending_is_request : (g : Stage) → is_pending g ≡ true → is_of_request g ≡ true
pending_is_request (stage.PendingResponse hint connections) h = refl
pending_is_request stage.RequestMutUninit h = absurd (false≢true h)
pending_is_request stage.RequestMut h = absurd (false≢true h)
pending_is_request (stage.ActiveRequest server loans) h = absurd (false≢true h)
pending_is_request stage.ResponseMutUninit h = absurd (false≢true h)
pending_is_request stage.ResponseMut h = absurd (false≢true h)
pending_is_request stage.Response h = absurd (false≢true h)

pub active_is_request : (server : ℕ) (g : Stage) → is_active_of server g ≡ true → is_of_request g ≡ true
active_is_request server (stage.ActiveRequest n loans) h = refl
active_is_request server stage.RequestMutUninit h = absurd (false≢true h)
active_is_request server stage.RequestMut h = absurd (false≢true h)
active_is_request server (stage.PendingResponse hint connections) h = absurd (false≢true h)
active_is_request server stage.ResponseMutUninit h = absurd (false≢true h)
active_is_request server stage.ResponseMut h = absurd (false≢true h)
active_is_request server stage.Response h = absurd (false≢true h)

pub response_loan_is_response : (g : Stage) → is_response_loan g ≡ true → is_of_response g ≡ true
response_loan_is_response stage.ResponseMutUninit h = refl
response_loan_is_response stage.ResponseMut h = refl
response_loan_is_response stage.RequestMutUninit h = absurd (false≢true h)
response_loan_is_response stage.RequestMut h = absurd (false≢true h)
response_loan_is_response (stage.PendingResponse hint connections) h = absurd (false≢true h)
response_loan_is_response (stage.ActiveRequest server loans) h = absurd (false≢true h)
response_loan_is_response stage.Response h = absurd (false≢true h)

pub received_is_response : (g : Stage) → is_received g ≡ true → is_of_response g ≡ true
received_is_response stage.Response h = refl
received_is_response stage.RequestMutUninit h = absurd (false≢true h)
received_is_response stage.RequestMut h = absurd (false≢true h)
received_is_response (stage.PendingResponse hint connections) h = absurd (false≢true h)
received_is_response (stage.ActiveRequest server loans) h = absurd (false≢true h)
received_is_response stage.ResponseMutUninit h = absurd (false≢true h)
received_is_response stage.ResponseMut h = absurd (false≢true h)

module _ {Q QH P PH K : Type 0} (p : Parts Q QH P PH K) (hand : Hand) (c : IsCounted p hand) where
  -- a request with a handle is used
  pub handle_uses_request : (k : ℕ) (s : TableEntry HandleEntry) → fin_map.get p.table.entries k ≡ Some s
      → is_of_request s.value.stage ≡ true
      → 0 < request_uses p s.value.sender s.value.slot
  handle_uses_request k s at is =
      let here : has_request_at s.value.sender s.value.slot s ≡ true = rw is
      (rw (eq-eqb s.value.sender s.value.sender refl) (rw (eq-eqb s.value.slot s.value.slot refl) refl)) in
      omega (
        arith,
        c.requests s.value.sender s.value.slot,
        tally-at (has_request_at s.value.sender s.value.slot) p.table.entries k s at
            here,
      )

  -- and so is a response with a handle
  pub handle_uses_response : (k : ℕ) (s : TableEntry HandleEntry) → fin_map.get p.table.entries k ≡ Some s
      → is_of_response s.value.stage ≡ true
      → 0 < response_uses p s.value.sender s.value.slot
  handle_uses_response k s at is =
      let here : has_response_at s.value.sender s.value.slot s ≡ true = rw is
      (rw (eq-eqb s.value.sender s.value.sender refl) (rw (eq-eqb s.value.slot s.value.slot refl) refl)) in
      omega (
        arith,
        c.responses s.value.sender s.value.slot,
        tally-at (has_response_at s.value.sender s.value.slot) p.table.entries k s at
            here,
      )
