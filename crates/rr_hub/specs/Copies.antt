-- Messages that one call loans, writes and sends.
use Rattle.std.specs.Prelude.{◌≡◌, ◌≢◌, ◌⊎◌, ℕ, true, false, List, None, Some, Result, Ok, Err, slice_get}
use Rattle.rr_protocol.specs.declared.settings.BackpressureAction.{BackpressureAction}
use Rattle.rr_protocol.specs.declared.error.LoanError.{LoanError}
use Rattle.rr_protocol.specs.declared.error.RequestSendError.{RequestSendError}
use Rattle.rr_protocol.specs.declared.error.SendError.{SendError}
use Rattle.rr_protocol.specs.Loans.{LoansRequest, LoansResponse}
use Rattle.rr_protocol.specs.Ports.{Server}
use Rattle.rr_protocol.specs.Queries.{kind_at}
use Rattle.rr_protocol.specs.Sends.{SendsRequest, SendsResponse}
use Rattle.rr_protocol.specs.State.{State, with_changed}
use Rattle.rr_protocol.specs.Writing.{after_init, with_elements, with_request_content, with_response_content}
use Rattle.rr_laws.specs.Apart.{ChannelsApart, LoansKeepServers}
use Rattle.rr_laws.specs.Reached.{IsReached, has_client, has_server}
use Rattle.rr_laws.specs.Roles.{roles_of}
use Rattle.rr_laws.specs.Unreduced.{ClientHasPool, ServerHasPool}

module _ {Q QH P PH K : Type 0} where
  -- after a request got its elements and was made ready to send
  abbrev pub with_complete_request : State Q QH P PH K → ℕ → List Q → State Q QH P PH K
  with_complete_request s n elements =
      with_changed (with_changed s n (with_request_content (with_elements elements))) n after_init

  -- after a response did
  abbrev pub with_complete_response : State Q QH P PH K → ℕ → List P → State Q QH P PH K
  with_complete_response s n elements =
      with_changed (with_changed s n (with_response_content (with_elements elements))) n after_init

  -- the facts of every core's state, as `Core::reached` gives them
  abbrev pub IsOfCore : State Q QH P PH K → Type 0
  IsOfCore s = record {
    reached : IsReached s;
    channels : ChannelsApart (roles_of s.handles);
    servers : (i j : ℕ) (x y : Server K) → slice_get s.servers i ≡ Some x → slice_get s.servers j ≡ Some y
        → x.id ≡ y.id → i ≡ j;
    kinds : (n : ℕ) → has_client s.clients n ≡ true → has_server s.servers n ≡ false;
    loans : LoansKeepServers (roles_of s.handles);
  }

  -- a client loans a request of this length, which is written and sent; or the loan is refused; or the send is
  -- refused, and the request is released. The number named nothing before, the state in between is that of a core,
  -- and a worst-case pool is not full
  abbrev pub SendsRequestAtOnce : (QH → Type 0) → (K → ℕ → ℕ → BackpressureAction) → State Q QH P PH K → ℕ → ℕ
      → List Q → Result ℕ RequestSendError → State Q QH P PH K → Type 0
  SendsRequestAtOnce IsDefault action old n len elements (Ok pending) new =
      (mid : State Q QH P PH K) × LoansRequest IsDefault old n len (Ok pending) mid × (kind_at old pending ≡ None)
      × IsOfCore (with_complete_request mid pending elements)
      × ((connections : ℕ) × SendsRequest action (with_complete_request mid pending elements) pending (Ok connections)
      new)
  SendsRequestAtOnce IsDefault action old n len elements (Err error) new =
      ((loan : LoanError) × (error ≡ RequestSendError.SendError (SendError.LoanError loan))
      × LoansRequest IsDefault old n len (Err loan) new
      × (ClientHasPool old.limits old n len → loan ≢ LoanError.OutOfMemory))
      ⊎ ((mid : State Q QH P PH K) × (number : ℕ) × LoansRequest IsDefault old n len (Ok number) mid
      × (kind_at old number ≡ None)
      × IsOfCore (with_complete_request mid number elements)
      × SendsRequest action (with_complete_request mid number elements) number (Err error) new)

  -- the same for a response of this length, loaned from an active request
  abbrev pub SendsResponseAtOnce : {U : Type 0} → (PH → Type 0) → (K → ℕ → ℕ → BackpressureAction) → State Q QH P PH K
      → ℕ → ℕ → List P → Result U SendError → State Q QH P PH K → Type 0
  SendsResponseAtOnce IsDefault action old n len elements (Ok unit) new =
      (mid : State Q QH P PH K) × (number : ℕ) × LoansResponse IsDefault old n len (Ok number) mid
      × (kind_at old number ≡ None)
      × IsOfCore (with_complete_response mid number elements)
      × SendsResponse action (with_complete_response mid number elements) number (Ok unit) new
  SendsResponseAtOnce {U} IsDefault action old n len elements (Err error) new =
      ((loan : LoanError) × (error ≡ SendError.LoanError loan) × LoansResponse IsDefault old n len (Err loan) new
      × (ServerHasPool old.limits old n len → loan ≢ LoanError.OutOfMemory))
      ⊎ ((mid : State Q QH P PH K) × (number : ℕ) × LoansResponse IsDefault old n len (Ok number) mid
      × (kind_at old number ≡ None)
      × IsOfCore (with_complete_response mid number elements)
      × SendsResponse {U = U} action (with_complete_response mid number elements) number (Err error) new)
