-- What is kept by each call that changes a hub, as commands and ports make them.
use Rattle.std.proofs.Common.{◌≡◌, ℕ, Option, Result}
use Rattle.rr_protocol.specs.declared.settings.BackpressureAction.{BackpressureAction}
use Rattle.rr_protocol.specs.declared.settings.ClientSettings.{ClientSettings}
use Rattle.rr_protocol.specs.declared.error.ClientCreateError.{ClientCreateError}
use Rattle.rr_protocol.specs.declared.settings.ServerSettings.{ServerSettings}
use Rattle.rr_protocol.specs.declared.error.ServerCreateError.{ServerCreateError}
use Rattle.rr_protocol.specs.declared.error.LoanError.{LoanError}
use Rattle.rr_protocol.specs.declared.error.RequestSendError.{RequestSendError}
use Rattle.rr_protocol.specs.declared.error.SendError.{SendError}
use Rattle.rr_protocol.specs.declared.error.ReceiveError.{ReceiveError}
use Rattle.rr_protocol.specs.State.{State, with_changed}
use Rattle.rr_protocol.specs.Creation.{CreatesClient, CreatesServer}
use Rattle.rr_protocol.specs.Loans.{LoansRequest, LoansResponse}
use Rattle.rr_protocol.specs.Messages.{Handle}
use Rattle.rr_protocol.specs.Sends.{SendsRequest, SendsResponse}
use Rattle.rr_protocol.specs.Receives.{ReceivesRequest, ReceivesResponse}
use Rattle.rr_protocol.specs.Releases.{after_release}
use Rattle.rr_laws.specs.Reached.{IsReached}
use Rattle.rr_laws.specs.Roles.{role_of}
use Rattle.rr_laws.proofs.Creating.{creates_client_reached, creates_server_reached}
use Rattle.rr_laws.proofs.Loaning.{loans_request_reached, loans_response_reached}
use Rattle.rr_laws.proofs.Changing.{with_changed_reached}
use Rattle.rr_laws.proofs.Sending.{sends_request_reached, sends_response_reached}
use Rattle.rr_laws.proofs.Receiving.{receives_request_reached, receives_response_reached}
use Rattle.rr_laws.proofs.Leaving.{after_release_reached}

module _ {Q QH P PH K : Type 0} (action : K → ℕ → ℕ → BackpressureAction) (IsDefaultRequestHeader : QH → Type 0)
    (IsDefaultResponseHeader : PH → Type 0) where
  -- in a reached state a fact is kept by each call, also by one that is refused, and by a release of what may be released
  pub record KeptByCalls (Holds : State Q QH P PH K → Type 0) (MayRelease : State Q QH P PH K → ℕ → Type 0) : Type 0 where
    pub client : (s : State Q QH P PH K) → IsReached s → Holds s → (settings : ClientSettings K) (result : Result ℕ ClientCreateError)
        (new : State Q QH P PH K) → CreatesClient s settings result new → Holds new
    pub server : (s : State Q QH P PH K) → IsReached s → Holds s → (settings : ServerSettings K) (result : Result ℕ ServerCreateError)
        (new : State Q QH P PH K) → CreatesServer s settings result new → Holds new
    pub loan_request : (s : State Q QH P PH K) → IsReached s → Holds s → (n len : ℕ) (result : Result ℕ LoanError)
        (new : State Q QH P PH K) → LoansRequest IsDefaultRequestHeader s n len result new → Holds new
    pub loan_response : (s : State Q QH P PH K) → IsReached s → Holds s → (n len : ℕ) (result : Result ℕ LoanError)
        (new : State Q QH P PH K) → LoansResponse IsDefaultResponseHeader s n len result new → Holds new
    pub change : (s : State Q QH P PH K) → IsReached s → Holds s → (n : ℕ) (change : Handle Q QH P PH → Handle Q QH P PH)
        → ((h : Handle Q QH P PH) → role_of (change h) ≡ role_of h) → Holds (with_changed s n change)
    pub send_request : (s : State Q QH P PH K) → IsReached s → Holds s → (n : ℕ) (result : Result ℕ RequestSendError)
        (new : State Q QH P PH K) → SendsRequest action s n result new → Holds new
    pub send_response : (s : State Q QH P PH K) → IsReached s → Holds s → (n : ℕ) (result : Result ℕ SendError)
        (new : State Q QH P PH K) → SendsResponse action s n result new → Holds new
    pub receive_request : (s : State Q QH P PH K) → IsReached s → Holds s → (n : ℕ) (result : Result (Option ℕ) ReceiveError)
        (new : State Q QH P PH K) → ReceivesRequest s n result new → Holds new
    pub receive_response : (s : State Q QH P PH K) → IsReached s → Holds s → (n : ℕ) (result : Result (Option ℕ) ReceiveError)
        (new : State Q QH P PH K) → ReceivesResponse s n result new → Holds new
    pub release : (s : State Q QH P PH K) → IsReached s → Holds s → (n : ℕ) → MayRelease s n → Holds (after_release s n)

  -- a state stays reached
  pub reached_kept : KeptByCalls (λ s. IsReached s) (λ s n. Unit {0})
  reached_kept = record {
    client = λ s fits holds. creates_client_reached s fits;
    server = λ s fits holds. creates_server_reached s fits;
    loan_request = λ s fits holds. loans_request_reached s fits IsDefaultRequestHeader;
    loan_response = λ s fits holds. loans_response_reached s fits IsDefaultResponseHeader;
    change = λ s fits holds n change same. with_changed_reached s n change same fits;
    send_request = λ s fits holds n. sends_request_reached s fits n action;
    send_response = λ s fits holds n. sends_response_reached s fits n action;
    receive_request = λ s fits holds. receives_request_reached s fits;
    receive_response = λ s fits holds. receives_response_reached s fits;
    release = λ s fits holds n may. after_release_reached s n fits;
  }
