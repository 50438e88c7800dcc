-- Calls that may return the handle that they were given.
use Rattle.std.specs.Prelude.{◌≡◌, ℕ, Bool, true, false, List, length, IsSomeAnd, Result, Ok, Err, Some, option_and_then}
use Rattle.rr_ports.specs.declared.try_send.Refused.{Refused}
use Rattle.rr_ports.specs.Facts.{AskedLen, Has}
use Rattle.rr_ports.specs.Sending.{SendsPending}
use Rattle.rr_protocol.specs.declared.error.RequestSendError.{RequestSendError}
use Rattle.rr_protocol.specs.declared.error.SendError.{SendError}
use Rattle.rr_protocol.specs.declared.error.SendError.TheVariants as send
use Rattle.rr_protocol.specs.declared.settings.BackpressureAction.{BackpressureAction}
use Rattle.rr_protocol.specs.Messages.{request_in, response_in}
use Rattle.rr_protocol.specs.Sends.{SendsResponse, is_response_refused, request_send_refusal}
use Rattle.rr_protocol.specs.State.{IsRequestMutAnd, IsResponseMutAnd, State, handle_at, with_changed}
use Rattle.rr_protocol.specs.Writing.{after_init, is_complete}
use Rattle.rr_shared_ports.specs.declared.error.WriteError.{WriteError}
use Rattle.rr_shared_ports.specs.declared.error.WriteError.TheVariants as write

module _ {Q QH P PH K : Type 0} where
  -- the payload of the request under a number is complete, or is not
  abbrev pub RequestIsComplete : State Q QH P PH K → ℕ → Bool → Type 0
  RequestIsComplete s n complete =
      IsSomeAnd (option_and_then request_in (handle_at s n)) (λ m. is_complete m.content ≡ complete)

  -- the same of the response under a number
  abbrev pub ResponseIsComplete : State Q QH P PH K → ℕ → Bool → Type 0
  ResponseIsComplete s n complete =
      IsSomeAnd (option_and_then response_in (handle_at s n)) (λ m. is_complete m.content ≡ complete)

  -- a complete message is made ready to send; any other is returned as it was
  abbrev pub Initialises : (State Q QH P PH K → ℕ → Bool → Type 0) → State Q QH P PH K → ℕ
      → Result ℕ (Refused ℕ WriteError) → State Q QH P PH K → Type 0
  Initialises IsComplete old n (Ok made) new =
      (made ≡ n) × IsComplete old n true × (new ≡ with_changed old n after_init)
  Initialises IsComplete old n (Err refused) new =
      (refused.message ≡ n) × (refused.error ≡ write.Incomplete) × IsComplete old n false × (new ≡ old)

  -- an element is appended to a message; or that is complete, and the element is given back
  abbrev pub Pushes : {T : Type 0} → (State Q QH P PH K → ℕ → Bool → Type 0)
      → (State Q QH P PH K → ℕ → T → State Q QH P PH K) → State Q QH P PH K → ℕ → T
      → Result (Unit {0}) T → State Q QH P PH K → Type 0
  Pushes IsComplete pushed old n x (Ok unit) new = IsComplete old n false × (new ≡ pushed old n x)
  Pushes IsComplete pushed old n x (Err element) new = (element ≡ x) × IsComplete old n true × (new ≡ old)

  -- elements of the loaned length are written, and the message can be sent then; any other number of them is refused
  abbrev pub WritesSlice : {T : Type 0} → (State Q QH P PH K → ℕ → List T → State Q QH P PH K) → State Q QH P PH K → ℕ
      → List T
      → Result ℕ (Refused ℕ WriteError) → State Q QH P PH K → Type 0
  WritesSlice written old n xs (Ok made) new =
      (made ≡ n) × Has old n (AskedLen (length xs)) × (new ≡ written old n xs)
  WritesSlice written old n xs (Err refused) new =
      (refused.message ≡ n) × (refused.error ≡ write.WrongLength) × (Has old n (AskedLen (length xs)) → ⊥)
      × (new ≡ old)

  module _ (action : K → ℕ → ℕ → BackpressureAction) where
    -- a request is sent, or given back as it was
    abbrev pub TriesRequest : State Q QH P PH K → ℕ → Result ℕ (Refused ℕ RequestSendError) → State Q QH P PH K
        → Type 0
    TriesRequest old n (Ok pending) new = SendsPending action old n (Ok pending) new
    TriesRequest old n (Err refused) new =
        (refused.message ≡ n) × (new ≡ old) × IsRequestMutAnd old n
        (λ client message. Some refused.error ≡ request_send_refusal action old client message)

    -- a response is sent, or given back as it was
    abbrev pub TriesResponse : State Q QH P PH K → ℕ → Result (Unit {0}) (Refused ℕ SendError) → State Q QH P PH K
        → Type 0
    TriesResponse old n (Ok unit) new = SendsResponse action old n (Ok unit) new
    TriesResponse old n (Err refused) new =
        (refused.message ≡ n) × (refused.error ≡ send.UnableToDeliver) × (new ≡ old)
        × IsResponseMutAnd old n (λ server message. is_response_refused action old server message ≡ true)
