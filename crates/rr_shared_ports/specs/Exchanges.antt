-- Two calls of ports in one critical section, and the exchanges that use them.
use Rattle.std.specs.Prelude.{◌≡◌, ℕ, [], ◌∷◌, Some, None, Result, Ok, Err, false, true}
use Rattle.std.specs.Borrow.{Bor}
use Rattle.std.specs.Fn.{FnOnceReturnsAt, Once}
use mathlib.Core.List.{IsPrefix}
use Rattle.rr_protocol.specs.declared.error.RequestSendError.{RequestSendError}
use Rattle.rr_protocol.specs.declared.error.SendError.{SendError}
use Rattle.rr_protocol.specs.declared.settings.BackpressureAction.{BackpressureAction}
use Rattle.rr_protocol.specs.Receives.{ReceivesRequest}
use Rattle.rr_protocol.specs.Releases.{after_release}
use Rattle.rr_protocol.specs.State.{State}
use Rattle.rr_ports.specs.declared.try_send.Refused.{Refused}
use Rattle.rr_ports.specs.Facts.{Asks, Has, numbers_left}
use Rattle.rr_ports.specs.Loaning.{SendsCopy, SendsResponseCopy}
use Rattle.rr_ports.specs.Shortcuts.{ReceivesCopy}
use Rattle.rr_shared_ports.specs.declared.error.AskError.{AskError}
use Rattle.rr_shared_ports.specs.declared.error.AskError.TheVariants as ask
use Rattle.rr_shared_ports.specs.declared.error.CallError.{CallError}
use Rattle.rr_shared_ports.specs.declared.error.FinishError.{FinishError}
use Rattle.rr_shared_ports.specs.declared.error.FinishError.TheVariants as finish
use Rattle.rr_shared_ports.specs.declared.error.ServeError.{ServeError}
use Rattle.rr_shared_ports.specs.declared.error.ServeError.TheVariants as serve
use Rattle.rr_shared_ports.specs.declared.error.WaitError.{WaitError}
use Rattle.rr_shared_ports.specs.declared.error.WaitError.TheVariants as wait
use Rattle.rr_shared_ports.specs.Turns.{Answered, EndsInCall, MakesCall, Seated}
use Rattle.rr_shared_ports.specs.Waits.{EndsLater, MayBeAnswered, Refuses}

-- a wait is over because a poll found this
abbrev pub FindsOver : WaitError FinishError → FinishError → Type 0
FindsOver (wait.Call error) found = found ≡ error
FindsOver wait.Closed found = found ≡ finish.NoResponse
FindsOver wait.TimedOut found = found ≡ finish.NoResponse

module _ {Q QH P PH K : Type 0} where
  -- why a request has no response
  abbrev pub IsWhyNone : State Q QH P PH K → ℕ → FinishError → Type 0
  IsWhyNone s n finish.NoResponse = MayBeAnswered s n true
  IsWhyNone s n finish.NoServer = MayBeAnswered s n false
  IsWhyNone s n (finish.Receive error) = ⊥

  -- no response is received, and why
  abbrev pub ReceivesNone : State Q QH P PH K → ℕ → FinishError → State Q QH P PH K → Type 0
  ReceivesNone old n finish.NoResponse new = ReceivesCopy old n (Ok None) new × MayBeAnswered new n true
  ReceivesNone old n finish.NoServer new = ReceivesCopy old n (Ok None) new × MayBeAnswered new n false
  ReceivesNone old n (finish.Receive error) new = ReceivesCopy old n (Err error) new

  -- the value of a response is received, and the request is released; or none is, and the request is returned
  abbrev pub Finishes : State Q QH P PH K → ℕ → Result P (Refused ℕ FinishError) → State Q QH P PH K → Type 0
  Finishes old n (Ok value) new =
      (mid : State Q QH P PH K) × ReceivesCopy old n (Ok (Some value)) mid × (new ≡ after_release mid n)
  Finishes old n (Err refused) new = (refused.message ≡ n) × ReceivesNone old n refused.error new

  module _ {F : Type 0} (IsDefault : PH → Type 0) (action : K → ℕ → ℕ → BackpressureAction)
      (g : Once F (Bor Q × Unit {0}) P) (f : F) where
    -- a request is answered with the function's result for its payload, if a number is left
    abbrev pub Responds : ℕ → Result (Unit {0}) (CallError SendError) → State Q QH P PH K → State Q QH P PH K → Type 0
    Responds n =
        Answered numbers_left (λ sent before after. (asked : Q) × (value : P) × Has before n (Asks (asked ∷ []))
        × FnOnceReturnsAt g f asked value × SendsResponseCopy IsDefault action before n value sent after)

    -- and then it ends
    abbrev pub AnswersWith : State Q QH P PH K → ℕ → Result (Unit {0}) (CallError SendError) → State Q QH P PH K
        → Type 0
    AnswersWith old n result new = (mid : State Q QH P PH K) × Responds n result old mid × (new ≡ after_release mid n)

  module _ (start : State Q QH P PH K) where
    -- the last call finished a request; or one before it found nothing, after which the wait was over
    abbrev pub FinishesLast : ℕ → Result P (WaitError FinishError) → Seated (State Q QH P PH K) → Type 0
    FinishesLast n (Ok value) seat = EndsInCall start (λ old new. Finishes old n (Ok value) new) seat
    FinishesLast n (Err (wait.Call error)) seat = EndsLater start (λ old new. ReceivesNone old n error new) seat
    FinishesLast n (Err wait.Closed) seat = EndsLater start (λ old new. ReceivesNone old n finish.NoResponse new) seat
    FinishesLast n (Err wait.TimedOut) seat =
        EndsLater start (λ old new. ReceivesNone old n finish.NoResponse new) seat

    -- a value was sent, and then its request was finished
    abbrev pub AsksThen : (QH → Type 0) → (K → ℕ → ℕ → BackpressureAction) → ℕ → Q → Result P (WaitError FinishError)
        → Seated (State Q QH P PH K)
        → Seated (State Q QH P PH K) → Type 0
    AsksThen IsDefault action client value result old new =
        (pending : ℕ) × (mid : Seated (State Q QH P PH K))
        × MakesCall start (λ before after. SendsCopy IsDefault action before client value (Ok pending) after) old mid
        × IsPrefix mid.1 new.1 × FinishesLast pending result new

    -- a question is asked, and answered or not
    abbrev pub Questions : (QH → Type 0) → (K → ℕ → ℕ → BackpressureAction) → ℕ → Q → Result P AskError
        → Seated (State Q QH P PH K)
        → Seated (State Q QH P PH K) → Type 0
    Questions IsDefault action client value (Ok answer) old new =
        AsksThen IsDefault action client value (Ok answer) old new
    Questions IsDefault action client value (Err (ask.Finish error)) old new =
        AsksThen IsDefault action client value (Err error) old new
    Questions IsDefault action client value (Err (ask.Send error)) old new =
        MakesCall start (Answered {U = ℕ} numbers_left
        (λ sent before after. SendsCopy IsDefault action before client value sent after) (Err error)) old new

    module _ {F : Type 0} (IsDefault : PH → Type 0) (action : K → ℕ → ℕ → BackpressureAction)
        (g : Once F (Bor Q × Unit {0}) P) (f : F) (server : ℕ) where
      -- a request was received, and then answered with the function's result for its payload
      abbrev pub ReceivesThen : Result (Unit {0}) (CallError SendError) → Seated (State Q QH P PH K)
          → Seated (State Q QH P PH K) → Type 0
      ReceivesThen result old new =
          (active : ℕ) × (mid : Seated (State Q QH P PH K)) × IsPrefix old.1 mid.1
          × EndsInCall start (λ before after. ReceivesRequest before server (Ok (Some active)) after) mid
          × MakesCall start (λ before after. AnswersWith IsDefault action g f before active result after) mid new

      -- a question is answered, or none is received
      abbrev pub Serves : Result (Unit {0}) ServeError → Seated (State Q QH P PH K) → Seated (State Q QH P PH K)
          → Type 0
      Serves (Ok unit) old new = ReceivesThen (Ok unit) old new
      Serves (Err (serve.Send error)) old new = ReceivesThen (Err error) old new
      Serves (Err (serve.Receive error)) old new =
          Refuses start (Answered numbers_left (λ received before after.
          ReceivesRequest before server received after)) None error new
