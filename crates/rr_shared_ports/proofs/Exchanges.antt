-- What finishes a request.
use Rattle.std.proofs.Common.{◌≡◌, ◌++◌, ℕ, Result, Err, subst}
use Rattle.rr_protocol.specs.State.{State}
use Rattle.rr_ports.specs.declared.try_send.Refused.{Refused}
use Rattle.rr_shared_ports.specs.declared.error.FinishError.{FinishError}
use Rattle.rr_shared_ports.specs.declared.error.WaitError.{WaitError}
use Rattle.rr_shared_ports.specs.declared.error.WaitError.TheVariants as wait
use Rattle.rr_shared_ports.specs.Exchanges.{FindsOver, Finishes, FinishesLast, ReceivesNone}
use Rattle.rr_shared_ports.specs.Turns.{MakesCall, Seated, state_after}
use Rattle.rr_shared_ports.specs.Waits.{EndsLater}
use Rattle.rr_shared_ports.proofs.Turns.{ends_in_call}
use Rattle.rr_shared_ports.proofs.Waits.{ends_later}

module _ {Q QH P PH K : Type 0} (start : State Q QH P PH K) where
  -- a wait that was over ends after a look that found nothing
  finds_over : (n : ℕ) (over : WaitError FinishError) (found : FinishError) (seat : Seated (State Q QH P PH K)) → FindsOver over found
      → EndsLater start (λ old new. ReceivesNone old n found new) seat → FinishesLast start n (Err over) seat
  finds_over n (wait.Call error) found seat is later = subst (λ e. EndsLater start (λ old new. ReceivesNone old n e new) seat) is later
  finds_over n wait.Closed found seat is later = subst (λ e. EndsLater start (λ old new. ReceivesNone old n e new) seat) is later
  finds_over n wait.TimedOut found seat is later = subst (λ e. EndsLater start (λ old new. ReceivesNone old n e new) seat) is later

  -- so it does after a call that did not finish the request, and its release
  pub over_after : (Release : State Q QH P PH K → State Q QH P PH K → Type 0) (n : ℕ) (result : Result P (Refused ℕ FinishError))
      (refused : Refused ℕ FinishError) (over : WaitError FinishError) (old mid new : Seated (State Q QH P PH K)) → result ≡ Err refused
      → FindsOver over refused.error → MakesCall start (λ before after. Finishes before n result after) old mid → MakesCall start Release mid new
      → FinishesLast start n (Err over) new
  over_after Release n result refused over old mid new is finds made released =
      let Look : State Q QH P PH K → State Q QH P PH K → Type 0 = λ before after. ReceivesNone before n refused.error after in
      let none : MakesCall start Look old mid = (made.0, made.1, made.2, made.3, (subst (λ r. Finishes (state_after start (old.1 ++ made.0)) n r made.1) is made.4).1) in
      finds_over n over refused.error new finds (ends_later start Look Release mid new (ends_in_call start Look old mid none.0 none.1 none.2 none.4) released)
