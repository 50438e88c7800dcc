-- A send by number, by its answer.
use Rattle.std.specs.Prelude.{◌≡◌, ℕ, Result, Ok, Err}
use Rattle.rr_protocol.specs.declared.settings.BackpressureAction.{BackpressureAction}
use Rattle.rr_protocol.specs.State.{State}
use Rattle.rr_protocol.specs.Sends.{SendsRequest, SendsResponse}
use Rattle.rr_checked.specs.declared.refusal.Refusal.{Refusal}
use Rattle.rr_checked.specs.declared.refusal.Refusal.TheVariants as refusal
use Rattle.rr_checked.specs.declared.sends.Sent.{Sent}
use Rattle.rr_checked.specs.declared.sends.Sent.TheVariants as sent_as

-- a request is sent, or a response; or nothing is, and nothing has changed
abbrev pub SendsEither : {Q QH P PH K : Type 0} → (K → ℕ → ℕ → BackpressureAction) → State Q QH P PH K → ℕ
    → Result Sent Refusal → State Q QH P PH K → Type 0
SendsEither action old n (Ok (sent_as.Request connections)) new = SendsRequest action old n (Ok connections) new
SendsEither action old n (Ok sent_as.Response) new = SendsResponse action old n (Ok n) new
SendsEither action old n (Err (refusal.Request error)) new = SendsRequest action old n (Err error) new
SendsEither action old n (Err (refusal.Send error)) new = SendsResponse {U = ℕ} action old n (Err error) new
SendsEither action old n (Err error) new = new ≡ old
