-- Why a send would be refused, before it is made.
use Rattle.std.specs.Prelude.{◌≡◌, ℕ, Option, Some, None, option_map, Result, Ok, Err}
use Rattle.std.specs.Bool.{then_some}
use Rattle.rr_protocol.specs.declared.kind.Kind.{Kind}
use Rattle.rr_protocol.specs.declared.error.SendError.{SendError}
use Rattle.rr_protocol.specs.declared.settings.BackpressureAction.{BackpressureAction}
use Rattle.rr_protocol.specs.Queries.{kind_at}
use Rattle.rr_protocol.specs.Sends.{is_response_refused, request_send_refusal}
use Rattle.rr_protocol.specs.State.{State, IsRequestMutAnd, IsResponseMutAnd}
use Rattle.rr_checked.specs.declared.refusal.Refusal.{Refusal}
use Rattle.rr_checked.specs.declared.refusal.Refusal.TheVariants as refusal

module _ {T H K : Type 0} (action : K → ℕ → ℕ → BackpressureAction) where
  -- why a send of a request or a response would be refused, if it would be; no other kind has an answer
  abbrev pub TellsRefusalOfKind : State T H T H K → ℕ → Option Kind → Result (Option Refusal) Refusal → Type 0
  TellsRefusalOfKind s n (Some Kind.RequestMut) result =
      IsRequestMutAnd s n (λ client message. result
      ≡ Ok (option_map refusal.Request (request_send_refusal action s client message)))
  TellsRefusalOfKind s n (Some Kind.ResponseMut) result =
      IsResponseMutAnd s n (λ server message.
      result ≡ Ok (then_some (is_response_refused action s server message) (refusal.Send SendError.UnableToDeliver)))
  TellsRefusalOfKind s n (Some kind) result = result ≡ Err refusal.WrongKind
  TellsRefusalOfKind s n None result = result ≡ Err refusal.Unknown

  -- the answer for a number, by its kind
  abbrev pub TellsSendRefusal : State T H T H K → ℕ → Result (Option Refusal) Refusal → Type 0
  TellsSendRefusal s n result = TellsRefusalOfKind s n (kind_at s n) result
