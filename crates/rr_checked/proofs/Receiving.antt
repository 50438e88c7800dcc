-- What a server received stands under the number that it was given.
use Rattle.std.proofs.Common.{◌≡◌, ℕ, Some, sym, ap, ◌∙◌, Ok}
use Rattle.std.specs.Prelude.{IsSome, is_some, option_and_then}
use Rattle.rr_table.proofs.MapLaws.{get-insert_same}
use Rattle.rr_protocol.specs.Messages.{ActiveRequest, as_active}
use Rattle.rr_protocol.specs.State.{State, active_at, handle_at}
use Rattle.rr_protocol.specs.Receives.{ReceivesRequest}

module _ {T H K : Type 0} (old new : State T H T H K) (server k : ℕ) where
  pub active_there : ReceivesRequest old server (Ok (Some k)) new → IsSome (active_at new k)
  active_there receives =
      let u = receives.1.3 in
      let taken = u.1 in
      let same : taken.2.next ≡ receives.1.1.next = ap (λ (s : State T H T H K). s.next) taken.3.1.2 in
      ap (λ o. is_some (option_and_then as_active o))
      (ap (λ t. handle_at t k) taken.5 ∙ get-insert_same taken.2.handles taken.2.next
      (ActiveRequest (record { message = taken.1; server = server })) k (u.0 ∙ sym same))
