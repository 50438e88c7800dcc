-- Making a message ready to send, with unspecified elements.
use Rattle.std.specs.Prelude.{◌≡◌, ℕ, List, length, Option, Some, None, Result, Ok, Err, IsSomeAnd}
use Rattle.rr_protocol.specs.declared.kind.Kind.{Kind}
use Rattle.rr_protocol.specs.Messages.{Handle}
use Rattle.rr_protocol.specs.State.{State, handle_at}
use Rattle.rr_protocol.specs.Step.{with_complete}
use Rattle.rr_checked.specs.declared.refusal.Refusal.{Refusal}
use Rattle.rr_checked.specs.declared.refusal.Refusal.TheVariants as refusal
use Rattle.rr_bytes.specs.Refused.{refusal_by_kind}

-- why a message of a kind isn't made complete, if it isn't
abbrev pub complete_refusal_of_kind : Kind → Option Refusal
complete_refusal_of_kind Kind.RequestMutUninit = None
complete_refusal_of_kind Kind.RequestMut = None
complete_refusal_of_kind Kind.ResponseMutUninit = None
complete_refusal_of_kind Kind.ResponseMut = None
complete_refusal_of_kind kind = Some refusal.WrongKind

module _ {T H K : Type 0} where
  -- why the message of a number isn't made complete, if it isn't
  abbrev pub complete_refusal : State T H T H K → ℕ → Option Refusal
  complete_refusal s n = refusal_by_kind complete_refusal_of_kind refusal.Unknown s n

  -- a message on loan gets as many elements as were loaned, and can be sent; any other stays as it is
  abbrev pub CompletesHandle : State T H T H K → ℕ → Handle T H T H → State T H T H K → Type 0
  CompletesHandle old n (Handle.RequestMutUninit m) new =
      (elements : List T) × (length elements ≡ m.content.asked_len) × (new ≡ with_complete old n elements)
  CompletesHandle old n (Handle.ResponseMutUninit m) new =
      (elements : List T) × (length elements ≡ m.content.asked_len) × (new ≡ with_complete old n elements)
  CompletesHandle old n handle new = new ≡ old

  -- the message under a number is made complete; or that is refused, and nothing changes
  abbrev pub Completes : State T H T H K → ℕ → Result (Unit {0}) Refusal → State T H T H K → Type 0
  Completes old n (Ok done) new =
      (complete_refusal old n ≡ None) × IsSomeAnd (handle_at old n) (λ handle. CompletesHandle old n handle new)
  Completes old n (Err refused) new = (complete_refusal old n ≡ Some refused) × (new ≡ old)
