-- The kinds of numbers, as calls on messages see them.
use Rattle.std.specs.Prelude.{◌≡◌, ◌⊎◌, ℕ, true, false, IsSome, Some, None, option_and_then}
use Rattle.rr_protocol.specs.declared.kind.Kind.{Kind}
use Rattle.rr_protocol.specs.Messages.{request_in, response_in}
use Rattle.rr_protocol.specs.State.{State, handle_at}
use Rattle.rr_protocol.specs.Queries.{kind_at}
use Rattle.rr_protocol.specs.declared.command.Command.{Command}
use Rattle.rr_protocol.specs.Refusals.{has_call}
use Rattle.rr_checked.specs.declared.naming.Named.{Named}

module _ {T H K : Type 0} where
  -- a number names nothing, a port, or a request's or a response's handle
  abbrev pub NamesMessage : State T H T H K → ℕ → Named → Type 0
  NamesMessage s n Named.Nothing = kind_at s n ≡ None
  NamesMessage s n Named.Other =
      (k : Kind) × (kind_at s n ≡ Some k) × (has_call {T = T} {H = H} {K = K} (Command.Header n) k ≡ false)
  NamesMessage s n Named.Request =
      (k : Kind) × (kind_at s n ≡ Some k) × (has_call {T = T} {H = H} {K = K} (Command.Header n) k ≡ true)
      × IsSome (option_and_then request_in (handle_at s n))
  NamesMessage s n Named.Response =
      (k : Kind) × (kind_at s n ≡ Some k) × (has_call {T = T} {H = H} {K = K} (Command.Header n) k ≡ true)
      × IsSome (option_and_then response_in (handle_at s n))

  -- a number names nothing, no message that can be written, or a request or a response that was not sent
  abbrev pub NamesUnsent : State T H T H K → ℕ → Named → Type 0
  NamesUnsent s n Named.Nothing = kind_at s n ≡ None
  NamesUnsent s n Named.Other =
      (k : Kind) × (kind_at s n ≡ Some k) × ((h : H)
      → has_call {T = T} {H = H} {K = K} (Command.SetUserHeader n h) k ≡ false)
  NamesUnsent s n Named.Request = (kind_at s n ≡ Some Kind.RequestMutUninit) ⊎ (kind_at s n ≡ Some Kind.RequestMut)
  NamesUnsent s n Named.Response = (kind_at s n ≡ Some Kind.ResponseMutUninit) ⊎ (kind_at s n ≡ Some Kind.ResponseMut)
