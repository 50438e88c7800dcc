-- The refusals of a runner, which come before a command acts and leave everything as it was.
use Rattle.std.specs.Prelude.{ℕ, Bool, true, false, not, ◌&&◌, ◌==◌, if◌then◌else◌, List, [], ◌∷◌, Option, Some, None, option_and_then}
use Rattle.std.specs.List.{list_any}
use Rattle.std.specs.Option.{option_map_or}
use Rattle.rr_slots.specs.declared.family.Family.{Family}
use Rattle.rr_slots.specs.Families.{takes_len}
use Rattle.rr_protocol.specs.declared.kind.Kind.{Kind}
use Rattle.rr_protocol.specs.declared.kind.Kind.TheVariants.{Client, Server, RequestMutUninit, RequestMut, PendingResponse, ActiveRequest, ResponseMutUninit, ResponseMut, Response}
use Rattle.rr_protocol.specs.Messages.{Content, Handle}
use Rattle.rr_protocol.specs.Writing.{is_complete}
use Rattle.rr_protocol.specs.State.{State, handle_at, numbers_left}
use Rattle.rr_protocol.specs.Queries.{kind_at}
use Rattle.rr_protocol.specs.declared.command.Command.{Command}
use Rattle.rr_protocol.specs.declared.reply.Reply.{Reply}

-- the index of a kind among the nine
abbrev pub kind_index : Kind → ℕ
kind_index Client = 0
kind_index Server = 1
kind_index RequestMutUninit = 2
kind_index RequestMut = 3
kind_index PendingResponse = 4
kind_index ActiveRequest = 5
kind_index ResponseMutUninit = 6
kind_index ResponseMut = 7
kind_index Response = 8

-- every kind of handle
abbrev pub handle_kinds : List Kind
handle_kinds =
    RequestMutUninit ∷ RequestMut ∷ PendingResponse ∷ ActiveRequest ∷ ResponseMutUninit ∷ ResponseMut ∷ Response ∷ []

module _ {T H : Type 0} where
  -- the content of a message, in any kind of handle
  abbrev pub content_in : Handle T H T H → Content T H
  content_in (Handle.RequestMutUninit m) = m.content
  content_in (Handle.RequestMut m) = m.content
  content_in (Handle.PendingResponse p) = p.message.content
  content_in (Handle.ActiveRequest a) = a.message.content
  content_in (Handle.ResponseMutUninit m) = m.content
  content_in (Handle.ResponseMut m) = m.content
  content_in (Handle.Response m) = m.content

module _ {T H K : Type 0} where
  -- the kinds that have the call of a command
  abbrev pub kinds_of : Command T H K → List Kind
  kinds_of (Command.CreateClient settings) = []
  kinds_of (Command.CreateServer settings) = []
  kinds_of (Command.Loan n len) = Client ∷ ActiveRequest ∷ []
  kinds_of (Command.LoanDefault n len) = Client ∷ ActiveRequest ∷ []
  kinds_of (Command.SendCopy n v) = Client ∷ ActiveRequest ∷ []
  kinds_of (Command.Push n v) = RequestMutUninit ∷ ResponseMutUninit ∷ []
  kinds_of (Command.Set n i v) = RequestMutUninit ∷ RequestMut ∷ ResponseMutUninit ∷ ResponseMut ∷ []
  kinds_of (Command.SetUserHeader n h) = RequestMutUninit ∷ RequestMut ∷ ResponseMutUninit ∷ ResponseMut ∷ []
  kinds_of (Command.AssumeInit n) = RequestMutUninit ∷ ResponseMutUninit ∷ []
  kinds_of (Command.IsDeliverable n) = RequestMut ∷ ResponseMut ∷ []
  kinds_of (Command.Send n) = RequestMut ∷ ResponseMut ∷ []
  kinds_of (Command.Receive n) = Server ∷ PendingResponse ∷ []
  kinds_of (Command.HasEntries n) = Server ∷ PendingResponse ∷ []
  kinds_of (Command.IsConnected n) = PendingResponse ∷ ActiveRequest ∷ []
  kinds_of (Command.SetHint n) = PendingResponse ∷ []
  kinds_of (Command.HasHint n) = ActiveRequest ∷ []
  kinds_of (Command.Servers n) = PendingResponse ∷ []
  kinds_of (Command.Header n) = handle_kinds
  kinds_of (Command.UserHeader n) = handle_kinds
  kinds_of (Command.Payload n) = handle_kinds
  kinds_of (Command.Origin n) = ActiveRequest ∷ Response ∷ []
  kinds_of (Command.Strategy n) = Client ∷ Server ∷ []
  kinds_of (Command.MaxSliceLen n) = Client ∷ Server ∷ []
  kinds_of (Command.UpdateConnections n) = Client ∷ Server ∷ []
  kinds_of (Command.Release n) = Client ∷ Server ∷ handle_kinds

  -- whether a kind is one of them
  abbrev pub has_call : Command T H K → Kind → Bool
  has_call command kind = list_any (λ k. kind_index k == kind_index kind) (kinds_of command)

  -- the port or handle that a command names, if it is no creation
  abbrev pub number_in : Command T H K → Option ℕ
  number_in (Command.CreateClient settings) = None
  number_in (Command.CreateServer settings) = None
  number_in (Command.Loan n len) = Some n
  number_in (Command.LoanDefault n len) = Some n
  number_in (Command.SendCopy n v) = Some n
  number_in (Command.Push n v) = Some n
  number_in (Command.Set n i v) = Some n
  number_in (Command.SetUserHeader n h) = Some n
  number_in (Command.AssumeInit n) = Some n
  number_in (Command.IsDeliverable n) = Some n
  number_in (Command.Send n) = Some n
  number_in (Command.Receive n) = Some n
  number_in (Command.HasEntries n) = Some n
  number_in (Command.IsConnected n) = Some n
  number_in (Command.SetHint n) = Some n
  number_in (Command.HasHint n) = Some n
  number_in (Command.Servers n) = Some n
  number_in (Command.Header n) = Some n
  number_in (Command.UserHeader n) = Some n
  number_in (Command.Payload n) = Some n
  number_in (Command.Origin n) = Some n
  number_in (Command.Strategy n) = Some n
  number_in (Command.MaxSliceLen n) = Some n
  number_in (Command.UpdateConnections n) = Some n
  number_in (Command.Release n) = Some n

  -- whether the family has messages of the loan's length
  abbrev pub has_length : Family → Command T H K → Bool
  has_length family (Command.Loan n len) = takes_len family len
  has_length family (Command.LoanDefault n len) = takes_len family len
  has_length family command = true

  -- whether the call takes a new number
  abbrev pub needs_number : Command T H K → Kind → Bool
  needs_number (Command.Loan n len) kind = true
  needs_number (Command.LoanDefault n len) kind = true
  needs_number (Command.SendCopy n v) kind = true
  needs_number (Command.Receive n) Server = true
  needs_number command kind = false

  -- whether a body that is not complete is to be taken as complete
  abbrev pub is_incomplete : State T H T H K → Command T H K → Bool
  is_incomplete s (Command.AssumeInit n) =
      option_map_or (λ handle. not (is_complete (content_in handle))) (handle_at s n) false
  is_incomplete s command = false

  -- the first refusal of a call of this kind
  abbrev pub refusal_of_kind : Family → State T H T H K → Command T H K → Kind → Option (Reply T H)
  refusal_of_kind family s command kind =
      if not (has_call command kind && has_length family command) then Some Reply.WrongKind
      else if needs_number command kind && (numbers_left s == 0) then Some Reply.NumbersExhausted
      else if is_incomplete s command then Some Reply.Incomplete
      else None

  -- the first refusal, if there is one
  abbrev pub refusal : Family → State T H T H K → Command T H K → Option (Reply T H)
  refusal family s command =
      option_and_then (λ n. option_map_or (refusal_of_kind family s command) (kind_at s n) (Some Reply.Unknown))
      (number_in command)
