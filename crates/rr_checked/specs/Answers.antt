-- The result of a call as a reply of the message machine.
use Rattle.std.specs.Prelude.{ℕ, Option, Some, None, Result, Ok, Err}
use Rattle.rr_protocol.specs.declared.reply.Reply.{Reply}
use Rattle.rr_checked.specs.declared.refusal.Refusal.{Refusal}
use Rattle.rr_checked.specs.declared.refusal.Refusal.TheVariants as refusal
use Rattle.rr_checked.specs.declared.sends.Sent.{Sent}
use Rattle.rr_checked.specs.declared.sends.Sent.TheVariants as sent_as
use Rattle.rr_checked.specs.declared.receives.Received.{Received}
use Rattle.rr_checked.specs.declared.receives.Received.TheVariants as received_as
use Rattle.rr_checked.specs.declared.queries.MessageHeader.{MessageHeader}
use Rattle.rr_checked.specs.declared.queries.MessageHeader.TheVariants as header

module _ {T H : Type 0} where
  -- the reply that refuses so
  abbrev pub refused : Refusal → Reply T H
  refused refusal.Unknown = Reply.Unknown
  refused refusal.WrongKind = Reply.WrongKind
  refused refusal.NumbersExhausted = Reply.NumbersExhausted
  refused refusal.Incomplete = Reply.Incomplete
  refused (refusal.Client error) = Reply.ClientError error
  refused (refusal.Server error) = Reply.ServerError error
  refused (refusal.Loan error) = Reply.LoanError error
  refused (refusal.Request error) = Reply.RequestError error
  refused (refusal.Send error) = Reply.SendError error
  refused (refusal.Receive error) = Reply.ReceiveError error

  -- the reply that a call's result is
  abbrev pub replied : {V : Type 0} → (V → Reply T H) → Result V Refusal → Reply T H
  replied reply (Ok value) = reply value
  replied reply (Err error) = refused error

  -- the sent message is now a pending response, with this many connections, or a response that was released
  abbrev pub sent : ℕ → Sent → Reply T H
  sent n (sent_as.Request connections) = Reply.Pending n connections
  sent n sent_as.Response = Reply.Sent n

  -- the header of a request, or of a response
  abbrev pub shown : MessageHeader → Reply T H
  shown (header.Request said) = Reply.RequestHeader said
  shown (header.Response said) = Reply.ResponseHeader said

  -- an active request was received, with its request's number, or a response; or nothing was
  abbrev pub received : Option Received → Reply T H
  received (Some (received_as.Request k request)) = Reply.Active k request
  received (Some (received_as.Response k)) = Reply.Response k
  received None = Reply.Nothing
