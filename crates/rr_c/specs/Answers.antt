-- The effect, the result and the outputs of an export.
use Rattle.std.specs.Prelude.{◌≡◌, ◌⊎◌, ℕ, true, false, if◌then◌else◌, List, length, Option, Some, None, MatchOption, Result, Ok, Err}
use Rattle.std.specs.Array.{AllOfLen}
use Rattle.std.specs.Option.{option_map_or}
use Rattle.rr_slots.specs.declared.family.Family.TheVariants.{Sliced}
use Rattle.rr_protocol.specs.declared.error.HubCreateError.{HubCreateError}
use Rattle.rr_protocol.specs.declared.error.HubCreateError.TheVariants as create
use Rattle.rr_protocol.specs.declared.limits.Limits.{Limits}
use Rattle.rr_protocol.specs.declared.no_handler.NoHandler.{NoHandler}
use Rattle.rr_protocol.specs.declared.settings.BackpressureAction.{BackpressureAction}
use Rattle.rr_protocol.specs.declared.settings.BackpressureAction.TheVariants.{FollowBackpressureStrategy}
use Rattle.rr_protocol.specs.declared.settings.BackpressureStrategy.{BackpressureStrategy}
use Rattle.rr_protocol.specs.Creation.{CreatesHub}
use Rattle.rr_protocol.specs.Limits.{has_zero_limit, is_too_large}
use Rattle.rr_protocol.specs.State.{State}
use Rattle.rr_protocol.specs.declared.command.Command.{Command}
use Rattle.rr_protocol.specs.declared.reply.Reply.{Reply}
use Rattle.rr_protocol.specs.Step.{Step}
use Rattle.rr_checked.specs.declared.refusal.Refusal.{Refusal}
use Rattle.rr_checked.specs.declared.queries.MessageHeader.{MessageHeader}
use Rattle.rr_checked.specs.declared.queries.MessageHeader.TheVariants as header_as
use Rattle.rr_checked.specs.declared.sends.Sent.{Sent}
use Rattle.rr_checked.specs.declared.sends.Sent.TheVariants as sent_as
use Rattle.rr_checked.specs.Codes.{code}
use Rattle.rr_bytes.specs.declared.id.Id.{Id}
use Rattle.rr_bytes.specs.declared.slices.copies.SentCopy.{SentCopy}
use Rattle.rr_bytes.specs.declared.slices.copies.SentCopy.TheVariants as copy
use Rattle.rr_bytes.specs.Copies.{SendsCopyOf}
use Rattle.rr_bytes.specs.InPlace.{LoansInPlace}
use Rattle.rr_bytes.specs.Receives.{Receives}
use Rattle.rr_bytes.specs.SendRefusals.{TellsSendRefusal}
use Rattle.rr_c.specs.declared.held.Hub.{Hub}
use Rattle.rr_c.specs.declared.messages.Header.{Header}
use Rattle.rr_c.specs.declared.messages.UserHeader.{UserHeader}
use Rattle.rr_c.specs.Settings.{backpressure_in}

-- no port has a handler
abbrev follows_strategy : NoHandler → ℕ → ℕ → BackpressureAction
follows_strategy handler port queue = FollowBackpressureStrategy

-- a byte that a new message has
abbrev IsZero : ℕ → Type 0
IsZero byte = byte ≡ 0

-- the user header that it has
abbrev IsZeroHeader : List ℕ → Type 0
IsZeroHeader bytes = AllOfLen IsZero bytes 16

-- a step of a hub of bytes
abbrev pub HubStep : Hub → Command ℕ (List ℕ) NoHandler → Reply ℕ (List ℕ) → Hub → Type 0
HubStep old command reply new = Step follows_strategy IsZero IsZeroHeader Sliced old.bytes command reply new.bytes

-- a receive of a hub of bytes
abbrev pub HubReceives : Hub → ℕ → Result (Option Id) Refusal → Hub → Type 0
HubReceives old n answer new = Receives follows_strategy IsZero IsZeroHeader old.bytes n answer new.bytes

-- a loan of a hub of bytes whose message is complete
abbrev pub HubLoansInPlace : Hub → ℕ → ℕ → Result Id Refusal → Hub → Type 0
HubLoansInPlace old n len answer new =
    LoansInPlace follows_strategy IsZero IsZeroHeader old.bytes n len answer new.bytes

-- why a hub of bytes would refuse a send, before it is made
abbrev pub HubTellsSendRefusal : Hub → ℕ → Result (Option Refusal) Refusal → Type 0
HubTellsSendRefusal hub n answer = TellsSendRefusal follows_strategy hub.bytes n answer

-- the code of a call's result
abbrev pub answer_code : {Value Error : Type 0} → (Error → ℕ) → Result Value Error → ℕ
answer_code code_of (Ok value) = 0
answer_code code_of (Err error) = code_of error

-- the code of a receive's result, which may be that nothing is queued
abbrev pub received_code : Result (Option Id) Refusal → ℕ
received_code (Ok (Some id)) = 0
received_code (Ok None) = 6
received_code (Err refusal) = code refusal

-- the value that the pointer refers to afterwards
abbrev pub written : {Value Error : Type 0} → Value → Result Value Error → Value
written old (Ok value) = value
written old (Err error) = old

abbrev pub was_received : Id → Result (Option Id) Refusal → Id
was_received old (Ok (Some id)) = id
was_received old (Ok None) = old
was_received old (Err refusal) = old

module _ {Value : Type 0} (Holds : Result Value Refusal → Type 0) (n : ℕ) where
  -- the code is that of a result of which this holds
  abbrev pub Answers : Type 0
  Answers = (answer : Result Value Refusal) × Holds answer × (n ≡ answer_code code answer)

  -- and its value is written
  abbrev pub Writes : Value → Value → Type 0
  Writes old new =
      (answer : Result Value Refusal) × Holds answer × (n ≡ answer_code code answer) × (new ≡ written old answer)

-- the code of the refusal to make a hub
abbrev pub create_code : HubCreateError → ℕ
create_code create.ZeroLimit = 60
create_code create.LimitsTooLarge = 61
create_code create.OutOfMemory = 62

-- a hub that is made is handed over, or no block is found for it
abbrev IsCreateCode : {Value : Type 0} → Result Value HubCreateError → ℕ → Type 0
IsCreateCode (Ok hub) n = (n ≡ 0) ⊎ (n ≡ 62)
IsCreateCode (Err error) n = n ≡ create_code error

-- a hub is made and handed over, if its block is found
abbrev pub CreatesHeld : Limits → ℕ → ℕ → Type 0
CreatesHeld limits node n =
    (made : Result (State ℕ (List ℕ) ℕ (List ℕ) NoHandler) HubCreateError) × CreatesHub limits node made
    × IsCreateCode made n

-- why a pool's size isn't returned, if it isn't: the limits make no hub, or it overflows a `size_t`
abbrev pub pool_refusal : Limits → ℕ → Option HubCreateError
pool_refusal limits size =
    if has_zero_limit limits then Some create.ZeroLimit else
    (if is_too_large size then Some create.LimitsTooLarge else None)

-- the size is written, or the code says why it isn't
abbrev pub WritesPool : Limits → ℕ → ℕ → ℕ → ℕ → Type 0
WritesPool limits size n before after =
    MatchOption (pool_refusal limits size) ((n ≡ 0) × (after ≡ size))
    (λ error. (n ≡ create_code error) × (after ≡ before))

module _ {S : Type 0} (Creates : S → ℕ → Id → Id → Type 0) where
  -- a port is created, unless a number is not that of a strategy; then nothing changes
  abbrev pub CreatesPort : Option S → Hub → ℕ → Id → Id → Hub → Type 0
  CreatesPort (Some settings) old n before after new = Creates settings n before after
  CreatesPort None old n before after new = (n ≡ 7) × (after ≡ before) × (new ≡ old)

-- the number of a strategy is written
abbrev pub IsStrategyWritten : ℕ → Result BackpressureStrategy Refusal → ℕ → Type 0
IsStrategyWritten old (Ok strategy) new = backpressure_in new ≡ Some strategy
IsStrategyWritten old (Err refusal) new = new ≡ old

-- the number of queues that took the sent message
abbrev pub taken : ℕ → Result Sent Refusal → ℕ
taken old (Ok (sent_as.Request servers)) = servers
taken old (Ok sent_as.Response) = 0
taken old (Err refusal) = old

-- the code of the refusal of a send, or 0
abbrev pub why_written : ℕ → Result (Option Refusal) Refusal → ℕ
why_written old (Ok why) = option_map_or code why 0
why_written old (Err refusal) = old

-- a send of a copy by a hub of bytes
abbrev pub HubSendsCopy : Hub → ℕ → List ℕ → Result SentCopy Refusal → Hub → Type 0
HubSendsCopy old n payload answer new = SendsCopyOf follows_strategy IsZeroHeader old.bytes n payload answer new.bytes

-- the id of the sent message
abbrev pub copy_named : Id → Result SentCopy Refusal → Id
copy_named old (Ok (copy.Request id servers)) = id
copy_named old (Ok (copy.Response id)) = id
copy_named old (Err refusal) = old

-- and how many queues took it
abbrev pub copy_taken : ℕ → Result SentCopy Refusal → ℕ
copy_taken old (Ok (copy.Request id servers)) = servers
copy_taken old (Ok (copy.Response id)) = 0
copy_taken old (Err refusal) = old

-- the header of a message
abbrev pub header_of : MessageHeader → Header
header_of (header_as.Request said) = record {
  port_id = said.client_id.0;
  request_id = said.request_id;
  number_of_elements = said.number_of_elements;
  node_id = said.node_id.0;
  is_response = false;
}
header_of (header_as.Response said) = record {
  port_id = said.server_id.0;
  request_id = said.request_id;
  number_of_elements = said.number_of_elements;
  node_id = said.node_id.0;
  is_response = true;
}

abbrev pub header_written : Header → Result MessageHeader Refusal → Header
header_written old (Ok header) = header_of header
header_written old (Err refusal) = old

-- its user header
abbrev pub user_header_written : UserHeader → Result (List ℕ) Refusal → UserHeader
user_header_written old (Ok bytes) = record { bytes = bytes }
user_header_written old (Err refusal) = old

-- how many bytes it has
abbrev pub len_written : ℕ → Result (List ℕ) Refusal → ℕ
len_written old (Ok bytes) = length bytes
len_written old (Err refusal) = old
