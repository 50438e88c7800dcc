-- A pool of the worst-case size never runs dry, and a loan that is not refused finds a channel.
use Rattle.std.specs.Prelude.{◌≡◌, ℕ, ◌≤◌, Bool, true, false, Option, Some, None}
use Rattle.rr_slots.specs.declared.family.Family.{Family}
use Rattle.rr_protocol.specs.declared.limits.Limits.{Limits}
use Rattle.rr_protocol.specs.declared.settings.BackpressureAction.{BackpressureAction}
use Rattle.rr_protocol.specs.declared.error.LoanError.{LoanError}
use Rattle.rr_protocol.specs.declared.error.SendError.{SendError}
use Rattle.rr_protocol.specs.declared.error.RequestSendError.{RequestSendError}
use Rattle.rr_protocol.specs.Limits.{worst_case_requests, worst_case_responses}
use Rattle.rr_protocol.specs.Messages.{Active}
use Rattle.rr_protocol.specs.Ports.{Client, Server}
use Rattle.rr_protocol.specs.State.{State, client_at, server_at, active_at}
use Rattle.rr_protocol.specs.Loans.{request_loan_refusal, IsFreeChannel}
use Rattle.rr_protocol.specs.declared.command.Command.{Command}
use Rattle.rr_protocol.specs.declared.reply.Reply.{Reply}
use Rattle.rr_protocol.specs.Step.{Step}

module _ {T H K : Type 0} where
  -- the port that a command would loan from, and the length of the slice
  abbrev pub asked_in : Command T H K → Option (ℕ × ℕ)
  asked_in (Command.Loan n len) = Some (n, len)
  asked_in (Command.LoanDefault n len) = Some (n, len)
  asked_in (Command.SendCopy n v) = Some (n, 1)
  asked_in command = None

module _ {T H : Type 0} where
  -- whether a reply reports that a loan found no memory
  abbrev pub is_out_of_memory : Reply T H → Bool
  is_out_of_memory (Reply.LoanError LoanError.OutOfMemory) = true
  is_out_of_memory (Reply.RequestError (RequestSendError.SendError (SendError.LoanError LoanError.OutOfMemory))) =
      true
  is_out_of_memory (Reply.SendError (SendError.LoanError LoanError.OutOfMemory)) = true
  is_out_of_memory reply = false

module _ {K : Type 0} where
  -- a client's pool has the worst-case size, and its slots have room for a slice of this length from the start
  pub record HasClientPool (limits : Limits) (client : Client K) (len : ℕ) : Type 0 where
    pub whole : client.pool_size ≡ worst_case_requests limits
    pub short : len ≤ client.initial_max_slice_len

  -- the same of a server, by its own setting of loans
  pub record HasServerPool (limits : Limits) (server : Server K) (len : ℕ) : Type 0 where
    pub whole : server.pool_size ≡ worst_case_responses limits server.max_loaned_responses_per_request
    pub short : len ≤ server.initial_max_slice_len

module _ {Q QH P PH K : Type 0} where
  -- the client with this number has such a pool
  abbrev pub ClientHasPool : Limits → State Q QH P PH K → ℕ → ℕ → Type 0
  ClientHasPool limits s n len = (client : Client K) → client_at s n ≡ Some client → HasClientPool limits client len

  -- the server of the active request with this number has
  abbrev pub ServerHasPool : Limits → State Q QH P PH K → ℕ → ℕ → Type 0
  ServerHasPool limits s n len =
      (active : Active Q QH) (server : Server K) → active_at s n ≡ Some active
      → server_at s active.server ≡ Some server → HasServerPool limits server len

  -- the client with this number, or the server of the active request with it, has
  abbrev pub HasPool : Limits → State Q QH P PH K → ℕ → ℕ → Type 0
  HasPool limits s n len = ClientHasPool limits s n len × ServerHasPool limits s n len

  -- where a loan of a request is not refused, some channel is free
  abbrev pub FindsChannel : State Q QH P PH K → Type 0
  FindsChannel s =
      (n len : ℕ) (client : Client K) → client_at s n ≡ Some client → request_loan_refusal s client len ≡ None
      → (channel : ℕ) × IsFreeChannel s client channel

module _ {T H K : Type 0} (IsDefaultElement : T → Type 0) (IsDefaultHeader : H → Type 0) where
  -- no step from here by a loan from such a pool is answered with want of memory
  abbrev pub FindsMemory : Limits → State T H T H K → Type 0
  FindsMemory limits s =
      (action : K → ℕ → ℕ → BackpressureAction) (family : Family) (command : Command T H K) (reply : Reply T H)
      (new : State T H T H K) (n len : ℕ)
      → asked_in command ≡ Some (n, len) → HasPool limits s n len
      → Step action IsDefaultElement IsDefaultHeader family s command reply new
      → is_out_of_memory reply ≡ false
