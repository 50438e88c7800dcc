-- Loans of requests and of responses.
use Rattle.std.specs.Prelude.{◌≡◌, ◌<◌, ℕ, ◌+◌, Bool, true, false, ◌&&◌, ◌==◌, nat_lt, nat_le, if◌then◌else◌, [], map, Option, Some, None, IsSomeAnd, Result, Ok, Err}
use Rattle.std.specs.List.{list_any}
use Rattle.std.specs.FinMap as fin_map
use Rattle.rr_protocol.specs.declared.settings.AllocationStrategy.{AllocationStrategy}
use Rattle.rr_protocol.specs.declared.settings.AllocationStrategy.TheVariants.{Static, BestFit, PowerOfTwo}
use Rattle.rr_protocol.specs.declared.error.LoanError.{LoanError}
use Rattle.rr_protocol.specs.declared.error.LoanError.TheVariants.{OutOfMemory, ExceedsMaxLoans, ExceedsMaxLoanSize}
use Rattle.rr_protocol.specs.Limits.{max_loaned_responses}
use Rattle.rr_protocol.specs.Messages.{Content, Active, RequestMutUninit, ResponseMutUninit}
use Rattle.rr_protocol.specs.Ports.{Port, Client, Server}
use Rattle.rr_protocol.specs.State.{State, IsActiveAnd, client_at, all_handles}
use Rattle.rr_protocol.specs.Counts.{live_requests, live_responses, loaned_requests, loaned_responses, loaned_responses_from, holds_channel}

-- whether a port's slots don't grow for longer slices
abbrev pub is_static : AllocationStrategy → Bool
is_static Static = true
is_static BestFit = false
is_static PowerOfTwo = false

-- whether a slice is longer than this port's slots, which may not grow
abbrev pub is_too_long : {K : Type 0} → Port K → ℕ → Bool
is_too_long port len = is_static port.allocation_strategy && nat_lt port.initial_max_slice_len len

-- a body without elements, of this loaned length
abbrev pub empty_content : {T H : Type 0} → H → ℕ → Content T H
empty_content header len = record { user_header = header; asked_len = len; elements = [] }

-- the error is the required one, or, if none is required, want of memory for a slice longer than the initial length
abbrev pub IsLoanRefusal : {K : Type 0} → Option LoanError → Port K → ℕ → LoanError → Type 0
IsLoanRefusal (Some due) port len error = error ≡ due
IsLoanRefusal None port len error = (error ≡ OutOfMemory) × (port.initial_max_slice_len < len)

-- the client with this number after one more loan
abbrev pub with_loan_counted : {K : Type 0} → ℕ → Client K → Client K
with_loan_counted n client = if client.id == n then record client { loans_made = client.loans_made + 1 } else client

module _ {Q QH P PH K : Type 0} where
  -- the first reason that refuses a loan of a request
  abbrev pub request_loan_refusal : State Q QH P PH K → Client K → ℕ → Option LoanError
  request_loan_refusal s client len =
      if is_too_long client.port len then Some ExceedsMaxLoanSize
      else if nat_le s.limits.max_loaned_requests (loaned_requests s client.id) then Some ExceedsMaxLoans
      else if nat_le client.pool_size (live_requests s client.id) then Some OutOfMemory
      else None

  -- a channel of the client that none of its requests holds
  abbrev pub IsFreeChannel : State Q QH P PH K → Client K → ℕ → Type 0
  IsFreeChannel s client channel =
      (channel < client.pool_size) × (list_any (holds_channel client.id channel) (all_handles s) ≡ false)

  -- after the client loaned a request with this length, on this channel and with this user header
  abbrev pub with_loaned_request : State Q QH P PH K → Client K → ℕ → ℕ → QH → State Q QH P PH K
  with_loaned_request s client len channel header =
      record s {
        clients = map (with_loan_counted client.id) s.clients;
        handles = fin_map.insert s.handles s.next (RequestMutUninit (record {
          number = s.next;
          client = client.id;
          request_id = client.loans_made;
          channel = channel;
          content = empty_content header len;
        }));
        next = s.next + 1;
      }

  -- a client loans a request: it gets the next number, any free channel and a default user header, or nothing changes
  abbrev pub LoansRequest : (QH → Type 0) → State Q QH P PH K → ℕ → ℕ → Result ℕ LoanError → State Q QH P PH K
      → Type 0
  LoansRequest IsDefault old n len (Ok number) new =
      IsSomeAnd (client_at old n) (λ client.
      (request_loan_refusal old client len ≡ None) × (number ≡ old.next)
      × ((channel : ℕ) × (header : QH) × IsFreeChannel old client channel × IsDefault header
      × (new ≡ with_loaned_request old client len channel header)))
  LoansRequest IsDefault old n len (Err error) new =
      IsSomeAnd (client_at old n) (λ client. IsLoanRefusal (request_loan_refusal old client len) client.port len error
      × (new ≡ old))

  -- the first reason that refuses a loan of a response from an active request
  abbrev pub response_loan_refusal : State Q QH P PH K → Server K → ℕ → ℕ → Option LoanError
  response_loan_refusal s server active len =
      if is_too_long server.port len then Some ExceedsMaxLoanSize
      else if nat_le server.max_loaned_responses_per_request (loaned_responses_from s active) then Some
      ExceedsMaxLoans
      else if nat_le (max_loaned_responses s.limits server.max_loaned_responses_per_request)
      (loaned_responses s server.id) then Some ExceedsMaxLoans
      else if nat_le server.pool_size (live_responses s server.id) then Some OutOfMemory
      else None

  -- after a response to the request was loaned from the active request with this number
  abbrev pub with_loaned_response : State Q QH P PH K → ℕ → Active Q QH → ℕ → PH → State Q QH P PH K
  with_loaned_response s n active len header =
      record s {
        handles = fin_map.insert s.handles s.next (ResponseMutUninit (record {
          number = s.next;
          server = active.server;
          active_request = n;
          request = active.message.number;
          request_id = active.message.request_id;
          client = active.message.client;
          channel = active.message.channel;
          content = empty_content header len;
        }));
        next = s.next + 1;
      }

  -- an active request loans a response: it gets the next number and a default user header, or nothing changes
  abbrev pub LoansResponse : (PH → Type 0) → State Q QH P PH K → ℕ → ℕ → Result ℕ LoanError → State Q QH P PH K
      → Type 0
  LoansResponse IsDefault old n len (Ok number) new =
      IsActiveAnd old n (λ server active.
      (response_loan_refusal old server n len ≡ None) × (number ≡ old.next)
      × ((header : PH) × IsDefault header × (new ≡ with_loaned_response old n active len header)))
  LoansResponse IsDefault old n len (Err error) new =
      IsActiveAnd old n (λ server active. IsLoanRefusal (response_loan_refusal old server n len) server.port len error
      × (new ≡ old))
