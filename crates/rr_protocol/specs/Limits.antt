-- The pool sizes that follow from limits, and the limits that no hub can have.
use Rattle.std.specs.Prelude.{ℕ, ◌+◌, ◌*◌, ◌^◌, Bool, true, ◌||◌, ◌==◌, nat_le, if◌then◌else◌, Option, Some, None}
use Rattle.rr_protocol.specs.declared.limits.Limits.{Limits}
use Rattle.rr_protocol.specs.declared.error.HubCreateError.{HubCreateError}
use Rattle.rr_protocol.specs.declared.error.HubCreateError.TheVariants.{ZeroLimit, LimitsTooLarge}

-- the most requests of a client that can live at one time
abbrev pub worst_case_requests : Limits → ℕ
worst_case_requests l =
    l.max_loaned_requests + l.max_active_requests_per_client + l.max_servers * 2 * l.max_active_requests_per_client

-- how many responses a server may have on loan, with this many for each request
abbrev pub max_loaned_responses : Limits → ℕ → ℕ
max_loaned_responses l loans = loans * l.max_active_requests_per_client * l.max_clients

-- the most responses of a server that can live at one time
abbrev pub worst_case_responses : Limits → ℕ → ℕ
worst_case_responses l loans =
    max_loaned_responses l loans
    + l.max_clients * (l.max_active_requests_per_client * l.max_response_buffer_size + worst_case_requests l *
    l.max_borrowed_responses_per_pending_response)

-- whether a size overflows a `usize`
abbrev pub is_too_large : ℕ → Bool
is_too_large size = nat_le (2 ^ 64) size

-- whether a limit is below its least value
abbrev pub has_zero_limit : Limits → Bool
has_zero_limit l =
    l.max_clients == 0 || l.max_servers == 0 || l.max_loaned_requests == 0 || l.max_active_requests_per_client == 0
    || l.max_response_buffer_size == 0 || l.max_borrowed_responses_per_pending_response == 0

-- the first reason that refuses a hub with these limits
abbrev pub hub_refusal : Limits → Option HubCreateError
hub_refusal l =
    if has_zero_limit l then Some ZeroLimit
    else if is_too_large (worst_case_requests l) || is_too_large (worst_case_responses l 1) then Some LimitsTooLarge
    else None

-- iceoryx2's default limits of a service
abbrev pub default_limits : Limits
default_limits = record {
  max_clients = 8;
  max_servers = 2;
  max_loaned_requests = 2;
  max_active_requests_per_client = 4;
  max_response_buffer_size = 2;
  max_borrowed_responses_per_pending_response = 2;
  enable_safe_overflow_for_requests = true;
  enable_safe_overflow_for_responses = true;
  enable_fire_and_forget_requests = true;
  client_expired_connection_buffer = 128;
  server_expired_connection_buffer = 128;
}
