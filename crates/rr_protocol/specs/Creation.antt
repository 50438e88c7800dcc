-- Creation of hubs, clients and servers.
use Rattle.std.specs.Prelude.{◌≡◌, ℕ, ◌+◌, true, ◌==◌, nat_le, min, max, if◌then◌else◌, [], ◌∷◌, ◌++◌, length, Option, Some, None, Result, Ok, Err}
use Rattle.std.specs.Option.{option_map_or}
use Rattle.rr_protocol.specs.declared.limits.Limits.{Limits}
use Rattle.rr_protocol.specs.declared.settings.ClientSettings.{ClientSettings}
use Rattle.rr_protocol.specs.declared.settings.ServerSettings.{ServerSettings}
use Rattle.rr_protocol.specs.declared.error.HubCreateError.{HubCreateError}
use Rattle.rr_protocol.specs.declared.error.ClientCreateError.{ClientCreateError}
use Rattle.rr_protocol.specs.declared.error.ServerCreateError.{ServerCreateError}
use Rattle.rr_protocol.specs.Limits.{hub_refusal, worst_case_requests, worst_case_responses, is_too_large}
use Rattle.rr_protocol.specs.Ports.{Port}
use Rattle.rr_protocol.specs.State.{State, empty_hub, numbers_left}

-- the error is the required one, or, if none is required, want of memory
abbrev pub IsRefusal : {E : Type 0} → Option E → E → E → Type 0
IsRefusal (Some due) memory error = error ≡ due
IsRefusal None memory error = error ≡ memory

-- the pool's size: the worst case, or the override's result, clamped to 1 up to the worst case
abbrev pub pool_size_of : ℕ → Option ℕ → ℕ
pool_size_of worst_case pool = option_map_or (λ action. max 1 (min action worst_case)) pool worst_case

-- a setting of no loaned responses counts as one
abbrev pub loans_of : {K : Type 0} → ServerSettings K → ℕ
loans_of settings = max 1 settings.loans

module _ {Q QH P PH K : Type 0} where
  -- a hub with these limits is made, unless they are refused: it takes no memory
  abbrev pub CreatesHub : Limits → ℕ → Result (State Q QH P PH K) HubCreateError → Type 0
  CreatesHub limits node_id (Ok hub) = (hub_refusal limits ≡ None) × (hub ≡ empty_hub limits node_id)
  CreatesHub limits node_id (Err error) = hub_refusal limits ≡ Some error

  -- the first reason that refuses one more client
  abbrev pub client_refusal : State Q QH P PH K → Option ClientCreateError
  client_refusal s =
      if numbers_left s == 0 then Some ClientCreateError.UnableToCreatePortTag
      else if nat_le s.limits.max_clients (length s.clients) then Some ClientCreateError.ExceedsMaxSupportedClients
      else None

  -- after a client with these settings took the next number
  abbrev pub with_client : State Q QH P PH K → ClientSettings K → State Q QH P PH K
  with_client s settings =
      let port : Port K = record {
        id = s.next;
        strategy = settings.strategy;
        handler = settings.handler;
        allocation_strategy = settings.allocation_strategy;
        initial_max_slice_len = settings.initial_max_slice_len;
        pool_size = pool_size_of (worst_case_requests s.limits) settings.pool;
        has_value = true;
      } in
      record s { clients = s.clients ++ record { port = port; loans_made = 0 } ∷ []; next = s.next + 1 }

  -- a client is created under the next number, or nothing changes
  abbrev pub CreatesClient : State Q QH P PH K → ClientSettings K → Result ℕ ClientCreateError → State Q QH P PH K
      → Type 0
  CreatesClient old settings (Ok number) new =
      (client_refusal old ≡ None) × (number ≡ old.next) × (new ≡ with_client old settings)
  CreatesClient old settings (Err error) new =
      IsRefusal (client_refusal old) ClientCreateError.UnableToCreateDataSegment error × (new ≡ old)

  -- the first reason that refuses one more server with these settings
  abbrev pub server_refusal : State Q QH P PH K → ServerSettings K → Option ServerCreateError
  server_refusal s settings =
      if numbers_left s == 0 then Some ServerCreateError.UnableToCreatePortTag
      else if nat_le s.limits.max_servers (length s.servers) then Some ServerCreateError.ExceedsMaxSupportedServers
      else if is_too_large (worst_case_responses s.limits (loans_of settings)) then Some
      ServerCreateError.UnableToCreateDataSegment
      else None

  -- after a server with these settings took the next number
  abbrev pub with_server : State Q QH P PH K → ServerSettings K → State Q QH P PH K
  with_server s settings =
      let port : Port K = record {
        id = s.next;
        strategy = settings.strategy;
        handler = settings.handler;
        allocation_strategy = settings.allocation_strategy;
        initial_max_slice_len = settings.initial_max_slice_len;
        pool_size = pool_size_of (worst_case_responses s.limits (loans_of settings)) settings.pool;
        has_value = true;
      } in
      record s {
        servers =
            s.servers ++ record { port = port; max_loaned_responses_per_request = loans_of settings } ∷ [];
        next = s.next + 1;
      }

  -- a server is created under the next number, or nothing changes
  abbrev pub CreatesServer : State Q QH P PH K → ServerSettings K → Result ℕ ServerCreateError → State Q QH P PH K
      → Type 0
  CreatesServer old settings (Ok number) new =
      (server_refusal old settings ≡ None) × (number ≡ old.next) × (new ≡ with_server old settings)
  CreatesServer old settings (Err error) new =
      IsRefusal (server_refusal old settings) ServerCreateError.UnableToCreateDataSegment error × (new ≡ old)
