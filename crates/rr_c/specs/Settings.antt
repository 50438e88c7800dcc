-- The settings of a hub and its ports, as a C program passes them.
use Rattle.std.specs.Prelude.{ℕ, ◌==◌, if◌then◌else◌, Option, Some, None, option_and_then, option_map}
use Rattle.rr_protocol.specs.declared.limits.Limits.{Limits}
use Rattle.rr_protocol.specs.declared.settings.AllocationStrategy.{AllocationStrategy}
use Rattle.rr_protocol.specs.declared.settings.BackpressureStrategy.{BackpressureStrategy}
use Rattle.rr_protocol.specs.declared.settings.ClientSettings.{ClientSettings}
use Rattle.rr_protocol.specs.declared.settings.ServerSettings.{ServerSettings}
use Rattle.rr_protocol.specs.declared.no_handler.NoHandler.{NoHandler}
use Rattle.rr_c.specs.declared.settings.HubLimits.{HubLimits}
use Rattle.rr_c.specs.declared.settings.ClientOptions.{ClientOptions}
use Rattle.rr_c.specs.declared.settings.ServerOptions.{ServerOptions}

-- the limits of a hub
abbrev pub limits_in : HubLimits → Limits
limits_in asked = record {
  max_clients = asked.max_clients;
  max_servers = asked.max_servers;
  max_loaned_requests = asked.max_loaned_requests;
  max_active_requests_per_client = asked.max_active_requests_per_client;
  max_response_buffer_size = asked.max_response_buffer_size;
  max_borrowed_responses_per_pending_response = asked.max_borrowed_responses_per_pending_response;
  enable_safe_overflow_for_requests = asked.enable_safe_overflow_for_requests;
  enable_safe_overflow_for_responses = asked.enable_safe_overflow_for_responses;
  enable_fire_and_forget_requests = asked.enable_fire_and_forget_requests;
  client_expired_connection_buffer = asked.client_expired_connection_buffer;
  server_expired_connection_buffer = asked.server_expired_connection_buffer;
}

-- at most this many slots; 0 reduces no pool
abbrev pub pool_in : ℕ → Option ℕ
pool_in slots = if slots == 0 then None else Some slots

-- the strategies by their numbers
abbrev pub backpressure_in : ℕ → Option BackpressureStrategy
backpressure_in n =
    if n == 0 then Some BackpressureStrategy.RetryUntilDelivered else
    (if n == 1 then Some BackpressureStrategy.DiscardData else None)

abbrev pub allocation_in : ℕ → Option AllocationStrategy
allocation_in n =
    if n == 0 then Some AllocationStrategy.Static
    else (if n == 1 then Some AllocationStrategy.BestFit else
    (if n == 2 then Some AllocationStrategy.PowerOfTwo else None))

-- the settings of a client, if both numbers are those of strategies
abbrev pub client_settings_in : ClientOptions → Option (ClientSettings NoHandler)
client_settings_in asked =
    option_and_then (λ backpressure.
    option_map (λ allocation. record {
      initial_max_slice_len = asked.initial_max_slice_len;
      pool = pool_in asked.preallocated_requests;
      strategy = backpressure;
      allocation_strategy = allocation;
      handler = None;
    }) (allocation_in asked.allocation_strategy)) (backpressure_in asked.backpressure_strategy)

-- the settings of a server, if both numbers are those of strategies
abbrev pub server_settings_in : ServerOptions → Option (ServerSettings NoHandler)
server_settings_in asked =
    option_and_then (λ backpressure.
    option_map (λ allocation. record {
      initial_max_slice_len = asked.initial_max_slice_len;
      pool = pool_in asked.preallocated_responses;
      loans = asked.max_loaned_responses_per_request;
      strategy = backpressure;
      allocation_strategy = allocation;
      handler = None;
    }) (allocation_in asked.allocation_strategy)) (backpressure_in asked.backpressure_strategy)
