-- The state of a connected port.
use Rattle.std.specs.Prelude.{ℕ, Bool, Option}
use Rattle.rr_protocol.specs.declared.settings.BackpressureStrategy.{BackpressureStrategy}
use Rattle.rr_protocol.specs.declared.settings.AllocationStrategy.{AllocationStrategy}

-- the common part of clients and servers. `has_value` says whether the port value lives
pub record Port (K : Type 0) : Type 0 where
  pub id : ℕ
  pub strategy : BackpressureStrategy
  pub handler : Option K
  pub allocation_strategy : AllocationStrategy
  pub initial_max_slice_len : ℕ
  pub pool_size : ℕ
  pub has_value : Bool

-- a connected client, with the number of loans that it made, which is the next request id
pub record Client (K : Type 0) : Type 0 where
  pub port : Port K
  pub open port use *
  pub loans_made : ℕ

-- a connected server, with the number of responses that it may have on loan for each request
pub record Server (K : Type 0) : Type 0 where
  pub port : Port K
  pub open port use *
  pub max_loaned_responses_per_request : ℕ
