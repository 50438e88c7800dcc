-- The default settings of ports.
use Rattle.std.specs.Prelude.{None}
use Rattle.rr_protocol.specs.declared.settings.ClientSettings.{ClientSettings}
use Rattle.rr_protocol.specs.declared.settings.ServerSettings.{ServerSettings}
use Rattle.rr_protocol.specs.declared.settings.BackpressureStrategy.TheVariants.{DiscardData}
use Rattle.rr_protocol.specs.declared.settings.AllocationStrategy.TheVariants.{Static}

-- the default settings of a client
abbrev pub client_defaults : {K : Type 0} → ClientSettings K
client_defaults =
    record {
      strategy = DiscardData;
      initial_max_slice_len = 1;
      allocation_strategy = Static;
      pool = None;
      handler = None;
    }

-- the default settings of a server
abbrev pub server_defaults : {K : Type 0} → ServerSettings K
server_defaults =
    record {
      strategy = DiscardData;
      initial_max_slice_len = 1;
      allocation_strategy = Static;
      pool = None;
      handler = None;
      loans = 1;
    }
