-- The parts of a core in which nothing was made.
use Rattle.std.specs.Prelude.{ℕ, []}
use Rattle.rr_table.specs.TableView.{empty_table}
use Rattle.rr_protocol.specs.declared.limits.Limits.{Limits}
use Rattle.rr_store.specs.Parts.{Parts}

abbrev pub start_parts : {Q QH P PH K : Type 0} → Limits → ℕ → QH → PH → Parts Q QH P PH K
start_parts limits node_id request_header response_header =
    record {
      limits = limits;
      node_id = node_id;
      next = 0;
      clients = [];
      servers = [];
      client_senders = [];
      server_senders = [];
      left_clients = [];
      left_servers = [];
      client_room = 0;
      server_room = 0;
      table = empty_table;
      spare_request_header = request_header;
      spare_response_header = response_header;
    }
