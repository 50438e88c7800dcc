-- A store, whose sides have public fields, as parts.
use Rattle.std.specs.Prelude.{map}
use Rattle.rr_store.specs.declared.store.Store.{Store}
use Rattle.rr_store.specs.Parts.{Parts}
use Rattle.rr_store.specs.Ports.{client_part, server_part}

-- the whole
abbrev pub opened : {QB QH PB PH K Q P : Type 0} → Store QB QH PB PH K Q P → Parts Q QH P PH K
opened s =
    record {
      limits = s.limits;
      node_id = s.node_id.0;
      next = s.next;
      clients = map client_part s.clients.ports;
      servers = map server_part s.servers.ports;
      client_senders = s.clients.senders;
      server_senders = s.servers.senders;
      left_clients = s.clients.left;
      left_servers = s.servers.left;
      client_room = s.clients.room;
      server_room = s.servers.room;
      table = s.table;
      spare_request_header = s.clients.spare_header;
      spare_response_header = s.servers.spare_header;
    }
