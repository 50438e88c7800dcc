-- A core stays sound as it gets room for more ports that leave.
use Rattle.std.proofs.Common.{◌≤◌, ℕ, [], arith}
use Rattle.rr_store.specs.Parts.{Parts}
use Rattle.rr_store.specs.Reaching.{IsCore}
use Rattle.rr_store.specs.Sound.{Hand, IsSoundStore}

module _ {Q QH P PH K : Type 0} (p : Parts Q QH P PH K) (client_room server_room : ℕ) (clients : p.client_room ≤ client_room)
    (servers : p.server_room ≤ server_room) where
  -- with that room
  abbrev pub roomier : Parts Q QH P PH K
  roomier = record p { client_room = client_room; server_room = server_room }

  pub roomier_sound : (hand : Hand) → IsSoundStore p hand → IsSoundStore roomier hand
  roomier_sound hand sound = record {
    counted = let n = sound.counted in record {
      requests = n.requests;
      responses = n.responses;
    };
    held_once = let n = sound.held_once in record {
      loans = n.loans;
      servers = n.servers;
      responses = n.responses;
    };
    numbered = let n = sound.numbered in record {
      fresh = n.fresh;
      requests = n.requests;
      pendings = n.pendings;
      responses = n.responses;
      requests_below = n.requests_below;
      responses_below = n.responses_below;
      requests_apart = n.requests_apart;
      responses_apart = n.responses_apart;
      kinds_apart = n.kinds_apart;
      actives_apart = n.actives_apart;
      received = n.received;
      answering = n.answering;
    };
    addressed = let n = sound.addressed in record {
      requests = n.requests;
      responses = n.responses;
      clients_below = n.clients_below;
      actives_below = n.actives_below;
      answered_below = n.answered_below;
      answers = n.answers;
      client_senders = n.client_senders;
      entries = n.entries;
    };
    inserted = let n = sound.inserted in record {
      placed = n.placed;
      client_rows = n.client_rows;
      server_rows = n.server_rows;
      client_rows_apart = n.client_rows_apart;
      server_rows_apart = n.server_rows_apart;
      rows_apart = n.rows_apart;
      active_servers = n.active_servers;
    };
    stored = let n = sound.stored in record {
      request_loans = n.request_loans;
      pendings = n.pendings;
      response_loans = n.response_loans;
      active_loans = n.active_loans;
      borrowed_requests = n.borrowed_requests;
      borrowed_responses = n.borrowed_responses;
    };
    sized = let n = sound.sized in record {
      limits_fit = n.limits_fit;
      client_senders = n.client_senders;
      server_senders = n.server_senders;
      marks = n.marks;
      next_fits = n.next_fits;
      channels = n.channels;
      loans_made = n.loans_made;
      most_loans = n.most_loans;
      rows_fit = n.rows_fit;
    };
    vacated = let n = sound.vacated in record {
      of_clients = n.of_clients;
      of_servers = n.of_servers;
      awaits_none = n.awaits_none;
    };
    have_ports = let n = sound.have_ports in record {
      handles = n.handles;
      apart = n.apart;
      left_clients = n.left_clients;
      left_servers = n.left_servers;
      client_room = omega (arith, n.client_room, clients);
      server_room = omega (arith, n.server_room, servers);
    };
    client_ports = sound.client_ports;
    server_ports = sound.server_ports;
  }

  -- and a core
  pub roomier_core : IsCore p → IsCore roomier
  roomier_core core = record { sound = roomier_sound [] core.sound; reached = core.reached; complete = core.complete }
