-- The parts of a core after a port was created.
use Rattle.std.specs.Prelude.{◌≡◌, ◌==◌, ◌&&◌, ℕ, ◌+◌, ◌*◌, Bool, true, Option, List, [], ◌∷◌, ◌++◌, length, replicate, slice_index_or, slice_set, if◌then◌else◌, is_some, nat_lt, not}
use Rattle.std.specs.List.{position, remove}
use Rattle.rr_sender.specs.Senders.{Messages, used_count}
use Rattle.rr_protocol.specs.declared.settings.ClientSettings.{ClientSettings}
use Rattle.rr_protocol.specs.declared.settings.ServerSettings.{ServerSettings}
use Rattle.rr_protocol.specs.Limits.{worst_case_requests, max_loaned_responses, worst_case_responses}
use Rattle.rr_protocol.specs.Ports.{Port}
use Rattle.rr_protocol.specs.Creation.{pool_size_of, loans_of}
use Rattle.rr_store.specs.declared.details.RequestDetails.{RequestDetails}
use Rattle.rr_store.specs.declared.details.ResponseDetails.{ResponseDetails}
use Rattle.rr_store.specs.declared.port.LeftPort.{LeftPort}
use Rattle.rr_store.specs.Parts.{Parts, ClientPart, ServerPart, Sender}
use Rattle.rr_store.specs.Views.{no_server, sender_of}

-- whether a number is at least `low` and below `high`
abbrev pub is_between : ℕ → ℕ → ℕ → Bool
is_between low high n = not (nat_lt n low) && nat_lt n high

-- a new sender, whose slots are free and whose queues are empty
pub record IsNew {T N H : Type 0} (slots room receivers channels capacity : ℕ) (detail : N) (m : Messages T N H)
    : Type 0 where
  pub contents : length m.contents ≡ slots
  pub details : m.details ≡ replicate slots detail
  pub user_headers : length m.user_headers ≡ slots
  pub held : m.held ≡ replicate slots 0
  pub queues : m.queues ≡ replicate receivers (replicate channels [])
  pub borrowed : m.borrowed ≡ replicate receivers (replicate channels 0)
  pub capacity_is : m.capacity ≡ capacity
  pub room_is : m.room ≡ room

-- the site of a new port's sender: its index and its row; and the senders, the ports that left and the rows then
pub record Site (T N H : Type 0) : Type 0 where
  pub sender : ℕ
  pub row : ℕ
  pub senders : List (Sender T N H)
  pub left : List LeftPort
  pub rows : List ℕ

-- a port that left, at an index
abbrev pub left_at : ℕ → List LeftPort → LeftPort
left_at index left = slice_index_or left index (record { number = 0; sender = 0 })

-- the sender of a new port, with this number, row and receiver, and these marks and messages
abbrev pub new_sender : {T N H : Type 0} → ℕ → ℕ → ℕ → List ℕ → Messages T N H → Sender T N H
new_sender owner row receiver may_answer messages =
    record {
      owner =
          owner;
      row = row;
      receiver = receiver;
      has_value = true;
      loans = 0;
      pendings = 0;
      may_answer = may_answer;
      messages = messages;
    }

-- whether nothing uses a sender
abbrev pub is_idle : {T N H : Type 0} → Sender T N H → Bool
is_idle l = used_count l.messages == 0

module _ {T N H : Type 0} (senders : List (Sender T N H)) (left : List LeftPort) where
  -- the index of the first port that left whose sender nothing uses
  abbrev pub idle_left : Option ℕ
  idle_left = position (λ l. is_idle (sender_of l.sender senders)) left

  -- the number of senders after a creation: one more, unless a sender of a port that left is reused
  abbrev pub senders_after : ℕ
  senders_after = if is_some idle_left then length senders else length senders + 1

  -- a new sender, with a row of this many places, after all others
  abbrev pub last_site : List ℕ → ℕ → Sender T N H → Site T N H
  last_site rows row_len new =
      record {
        sender =
            length senders;
        row = length rows;
        senders = senders ++ new ∷ [];
        left = left;
        rows = rows ++ row_len ∷ [];
      }

  -- and a sender that replaces the one of a port that left, in the same row
  abbrev pub left_site : List ℕ → ℕ → (ℕ → Sender T N H) → ℕ → Site T N H
  left_site rows row_len new index =
      let sender = (left_at index left).sender in
      let row = (sender_of sender senders).row in
      record {
        sender =
            sender;
        row = row;
        senders = slice_set senders sender (new row);
        left = remove left index;
        rows = slice_set rows row row_len;
      }

module _ {Q QH P PH K : Type 0} (p : Parts Q QH P PH K) where
  -- the port of a client with these settings, and of a server
  abbrev pub client_port : ClientSettings K → Port K
  client_port settings =
      record {
        id = p.next;
        strategy = settings.strategy;
        handler = settings.handler;
        allocation_strategy = settings.allocation_strategy;
        initial_max_slice_len = settings.initial_max_slice_len;
        pool_size = pool_size_of (worst_case_requests p.limits) settings.pool;
        has_value = true;
      }

  abbrev pub server_port : ServerSettings K → Port K
  server_port settings =
      record {
        id = p.next;
        strategy = settings.strategy;
        handler = settings.handler;
        allocation_strategy = settings.allocation_strategy;
        initial_max_slice_len = settings.initial_max_slice_len;
        pool_size = pool_size_of (worst_case_responses p.limits (loans_of settings)) settings.pool;
        has_value = true;
      }

  -- a client that sends from a sender, and is this receiver
  abbrev pub new_client : ClientSettings K → ℕ → ℕ → ClientPart K
  new_client settings sender receiver =
      record {
        connected =
            record { port = client_port settings; sender = sender; receiver = receiver };
        loans_made = 0;
      }

  -- the new sender of a client, with this row
  abbrev pub new_client_sender : ClientSettings K → ℕ → ℕ → Messages Q RequestDetails QH → Sender Q RequestDetails QH
  new_client_sender settings row receiver messages =
      new_sender p.next row receiver (replicate ((client_port settings).pool_size * p.limits.max_servers) no_server)
      messages

  -- the number of places in a client's row
  abbrev pub client_row_len : ClientSettings K → ℕ
  client_row_len settings = (p.limits.max_servers + 1) * (client_port settings).pool_size

  -- a client that is this receiver sends from a new sender in this site
  abbrev pub with_client_part : ClientSettings K → ℕ → Site Q RequestDetails QH → Parts Q QH P PH K
  with_client_part settings receiver site =
      record p {
        next = p.next + 1;
        clients = p.clients ++ new_client settings site.sender receiver ∷ [];
        client_senders = site.senders;
        left_clients = site.left;
        table = record p.table { rows = site.rows };
      }

  -- the site after all senders
  abbrev pub last_client_site : ClientSettings K → ℕ → Messages Q RequestDetails QH → Site Q RequestDetails QH
  last_client_site settings receiver messages =
      last_site p.client_senders p.left_clients p.table.rows (client_row_len settings)
      (new_client_sender settings (length p.table.rows) receiver messages)

  -- the site of the client at an index of those that left
  abbrev pub left_client_site : ClientSettings K → ℕ → Messages Q RequestDetails QH → ℕ → Site Q RequestDetails QH
  left_client_site settings receiver messages index =
      left_site p.client_senders p.left_clients p.table.rows (client_row_len settings)
      (λ row. new_client_sender settings row receiver messages) index

  -- a server that sends from a sender, and is this receiver
  abbrev pub new_server : ServerSettings K → ℕ → ℕ → ServerPart K
  new_server settings sender receiver =
      record {
        connected = record { port = server_port settings; sender = sender; receiver = receiver };
        max_loaned_responses_per_request = loans_of settings;
        max_loaned_responses = max_loaned_responses p.limits (loans_of settings);
      }

  -- the new sender of a server, with this row
  abbrev pub new_server_sender : ℕ → ℕ → Messages P ResponseDetails PH → Sender P ResponseDetails PH
  new_server_sender row receiver messages = new_sender p.next row receiver [] messages

  -- a server that is this receiver sends from a new sender in this site
  abbrev pub with_server_part : ServerSettings K → ℕ → Site P ResponseDetails PH → Parts Q QH P PH K
  with_server_part settings receiver site =
      record p {
        next = p.next + 1;
        servers = p.servers ++ new_server settings site.sender receiver ∷ [];
        server_senders = site.senders;
        left_servers = site.left;
        table = record p.table { rows = site.rows };
      }

  -- the site after all senders
  abbrev pub last_server_site : ServerSettings K → ℕ → Messages P ResponseDetails PH → Site P ResponseDetails PH
  last_server_site settings receiver messages =
      last_site p.server_senders p.left_servers p.table.rows (server_port settings).pool_size
      (new_server_sender (length p.table.rows) receiver messages)

  -- the site of the server at an index of those that left
  abbrev pub left_server_site : ServerSettings K → ℕ → Messages P ResponseDetails PH → ℕ → Site P ResponseDetails PH
  left_server_site settings receiver messages index =
      left_site p.server_senders p.left_servers p.table.rows (server_port settings).pool_size
      (λ row. new_server_sender row receiver messages) index
