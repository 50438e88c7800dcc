-- A store after a port was added, as parts.
use Rattle.std.proofs.Common.{◌≡◌, ◌+◌, ℕ, List, [], ◌∷◌, ◌++◌, map, ap, ◌∙◌}
use Rattle.std.specs.Prelude.{slice_set}
use Rattle.std.specs.List.{remove}
use Rattle.std.proofs.lemmas.List.{map-append}
use Rattle.rr_table.specs.TableView.{TableView}
use Rattle.rr_sender.specs.Senders.{Messages}
use Rattle.rr_protocol.specs.declared.settings.ClientSettings.{ClientSettings}
use Rattle.rr_protocol.specs.declared.settings.ServerSettings.{ServerSettings}
use Rattle.rr_protocol.specs.Limits.{max_loaned_responses}
use Rattle.rr_store.specs.declared.details.RequestDetails.{RequestDetails}
use Rattle.rr_store.specs.declared.details.ResponseDetails.{ResponseDetails}
use Rattle.rr_store.specs.declared.handle_entry.HandleEntry.{HandleEntry}
use Rattle.rr_store.specs.declared.port.ClientPort.{ClientPort}
use Rattle.rr_store.specs.declared.port.ServerPort.{ServerPort}
use Rattle.rr_store.specs.declared.store.Store.{Store}
use Rattle.rr_store.specs.Changes.{with_client_again, with_server_again}
use Rattle.rr_store.specs.Creating.{client_port, left_at, new_sender, server_port}
use Rattle.rr_store.specs.Opened.{opened}
use Rattle.rr_store.specs.Parts.{ClientPart, Parts, ServerPart}
use Rattle.rr_store.specs.Ports.{client_part, server_part}
use Rattle.rr_store.specs.Sides.{SideParts}
use Rattle.rr_store.specs.Views.{sender_of}

module _ {QB QH PB PH K Q P : Type 0} (s : Store QB QH PB PH K Q P) (slots receiver index : ℕ) (table : TableView HandleEntry)
    (sender : ℕ) where
  module _ (settings : ServerSettings K) (loans : ℕ) (messages : Messages P ResponseDetails PH) where
    -- a server that sends from a sender
    abbrev server_at : ℕ → ServerPart K
    server_at n =
        record {
          connected = record {
            port = record (server_port (opened s) settings) { pool_size = slots };
            sender = n;
            receiver = receiver;
          };
          max_loaned_responses_per_request = loans;
          max_loaned_responses = max_loaned_responses s.limits loans;
        }

    -- the parts with these servers, of which this one is new
    abbrev servers_with : List (ServerPart K) → ServerPart K → List ℕ → Parts Q QH P PH K
    servers_with servers new marks =
        record (opened s) {
          next = s.next + 1;
          servers = servers;
          server_senders = slice_set s.servers.senders new.sender
              (new_sender new.port.id (sender_of new.sender s.servers.senders).row new.receiver marks messages);
          left_servers = remove s.servers.left index;
          table = table;
        }

    -- a server, in the place of one that left
    pub server_again : sender ≡ (left_at index s.servers.left).sender → (port : ServerPort K) → server_part port ≡ server_at sender
        → (marks : List ℕ) → marks ≡ [] → (new : SideParts P ResponseDetails PH (ServerPort K))
        → new ≡ record s.servers {
          ports = s.servers.ports ++ port ∷ [];
          senders = slice_set s.servers.senders port.port.sender
              (new_sender port.port.id (sender_of port.port.sender s.servers.senders).row port.port.receiver marks messages);
          left = remove s.servers.left index;
        }
        → opened (record s { next = s.next + 1; servers = new; table = table })
        ≡ with_server_again (opened s) settings loans slots receiver messages index table
    server_again is port part marks none new told =
        let before = map server_part s.servers.ports in
        ap (λ (x : SideParts P ResponseDetails PH (ServerPort K)). opened (record s { next = s.next + 1; servers = x; table = table })) told
        ∙ ap (λ xs. servers_with xs (server_part port) marks) (map-append server_part s.servers.ports (port ∷ []))
        ∙ ap (λ x. servers_with (before ++ x ∷ []) x marks) part
        ∙ ap (servers_with (before ++ server_at sender ∷ []) (server_at sender)) none
        ∙ ap (λ n. servers_with (before ++ server_at n ∷ []) (server_at n) []) is

  module _ (settings : ClientSettings K) (messages : Messages Q RequestDetails QH) where
    -- a client that sends from a sender
    abbrev client_at : ℕ → ClientPart K
    client_at n =
        record {
          connected = record {
            port = record (client_port (opened s) settings) { pool_size = slots };
            sender = n;
            receiver = receiver;
          };
          loans_made = 0;
        }

    -- the parts with these clients, of which this one is new
    abbrev clients_with : List (ClientPart K) → ClientPart K → List ℕ → Parts Q QH P PH K
    clients_with clients new marks =
        record (opened s) {
          next = s.next + 1;
          clients = clients;
          client_senders = slice_set s.clients.senders new.sender
              (new_sender new.port.id (sender_of new.sender s.clients.senders).row new.receiver marks messages);
          left_clients = remove s.clients.left index;
          table = table;
        }

    -- a client, in the place of one that left
    pub client_again : sender ≡ (left_at index s.clients.left).sender → (port : ClientPort K) → client_part port ≡ client_at sender
        → (marks : List ℕ) → (new : SideParts Q RequestDetails QH (ClientPort K))
        → new ≡ record s.clients {
          ports = s.clients.ports ++ port ∷ [];
          senders = slice_set s.clients.senders port.port.sender
              (new_sender port.port.id (sender_of port.port.sender s.clients.senders).row port.port.receiver marks messages);
          left = remove s.clients.left index;
        }
        → opened (record s { next = s.next + 1; clients = new; table = table })
        ≡ with_client_again (opened s) settings slots receiver messages marks index table
    client_again is port part marks new told =
        let before = map client_part s.clients.ports in
        ap (λ (x : SideParts Q RequestDetails QH (ClientPort K)). opened (record s { next = s.next + 1; clients = x; table = table })) told
        ∙ ap (λ xs. clients_with xs (client_part port) marks) (map-append client_part s.clients.ports (port ∷ []))
        ∙ ap (λ x. clients_with (before ++ x ∷ []) x marks) part
        ∙ ap (λ n. clients_with (before ++ client_at n ∷ []) (client_at n) marks) is
