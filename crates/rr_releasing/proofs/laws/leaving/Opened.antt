-- What a side becomes as a port loses its value or leaves, as parts.
use Rattle.std.proofs.Common.{◌≡◌, ℕ, false, [], ◌∷◌, ◌++◌, map, ap, ◌∙◌}
use Rattle.std.specs.Prelude.{IsSomeAnd, slice_get, slice_set}
use Rattle.std.specs.List.{remove}
use Rattle.rr_store.specs.declared.details.RequestDetails.{RequestDetails}
use Rattle.rr_store.specs.declared.details.ResponseDetails.{ResponseDetails}
use Rattle.rr_store.specs.declared.port.ClientPort.{ClientPort}
use Rattle.rr_store.specs.declared.port.LeftPort.{LeftPort}
use Rattle.rr_store.specs.declared.port.ServerPort.{ServerPort}
use Rattle.rr_store.specs.declared.store.Store.{Store}
use Rattle.rr_store.specs.Leaving.{leaving_client, leaving_server, valueless, without_client, without_client_value, without_server, without_server_value}
use Rattle.rr_store.specs.Loaning.{with_sender_at}
use Rattle.rr_store.specs.Opened.{opened}
use Rattle.rr_store.specs.Ports.{client_part, server_part}
use Rattle.rr_store.specs.Sides.{SideParts, without_port}
use Rattle.rr_store.proofs.base.lists.Mapped.{some_each, to_index}
use Rattle.rr_store.proofs.base.lists.Removed.{map-remove}
use Rattle.rr_store.proofs.base.lists.Replaced.{map-set_one}

module _ {QB QH PB PH K Q P : Type 0} (s : Store QB QH PB PH K Q P) (i : ℕ) where
  -- the clients after the one at an index lost its value
  pub valueless_client : (new : SideParts Q RequestDetails QH (ClientPort K))
      → IsSomeAnd (slice_get s.clients.ports i) (λ c. new ≡ record s.clients {
        ports = slice_set s.clients.ports i (record c { port = record c.port { has_value = false } });
        senders = with_sender_at s.clients.senders c.port.sender valueless;
      })
      → IsSomeAnd (slice_get (opened s).clients i) (λ c. opened (record s { clients = new }) ≡ without_client_value (opened s) i c)
  valueless_client new = to_index client_part s.clients.ports i
      (λ c. opened (record s { clients = new }) ≡ without_client_value (opened s) i c)
      (λ c. new ≡ record s.clients {
        ports = slice_set s.clients.ports i (record c { port = record c.port { has_value = false } });
        senders = with_sender_at s.clients.senders c.port.sender valueless;
      })
      (λ c is. ap (λ x. opened (record s { clients = x })) is
      ∙ ap (λ cs. record (opened s) { clients = cs; client_senders = with_sender_at s.clients.senders c.port.sender valueless })
      (map-set_one client_part s.clients.ports i (record c { port = record c.port { has_value = false } })))

  -- and the servers
  pub valueless_server : (new : SideParts P ResponseDetails PH (ServerPort K))
      → IsSomeAnd (slice_get s.servers.ports i) (λ c. new ≡ record s.servers {
        ports = slice_set s.servers.ports i (record c { port = record c.port { has_value = false } });
        senders = with_sender_at s.servers.senders c.port.sender valueless;
      })
      → IsSomeAnd (slice_get (opened s).servers i) (λ c. opened (record s { servers = new }) ≡ without_server_value (opened s) i c)
  valueless_server new = to_index server_part s.servers.ports i
      (λ c. opened (record s { servers = new }) ≡ without_server_value (opened s) i c)
      (λ c. new ≡ record s.servers {
        ports = slice_set s.servers.ports i (record c { port = record c.port { has_value = false } });
        senders = with_sender_at s.servers.senders c.port.sender valueless;
      })
      (λ c is. ap (λ x. opened (record s { servers = x })) is
      ∙ ap (λ cs. record (opened s) { servers = cs; server_senders = with_sender_at s.servers.senders c.port.sender valueless })
      (map-set_one server_part s.servers.ports i (record c { port = record c.port { has_value = false } })))

  -- and after it was taken out of the connected ones
  pub removed_client : (leaving : LeftPort) (new : SideParts Q RequestDetails QH (ClientPort K))
      → IsSomeAnd (slice_get (opened s).clients i) (λ c. leaving ≡ leaving_client c) → new ≡ without_port s.clients i leaving
      → IsSomeAnd (slice_get (opened s).clients i) (λ c. opened (record s { clients = new }) ≡ without_client (opened s) i c)
  removed_client leaving new told is = some_each (slice_get (opened s).clients i) (λ c. leaving ≡ leaving_client c)
      (λ c. opened (record s { clients = new }) ≡ without_client (opened s) i c)
      (λ c e. ap (λ x. opened (record s { clients = x })) is
      ∙ ap (λ cs. record (opened s) { clients = cs; left_clients = s.clients.left ++ leaving ∷ [] }) (map-remove client_part
      s.clients.ports i)
      ∙ ap (λ l. record (opened s) { clients = remove (map client_part s.clients.ports) i; left_clients = s.clients.left ++ l ∷ [] }) e)
      told

  pub removed_server : (leaving : LeftPort) (new : SideParts P ResponseDetails PH (ServerPort K))
      → IsSomeAnd (slice_get (opened s).servers i) (λ c. leaving ≡ leaving_server c) → new ≡ without_port s.servers i leaving
      → IsSomeAnd (slice_get (opened s).servers i) (λ c. opened (record s { servers = new }) ≡ without_server (opened s) i c)
  removed_server leaving new told is = some_each (slice_get (opened s).servers i) (λ c. leaving ≡ leaving_server c)
      (λ c. opened (record s { servers = new }) ≡ without_server (opened s) i c)
      (λ c e. ap (λ x. opened (record s { servers = x })) is
      ∙ ap (λ cs. record (opened s) { servers = cs; left_servers = s.servers.left ++ leaving ∷ [] }) (map-remove server_part
      s.servers.ports i)
      ∙ ap (λ l. record (opened s) { servers = remove (map server_part s.servers.ports) i; left_servers = s.servers.left ++ l ∷ [] }) e)
      told
