-- A hub fits after a port left, if it was not in use any more.
use Rattle.std.proofs.Common.{◌≡◌, ℕ, ◌≤◌, Bool, true, false, cond, not, eqb, List, [], map, Option, Some, None, option_map, refl, sym, ap, ◌∙◌, subst, arith}
use Rattle.std.specs.Prelude.{◌≢◌, ◌||◌, find, filter, is_some}
use Rattle.std.specs.List.{AllByRecursion, list_any}
use Rattle.std.specs.Option.{option_map_or}
use Rattle.std.specs.FinMap as fin_map
use Rattle.std.specs.FinMap.{get, entries}
use Rattle.std.proofs.lemmas.Bool.{eq-eqb, eqb-false}
use Rattle.std.proofs.lemmas.List.{length-map}
use Rattle.rr_table.specs.Maps.{tally}
use Rattle.rr_protocol.specs.Limits.{max_loaned_responses}
use Rattle.rr_protocol.specs.Lists.{at, with_at}
use Rattle.rr_protocol.specs.Keys.{RequestKey}
use Rattle.rr_protocol.specs.Messages.{Handle, RequestMutUninit, RequestMut, PendingResponse, ActiveRequest, ResponseMutUninit, ResponseMut, Response, port_of}
use Rattle.rr_protocol.specs.Ports.{Port, Client, Server}
use Rattle.rr_protocol.specs.State.{State, all_handles, client_at, handle_at, is_client_value, is_server_value}
use Rattle.rr_protocol.specs.Counts.{is_in_use}
use Rattle.rr_protocol.specs.Releases.{without_value, without_server, after_client_left, after_server_left, without_unused_port, without_port_value, map_handles, after_release, after_handle_gone}
use Rattle.rr_protocol.proofs.KeyLaws.{request_keys_total, request_keys_exact}
use Rattle.rr_protocol.proofs.ListsLaws.{at-retain_keys}
use Rattle.rr_laws.specs.Roles.{Role, role_of, roles_of, loans_response}
use Rattle.rr_laws.specs.Reached.{RequestFits, RequestsFit, Fits, IsReached}
use Rattle.rr_table.proofs.MapFacts.{any_value}
use Rattle.rr_table.proofs.ListFacts.{any-map, all_filter, all_map, length-filter_le, find-gone, find-changed}
use Rattle.rr_laws.proofs.RoleLaws.{handle_of, roles-map_handles}
use Rattle.rr_laws.proofs.Connected.{port_number, port_stays, no_port_stays, NoPortComes, has-gone, hadn't, has-changed, has-same, handles_with_ports, responses_with_ports, request_with_servers, requests_with_servers}
use Rattle.rr_laws.proofs.Releasing.{without_server-role, handle_gone_reached}
use Rattle.rr_laws.proofs.Expiring.{clients_expired, servers_expired, requests_dropped, responses_dropped}

-- the second of two tests of which neither passes
pub or_no : (a b : Bool) → (a || b) ≡ false → b ≡ false
or_no true b e = absurd (cc)
or_no false b e = e

module _ {Q QH P PH : Type 0} where
  -- the port of a handle is that of its role
  pub port_of-role : (h : Handle Q QH P PH) → port_of h ≡ port_number (role_of h)
  port_of-role (RequestMutUninit m) = refl
  port_of-role (RequestMut m) = refl
  port_of-role (PendingResponse p) = refl
  port_of-role (ActiveRequest a) = refl
  port_of-role (ResponseMutUninit m) = refl
  port_of-role (ResponseMut m) = refl
  port_of-role (Response m) = refl

module _ {K : Type 0} (n : ℕ) where
  -- a port without its value has its number
  pub without_value_id : (port : Port K) → (without_value n port).id ≡ port.id
  without_value_id port = elim (eqb port.id n) as (λ b. (cond b (record port { has_value = false }) port).id ≡ port.id)
      [ true ↦ refl | false ↦ refl ]

  without_value_pool : (port : Port K) → (without_value n port).pool_size ≡ port.pool_size
  without_value_pool port = elim (eqb port.id n) as (λ b. (cond b (record port { has_value = false }) port).pool_size ≡ port.pool_size)
      [ true ↦ refl | false ↦ refl ]

  client_without : Client K → Client K
  client_without c = record c { port = without_value n c.port }

  server_without : Server K → Server K
  server_without c = record c { port = without_value n c.port }

  server_without_loans : (c : Server K) → c.max_loaned_responses_per_request ≡ (server_without c).max_loaned_responses_per_request
  unfolding server_without
  server_without_loans c = refl

module _ {Q QH P PH K : Type 0} where
  -- no handle is of a port that is not in use
  pub no_handle_of : (s : State Q QH P PH K) (port : ℕ) → is_in_use s port ≡ false → (n : ℕ) (role : Role)
      → get (roles_of s.handles) n ≡ Some role → port_number role ≢ port
  no_handle_of s port unused n role e same =
      let h = handle_of s.handles n role e in
      let its : port_of h.0 ≡ port = port_of-role h.0 ∙ ap port_number h.2 ∙ same in
      let found : list_any (λ x. eqb (port_of x) port) (all_handles s) ≡ true =
      any-map (λ (x : ℕ × Handle Q QH P PH). x.1) (λ x. eqb (port_of x) port) (entries s.handles)
      ∙ any_value (λ x. eqb (port_of x) port) s.handles n h.0 h.1 (eq-eqb _ _ its) in
      absurd (let t : true ≡ false = sym found ∙ or_no (is_client_value s port || is_server_value s port) _ unused in cc)

  client_left_fits : (s : State Q QH P PH K) (client : ℕ) → IsReached s → is_in_use s client ≡ false →
      Fits s.limits (filter (λ c. not (eqb c.id client)) s.clients) s.servers (roles_of s.handles) s.requests
      (fin_map.retain_keys s.responses (λ key. not (eqb key.client client))) s.next
  client_left_fits s client fits unused =
      let rest = filter (λ (c : Client K). not (eqb c.id client)) s.clients in
      record {
        makes_hub = fits.makes_hub;
        ports = record {
          few_clients = omega (arith, length-filter_le (λ (c : Client K). not (eqb c.id client)) s.clients, fits.ports.few_clients);
          few_servers = fits.ports.few_servers;
          client_numbers = all_filter _ (λ c. not (eqb c.id client)) s.clients fits.ports.client_numbers;
          server_numbers = fits.ports.server_numbers;
          client_pools = all_filter _ (λ c. not (eqb c.id client)) s.clients fits.ports.client_pools;
          server_loans = fits.ports.server_loans;
        };
        handles = handles_with_ports s.clients rest s.servers s.servers s.limits (roles_of s.handles) s.next (λ n role e.
            port_stays s.clients rest s.servers s.servers role
            (has-gone (λ c. c.id) client (port_number role) s.clients (no_handle_of s client unused n role e)) (λ h. h)) comes
            fits.handles;
        counts = fits.counts;
        request_lists = fits.request_lists;
        response_lists = responses_with_ports s.clients rest s.servers s.servers s.limits (roles_of s.handles) s.next comes
            (fin_map.retain_keys s.responses (λ key. not (eqb key.client client)))
            (responses_dropped s (λ key. not (eqb key.client client)) fits);
      }
    where
      comes : NoPortComes s.clients (filter (λ c. not (eqb c.id client)) s.clients) s.servers s.servers s.next
      comes n below = no_port_stays s.clients _ s.servers s.servers n (hadn't (λ c. c.id) client n s.clients) (λ h. h)

  -- after a client left that was not in use
  pub client_left_reached : (s : State Q QH P PH K) (client : ℕ) → IsReached s → is_in_use s client ≡ false
      → IsReached (after_client_left s client)
  client_left_reached s client fits unused =
      let left = clients_expired client (map (λ c. c.id) s.servers) s fits in
      let mid : State Q QH P PH K = record s { requests = left.0; expired = left.1 } in
      subst (λ (x : State Q QH P PH K). IsReached (record x {
        clients = filter (λ c. not (eqb c.id client)) x.clients;
        responses = fin_map.retain_keys x.responses (λ key. not (eqb key.client client));
        expired = with_at x.expired client [];
      })) (sym left.2) (client_left_fits mid client left.3 unused)

  server_lists_fit : (s : State Q QH P PH K) (server : ℕ) → IsReached s →
      RequestsFit s.limits (filter (λ c. not (eqb c.id server)) s.servers) (roles_of s.handles) s.next
      (fin_map.retain_keys s.requests (λ key. not (eqb key.server server)))
  server_lists_fit s server fits =
      record {
        each = λ key. subst (AllByRecursion (RequestFits s.limits rest (roles_of s.handles) s.next key))
            (sym (at-retain_keys request_keys_total request_keys_exact s.requests (λ k. not (eqb k.server server)) key))
            (go key (eqb key.server server) refl);
        short = (requests_dropped s (λ key. not (eqb key.server server)) fits).short;
      }
    where
      rest : List (Server K)
      rest = filter (λ c. not (eqb c.id server)) s.servers

      go : (key : RequestKey) (b : Bool) → eqb key.server server ≡ b
          → AllByRecursion (RequestFits s.limits rest (roles_of s.handles) s.next key) (cond (not b) (at s.requests key) [])
      go key true e = tt
      go key false e =
          request_with_servers s.servers rest s.limits (roles_of s.handles) s.next key
          (has-gone (λ c. c.id) server key.server s.servers (λ same. eqb-false key.server server e same)) (at s.requests key)
          (fits.request_lists.each key)

  server_left_fits : (s : State Q QH P PH K) (server : ℕ) → IsReached s → is_in_use s server ≡ false →
      Fits s.limits s.clients (filter (λ c. not (eqb c.id server)) s.servers) (roles_of s.handles)
      (fin_map.retain_keys s.requests (λ key. not (eqb key.server server))) s.responses s.next
  server_left_fits s server fits unused =
      let rest = filter (λ (c : Server K). not (eqb c.id server)) s.servers in
      record {
        makes_hub = fits.makes_hub;
        ports = record {
          few_clients = fits.ports.few_clients;
          few_servers = omega (arith, length-filter_le (λ (c : Server K). not (eqb c.id server)) s.servers, fits.ports.few_servers);
          client_numbers = fits.ports.client_numbers;
          server_numbers = all_filter _ (λ c. not (eqb c.id server)) s.servers fits.ports.server_numbers;
          client_pools = fits.ports.client_pools;
          server_loans = all_filter _ (λ c. not (eqb c.id server)) s.servers fits.ports.server_loans;
        };
        handles = handles_with_ports s.clients s.clients s.servers rest s.limits (roles_of s.handles) s.next (λ n role e.
            port_stays s.clients s.clients s.servers rest role (λ h. h)
            (has-gone (λ c. c.id) server (port_number role) s.servers (no_handle_of s server unused n role e))) comes fits.handles;
        counts = record {
          request_loans = fits.counts.request_loans;
          waiting = fits.counts.waiting;
          held_requests = fits.counts.held_requests;
          response_loans = λ n x e. fits.counts.response_loans n x
              (was_there n x (eqb n server) (sym (find-gone (λ c. c.id) server n s.servers) ∙ e));
          held_responses = fits.counts.held_responses;
        };
        request_lists = server_lists_fit s server fits;
        response_lists = responses_with_ports s.clients s.clients s.servers rest s.limits (roles_of s.handles) s.next comes s.responses
            fits.response_lists;
      }
    where
      comes : NoPortComes s.clients s.clients s.servers (filter (λ c. not (eqb c.id server)) s.servers) s.next
      comes n below = no_port_stays s.clients s.clients s.servers _ n (λ h. h) (hadn't (λ c. c.id) server n s.servers)

      was_there : (n : ℕ) (x : Server K) (b : Bool) → cond b None (find (λ c. eqb c.id n) s.servers) ≡ Some x
          → find (λ c. eqb c.id n) s.servers ≡ Some x
      was_there n x true e = absurd (cc)
      was_there n x false e = e

  -- after a server left that was not in use
  pub server_left_reached : (s : State Q QH P PH K) (server : ℕ) → IsReached s → is_in_use s server ≡ false
      → IsReached (after_server_left s server)
  server_left_reached s server fits unused =
      let left = servers_expired server (map (λ c. c.id) s.clients) s fits in
      let mid : State Q QH P PH K = record s { responses = left.0; expired = left.1 } in
      subst (λ (x : State Q QH P PH K). IsReached (record x {
        servers = filter (λ c. not (eqb c.id server)) x.servers;
        handles = map_handles (without_server server) x.handles;
        requests = fin_map.retain_keys x.requests (λ key. not (eqb key.server server));
        expired = with_at x.expired server [];
      })) (sym left.2)
      (subst (λ r. Fits mid.limits mid.clients (filter (λ c. not (eqb c.id server)) mid.servers) r
      (fin_map.retain_keys mid.requests (λ key. not (eqb key.server server))) mid.responses mid.next)
      (sym (roles-map_handles (without_server server) (without_server-role server) mid.handles))
      (server_left_fits mid server left.3 unused))

  -- a port that is not in use leaves
  pub without_unused_port_reached : (s : State Q QH P PH K) (port : ℕ) → IsReached s → IsReached (without_unused_port s port)
  without_unused_port_reached s port fits = go (is_in_use s port) (is_some (client_at s port)) refl
    where
      go : (used client : Bool) → is_in_use s port ≡ used → IsReached
          (cond used s (cond client (after_client_left s port) (after_server_left s port)))
      go true client e = fits
      go false true e = client_left_reached s port fits e
      go false false e = server_left_reached s port fits e

  -- a port value goes
  pub without_port_value_reached : (s : State Q QH P PH K) (n : ℕ) → IsReached s → IsReached (without_port_value s n)
  unfolding client_without server_without
  without_port_value_reached s n fits =
      let clients = map (client_without n) s.clients in
      let servers = map (server_without n) s.servers in
      let client_id : (c : Client K) → (client_without n c).id ≡ c.id = λ c. without_value_id n c.port in
      let server_id : (c : Server K) → (server_without n c).id ≡ c.id = λ c. without_value_id n c.port in
      record {
        makes_hub = fits.makes_hub;
        ports = record {
          few_clients = omega (arith, length-map s.clients (client_without n), fits.ports.few_clients);
          few_servers = omega (arith, length-map s.servers (server_without n), fits.ports.few_servers);
          client_numbers = all_map (client_without n) _ _ (λ c h. omega (arith, without_value_id n c.port, h)) s.clients
              fits.ports.client_numbers;
          server_numbers = all_map (server_without n) _ _ (λ c h. omega (arith, without_value_id n c.port, h)) s.servers
              fits.ports.server_numbers;
          client_pools = all_map (client_without n) _ _ (λ c h. omega (arith, without_value_pool n c.port, h)) s.clients
              fits.ports.client_pools;
          server_loans = all_map (server_without n) _ _ (λ c h. h) s.servers fits.ports.server_loans;
        };
        handles = handles_with_ports s.clients clients s.servers servers s.limits (roles_of s.handles) s.next (λ k role e.
            port_stays s.clients clients s.servers servers role
            (has-changed (λ c. c.id) (client_without n) client_id s.clients (port_number role))
            (has-changed (λ c. c.id) (server_without n) server_id s.servers (port_number role))) comes fits.handles;
        counts = record {
          request_loans = fits.counts.request_loans;
          waiting = fits.counts.waiting;
          held_requests = fits.counts.held_requests;
          response_loans = λ k x e. was_there k x (find (λ c. eqb c.id k) s.servers) refl
              (sym (find-changed (λ c. c.id) (server_without n) server_id k s.servers) ∙ e);
          held_responses = fits.counts.held_responses;
        };
        request_lists = requests_with_servers s.servers servers s.limits (roles_of s.handles) s.next
            (has-changed (λ c. c.id) (server_without n) server_id s.servers) s.requests fits.request_lists;
        response_lists = responses_with_ports s.clients clients s.servers servers s.limits (roles_of s.handles) s.next comes s.responses
            fits.response_lists;
      }
    where
      comes : NoPortComes s.clients (map (client_without n) s.clients) s.servers (map (server_without n) s.servers) s.next
      comes k below = no_port_stays s.clients _ s.servers _ k
          (λ h. has-same (λ c. c.id) (client_without n) (λ c. without_value_id n c.port) s.clients k ∙ h)
          (λ h. has-same (λ c. c.id) (server_without n) (λ c. without_value_id n c.port) s.servers k ∙ h)

      was_there : (k : ℕ) (x : Server K) (o : Option (Server K)) → find (λ c. eqb c.id k) s.servers ≡ o
          → option_map (server_without n) o ≡ Some x →
          tally (loans_response k) (roles_of s.handles) ≤ max_loaned_responses s.limits x.max_loaned_responses_per_request
      was_there k x None is e = absurd (cc)
      was_there k x (Some old) is e =
          let same : server_without n old ≡ x = (cc) in
          let loans : (server_without n old).max_loaned_responses_per_request ≡ x.max_loaned_responses_per_request = ap
          (λ (c : Server K). c.max_loaned_responses_per_request) same in
          subst (λ m. tally (loans_response k) (roles_of s.handles) ≤ max_loaned_responses s.limits m) (server_without_loans n old ∙ loans)
          (fits.counts.response_loans k old is)

  -- after a release
  pub after_release_reached : (s : State Q QH P PH K) (n : ℕ) → IsReached s → IsReached (after_release s n)
  after_release_reached s n fits = go (handle_at s n) refl
    where
      go : (o : Option (Handle Q QH P PH)) → handle_at s n ≡ o →
          IsReached (option_map_or (λ handle. without_unused_port
          (after_handle_gone (record s { handles = fin_map.remove s.handles n }) handle) (port_of handle)) o
          (without_unused_port (without_port_value s n) n))
      go None e = without_unused_port_reached (without_port_value s n) n (without_port_value_reached s n fits)
      go (Some h) e = without_unused_port_reached _ (port_of h) (handle_gone_reached s fits n h e)
